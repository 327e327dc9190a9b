use mathlib.Core.Path.{sym}
use native.Mathlib.Omega.{arith}
use Rattle.clauses.proofs.Around.{around_last, around_next}
use Rattle.gates.proofs.Threes.{in_three_is, next_last, next_inner}
use Rattle.gates.proofs.ites.next_place.Goals as goal

pub overflow_add-p : goal.overflow_add-p
overflow_add-p c = let t = (in_three_is c.args.codes.now c.args.p c.requires) in omega (arith, t.high, t.clause.inside, c.well_formed)

pub offset_bounds-codes-p : goal.offset_bounds-codes-p
offset_bounds-codes-p c = let t = (in_three_is c.args.codes.now c.args.p c.requires) in omega (arith, t.high, t.clause.inside, c.well_formed)

pub bounds-codes-p : goal.bounds-codes-p
bounds-codes-p c = let t = (in_three_is c.args.codes.now c.args.p c.requires) in omega (arith, t.high, t.clause.inside)

pub overflow_sub-result : goal.overflow_sub-result
overflow_sub-result c = omega (arith, next_last _ _ ((in_three_is c.args.codes.now c.args.p c.requires)) c.if-codes-p-eq0.true)

pub returns-then-codes-p-eq0 : goal.returns-then-codes-p-eq0
returns-then-codes-p-eq0 c =
    let e = next_last _ _ ((in_three_is c.args.codes.now c.args.p c.requires)) c.if-codes-p-eq0.true in
    omega (arith, e, around_last _ c.args.p e)

pub overflow_add-result : goal.overflow_add-result
overflow_add-result c = let t = (in_three_is c.args.codes.now c.args.p c.requires) in omega (arith, t.high, t.clause.inside, c.well_formed)

pub returns-else-codes-p-eq0 : goal.returns-else-codes-p-eq0
returns-else-codes-p-eq0 c = sym (around_next _ _ (next_inner _ _ ((in_three_is c.args.codes.now c.args.p c.requires)) c.if-codes-p-eq0.false))
