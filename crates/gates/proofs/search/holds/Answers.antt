use mathlib.Core.Path.{sym, ◌∙◌}
use mathlib.Core.Logic.{◌≢◌}
use Prim.Native.Nat.{◌<◌}
use native.Mathlib.Omega.{arith}
use lib.ListN.{length, get_or}
use Rattle.clauses.proofs.Rows.{literal_within}
use Rattle.gates.proofs.Walks.{holds_stop, holds_here, holds_on}
use Rattle.gates.proofs.search.holds.Goals as goal

pub returns-then-literal-x : goal.returns-then-literal-x
returns-then-literal-x c =
    let some : get_or c.args.codes.now c.loop-b.i 0 ≢ 0 = λ e. c.loop-b-test.true (c.literal.ensures ∙ e) in
    sym (c.loop-b.invariant ∙ holds_here c.args.codes.now c.loop-b.i c.args.x some (sym c.literal-in-loop-b.ensures ∙ c.if-literal-x.true))

pub overflow_add-i : goal.overflow_add-i
overflow_add-i c =
    let some : get_or c.args.codes.now c.loop-b.i 0 ≢ 0 = λ e. c.loop-b-test.true (c.literal.ensures ∙ e) in
    let inside : c.loop-b.i < length c.args.codes.now = literal_within c.args.codes.now c.loop-b.i some in
    omega (arith, inside, c.well_formed)

pub loop-b-smaller : goal.loop-b-smaller
loop-b-smaller c =
    let some : get_or c.args.codes.now c.loop-b.i 0 ≢ 0 = λ e. c.loop-b-test.true (c.literal.ensures ∙ e) in
    let inside : c.loop-b.i < length c.args.codes.now = literal_within c.args.codes.now c.loop-b.i some in
    omega (arith, inside)

pub loop-b-preserved : goal.loop-b-preserved
loop-b-preserved c =
    let some : get_or c.args.codes.now c.loop-b.i 0 ≢ 0 = λ e. c.loop-b-test.true (c.literal.ensures ∙ e) in
    c.loop-b.invariant ∙ holds_on c.args.codes.now c.loop-b.i c.args.x some (λ e. c.if-literal-x.false (c.literal-in-loop-b.ensures ∙ e))

pub returns : goal.returns
returns c = sym (c.loop-b.invariant ∙ holds_stop c.args.codes.now c.loop-b.i c.args.x (sym c.literal.ensures ∙ c.loop-b-test.false))
