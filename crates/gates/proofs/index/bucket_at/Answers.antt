use mathlib.Core.Path.{sym, ◌∙◌}
use mathlib.Core.Logic.{◌≢◌}
use Prim.Native.Nat.{◌<◌}
use native.Mathlib.Omega.{arith}
use lib.ListN.{length, get_or}
use Rattle.clauses.proofs.Rows.{literal_within, clause_distinct}
use Rattle.gates.proofs.Buckets.{share_small, clause_sum_stop, clause_sum_on, clause_bucket}
use Rattle.gates.proofs.index.bucket_at.Goals as goal

pub loop-b-init : goal.loop-b-init
loop-b-init c = (omega arith, omega arith)

pub returns-then-x-eq0 : goal.returns-then-x-eq0
returns-then-x-eq0 c =
    let start = c in
    let turn = c.loop-b in
    clause_bucket _ (clause_distinct start.args.codes.now start.args.b start.requires.starts (start.requires.normal.once start.args.b)) turn.sum turn.invariant.0
    (omega (arith, turn.invariant.1, clause_sum_stop start.args.codes.now turn.i (sym c.literal-x.ensures ∙ c.if-x-eq0.true)))

pub overflow_add-sum : goal.overflow_add-sum
overflow_add-sum c = omega (arith, c.share.ensures, share_small c.literal-x.result)

pub overflow_add-i : goal.overflow_add-i
overflow_add-i c =
    let some : get_or c.args.codes.now c.loop-b.i 0 ≢ 0 = λ e. c.if-x-eq0.false (c.literal-x.ensures ∙ e) in
    let inside : c.loop-b.i < length c.args.codes.now = literal_within c.args.codes.now c.loop-b.i some in
    omega (arith, inside, c.well_formed)

pub loop-b-smaller : goal.loop-b-smaller
loop-b-smaller c =
    let some : get_or c.args.codes.now c.loop-b.i 0 ≢ 0 = λ e. c.if-x-eq0.false (c.literal-x.ensures ∙ e) in
    let inside : c.loop-b.i < length c.args.codes.now = literal_within c.args.codes.now c.loop-b.i some in
    omega (arith, inside)

pub loop-b-preserved : goal.loop-b-preserved
loop-b-preserved c =
    let some : get_or c.args.codes.now c.loop-b.i 0 ≢ 0 = λ e. c.if-x-eq0.false (c.literal-x.ensures ∙ e) in
    (omega arith, omega (arith, rw c.literal-x.ensures at c.share.ensures, c.loop-b.invariant.1, clause_sum_on c.args.codes.now c.loop-b.i some))
