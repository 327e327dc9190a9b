use mathlib.Core.Path.{sym, ◌∙◌}
use native.Mathlib.Omega.{arith}
use Rattle.gates.proofs.Buckets.{bucket_below}
use Rattle.gates.proofs.ClauseChains.{searching_first, searching_next}
use Rattle.gates.proofs.ClauseParts.{clause_starts}
use Rattle.gates.proofs.Firsts.{passed_first, later_copy}
use Rattle.gates.proofs.Masks.{masked_none}
use Rattle.gates.proofs.Queries.{clause_once}
use Rattle.gates.proofs.clause.Clause.is_first.Goals as goal

pub bucket_of-requires : goal.bucket_of-requires
bucket_of-requires c =
    let clause = c.args.self.now in
    rw (c.literals.ensures, masked_none) (clause_once clause.list.normal _ (clause_starts clause))

pub first_in-a-requires : goal.first_in-a-requires
first_in-a-requires c = bucket_below _ c.bucket_of.ensures

pub loop-a-init : goal.loop-a-init
loop-a-init c = searching_first c.first_in-a.ensures (rw (c.literals.ensures, masked_none) at c.bucket_of.ensures)

pub is_copy-requires : goal.is_copy-requires
is_copy-requires c = c.loop-a.invariant.passed.start (omega (arith, c.loop-a-test.true, c.args.self.now.inside))

pub returns-then-is_copy : goal.returns-then-is_copy
returns-then-is_copy c =
    sym (later_copy _ _ _ (c.loop-a.invariant.passed.start (omega (arith, c.loop-a-test.true, c.args.self.now.inside))) c.loop-a-test.true (sym c.is_copy.ensures ∙ c.if-is_copy.true))

pub next_in-a-requires : goal.next_in-a-requires
next_in-a-requires c = c.loop-a.invariant.passed.start (omega (arith, c.loop-a-test.true, c.args.self.now.inside))

pub loop-a-smaller : goal.loop-a-smaller
loop-a-smaller c = omega (arith, c.next_in-a.ensures.low, c.loop-a-test.true, c.args.self.now.inside)

pub loop-a-preserved : goal.loop-a-preserved
loop-a-preserved c =
    searching_next c.next_in-a.ensures c.loop-a.invariant (omega (arith, c.loop-a-test.true, c.args.self.now.inside)) (sym c.is_copy.ensures ∙ c.if-is_copy.false)

pub returns : goal.returns
returns c = sym (passed_first _ _ _ (clause_starts c.args.self.now) c.loop-a.invariant.passed (omega (arith, c.loop-a-test.false)))
