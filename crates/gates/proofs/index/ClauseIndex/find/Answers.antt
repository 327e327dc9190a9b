use mathlib.Core.Path.{sym, ◌∙◌}
use native.Mathlib.Omega.{arith}
use Rattle.gates.proofs.Buckets.{bucket_below}
use Rattle.gates.proofs.ClauseChains.{searching_first, searching_next}
use Rattle.gates.proofs.Places.{passed_all, passed_here}
use Rattle.gates.proofs.Masks.{masked_length}
use Rattle.gates.proofs.Walks.{all_end, all_no, all_on, same_no}
use Rattle.gates.proofs.Queries.{same_ended, same_longer}
use Rattle.gates.proofs.index.ClauseIndex.find.Goals as goal

pub first_in-b-requires : goal.first_in-b-requires
first_in-b-requires c = bucket_below _ c.bucket_of.ensures

pub clauses-init : goal.clauses-init
clauses-init c = searching_first c.first_in-b.ensures c.bucket_of.ensures

pub clauses-preserved-then-literal-ne0 : goal.clauses-preserved-then-literal-ne0
clauses-preserved-then-literal-ne0 c =
    searching_next c.next_in-b.ensures c.clauses.invariant c.if-n-b.false
    (same_longer _ _ _ _ (masked_length _ _) c.requires c.args.self.now.normal (c.clauses.invariant.passed.start c.if-n-b.false) (λ e. c.if-literal-ne0.true (c.literal.ensures ∙ e)))

pub clauses-preserved : goal.clauses-preserved
clauses-preserved c =
    let step = c.literals in
    searching_next c.next_in-b.ensures c.clauses.invariant c.if-n-b.false
    (same_no _ _ (step.invariant ∙ all_no c.args.q.now step.x-index step.m _ (omega arith) (rw c.flipped.ensures at (sym c.holds.ensures ∙ c.if-not-holds.true))))

pub literals-preserved : goal.literals-preserved
literals-preserved c =
    let step = c.literals in
    step.invariant ∙ all_on c.args.q.now step.x-index step.m _ (omega arith) (rw c.flipped.ensures at (sym c.holds.ensures ∙ c.if-not-holds.false))

pub returns-then-n-b : goal.returns-then-n-b
returns-then-n-b c = passed_all c.clauses.invariant.passed c.if-n-b.true

pub returns-after-literals : goal.returns-after-literals
returns-after-literals c =
    let step = c.literals in
    passed_here c.clauses.invariant.passed c.if-n-b.false
    (same_ended _ _ _ _ (masked_length _ _) c.requires (step.invariant ∙ all_end c.args.q.now step.x-index step.m _ (omega arith)) (sym c.literal.ensures ∙ c.if-literal-ne0.false))
