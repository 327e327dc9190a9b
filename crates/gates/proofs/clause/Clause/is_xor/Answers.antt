use mathlib.Core.Path.{sym, ◌∙◌}
use mathlib.Core.Bool.{true≢false}
use borrow.Author.Tests.{le-leb, lt-leb}
use Rattle.gates.specs.Mark.{gives_xor}
use Rattle.clauses.proofs.Clauses.{is_present}
use Rattle.gates.proofs.ClauseParts.{clause_starts}
use Rattle.gates.proofs.Marks.{clause_present}
use Rattle.gates.proofs.Queries.{nets_once}
use Rattle.gates.proofs.clause.Clause.is_xor.Goals as goal
use Rattle.gates.proofs.clause.Clause.is_xor.Goals.{then-literals-le5, else-literals-le5}

pub is_every_mask_present-requires-clause-once : goal.is_every_mask_present-requires-clause-once
is_every_mask_present-requires-clause-once c =
    let clause = c.args.self.now in
    rw c.literals-literals.ensures (nets_once clause.list.normal _ (clause_starts clause))

pub is_every_mask_present-requires-clause-clause_value : goal.is_every_mask_present-requires-clause-clause_value
is_every_mask_present-requires-clause-clause_value c =
    let clause = c.args.self.now in
    rw c.literals-literals.ensures (is_present _ _ (clause_present clause.list.normal (λ d. (λ h. h, λ h. h)) _ (clause_starts clause)))

pub returns-then-is_upright : goal.returns-then-is_upright
unfolding gives_xor
returns-then-is_upright c =
    elim c.if-literals-le5.branch [
      | then-literals-le5 w ↦
          rw (← c.literals-literals.ensures, le-leb _ 5 w.if-literals-le5.true, ← w.is_upright.ensures, sym w.value-is ∙ c.if-is_upright.true) c.is_every_mask_present.ensures
      | else-literals-le5 w ↦ absurd (true≢false (sym c.if-is_upright.true ∙ w.value-is ∙ lt-leb _ 5 w.if-literals-le5.false))
    ]

pub returns-else-is_upright : goal.returns-else-is_upright
unfolding gives_xor
returns-else-is_upright c =
    elim c.if-literals-le5.branch [
      | then-literals-le5 w ↦
          rw (c.if-is_upright.false, ← c.literals-literals.ensures, le-leb _ 5 w.if-literals-le5.true, ← w.is_upright.ensures, sym w.value-is ∙ c.if-is_upright.false)
      | else-literals-le5 w ↦ rw (c.if-is_upright.false, ← c.literals-literals.ensures, lt-leb _ 5 w.if-literals-le5.false)
    ]
