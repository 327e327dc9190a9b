use mathlib.Core.Path.{sym, ◌∙◌}
use Rattle.gates.proofs.Masks.{masked_none, masked_first}
use Rattle.gates.proofs.MateCounts.{no_clause, no_companion, one_of_clauses}
use Rattle.gates.proofs.Queries.{three_once, masked_once}
use Rattle.gates.proofs.index.ClauseIndex.one_half.Goals as goal
use Rattle.gates.proofs.index.ClauseIndex.one_half.Goals.{then-is_present, else-is_present}
use borrow.Table.Steps.{cases}

pub is_present-requires : goal.is_present-requires
is_present-requires c = masked_once _ _ (three_once c.requires.0 c.requires.1 c.requires.2)

pub is_present-requires-then-is_present : goal.is_present-requires-then-is_present
is_present-requires-then-is_present c = masked_once _ _ (three_once c.requires.0 c.requires.1 c.requires.2)

pub returns : goal.returns
returns c =
    let normal = c.args.self.now.normal in
    elim c.if-is_present.branch [
      | then-is_present w ↦
          cases w.is_present-then-is_present.result
          (λ t. rw (c.from.ensures, w.from-is, t)
          (one_of_clauses normal _ _ _ c.requires.0 c.requires.1 c.requires.2 (rw masked_none at (sym c.is_present.ensures ∙ w.if-is_present.true)) (rw masked_first at (sym w.is_present-then-is_present.ensures ∙ t))))
          (λ f. rw (c.from.ensures, w.from-is, f) (no_companion normal _ _ _ (rw masked_first at (sym w.is_present-then-is_present.ensures ∙ f))))
      | else-is_present w ↦ rw (c.from.ensures, w.from-is, w.if-is_present.false) (no_clause normal _ _ _ (rw masked_none at (sym c.is_present.ensures ∙ w.if-is_present.false)))
    ]
