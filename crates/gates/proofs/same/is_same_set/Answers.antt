use mathlib.Core.Path.{sym, ◌∙◌}
use Rattle.gates.proofs.Walks.{same_no, same_other}
use Rattle.gates.proofs.same.is_same_set.Goals as goal

pub returns-then-is_within : goal.returns-then-is_within
returns-then-is_within c = c.is_within-then-is_within.ensures ∙ sym (same_other _ _ (sym c.is_within.ensures ∙ c.if-is_within.true))

pub returns-else-is_within : goal.returns-else-is_within
returns-else-is_within c = c.if-is_within.false ∙ sym (same_no _ _ (sym c.is_within.ensures ∙ c.if-is_within.false))
