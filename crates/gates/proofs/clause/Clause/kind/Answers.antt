use mathlib.Core.Path.{sym, ◌∙◌}
use Rattle.gates.proofs.ClauseKinds.{candidate_kind, three_kind, other_kind}
use Rattle.gates.proofs.clause.Clause.kind.Goals as goal

pub returns-then-not-is_candidate : goal.returns-then-not-is_candidate
returns-then-not-is_candidate c = sym (other_kind _ _ (sym c.is_candidate.ensures ∙ c.if-not-is_candidate.true))

pub returns-then-len-eq3 : goal.returns-then-len-eq3
returns-then-len-eq3 c = sym (three_kind _ _ (sym c.is_candidate.ensures ∙ c.if-not-is_candidate.false) (sym c.len.ensures ∙ c.if-len-eq3.true))

pub returns-else-len-eq3 : goal.returns-else-len-eq3
returns-else-len-eq3 c = sym (candidate_kind _ _ (sym c.is_candidate.ensures ∙ c.if-not-is_candidate.false) (λ h. c.if-len-eq3.false (c.len.ensures ∙ h)))
