use Rattle.std.proofs.Common.{sym, ◌∙◌}
use mathlib.Core.Path.{subst⁻¹}
use borrow.Author.Tests.{eq-eqb}
use Rattle.closure.specs.Passing.{Tells, with_true}
use Rattle.closure.specs.Inputs.{InputClash}
use Rattle.closure.proofs.AndClashes.{clash_skip, clash_rest}
use Rattle.closure.proofs.inputs.Inputs.is_clash.Goals as goal

pub returns-then-q-self : goal.returns-then-q-self
unfolding InputClash
returns-then-q-self c = clash_skip _ _ _ _ _ c.if-q-self.true

pub returns-then-y-eq1 : goal.returns-then-y-eq1
unfolding InputClash
returns-then-y-eq1 c = subst⁻¹ (Tells (InputClash c.args.self.now c.args.q)) (eq-eqb _ 1 c.if-y-eq1.true) (with_true c.if-q-self.false (sym c.lead_of-y.ensures ∙ c.if-y-eq1.true))

pub returns-else-y-eq1 : goal.returns-else-y-eq1
unfolding InputClash
returns-else-y-eq1 c =
    let i = c.args.self.now in
    clash_rest i.codes.now i.old.now i.end i.output c.args.q c.if-q-self.false (λ d. c.if-y-eq1.false (c.lead_of-y.ensures ∙ d)) c.has_lead.result
    (rw (c.inverse.ensures, c.lead_of-y.ensures) at c.has_lead.ensures)
