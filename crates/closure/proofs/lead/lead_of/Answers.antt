use mathlib.Core.Path.{◌∙◌}
use Rattle.closure.proofs.Joining.{lead_constant, lead_outside, lead_inside}
use Rattle.closure.proofs.lead.lead_of.Goals as goal
use Rattle.closure.proofs.lead.lead_of.Goals.{then-w-eq0-via-then-w-eq0, then-w-eq0-via-else-w-eq0+then-leads-w}

pub returns-then-w-eq0 : goal.returns-then-w-eq0
returns-then-w-eq0 c =
    let a = c.args in
    elim c.then-w-eq0.branch [
      | then-w-eq0-via-then-w-eq0 w ↦ lead_constant a.leads.now a.code w.if-w-eq0.true
      | then-w-eq0-via-else-w-eq0+then-leads-w w ↦ lead_outside a.leads.now a.code w.if-leads-w.true
    ]

pub returns : goal.returns
returns c =
    let a = c.args in
    c.flipped.ensures ∙ rw c.is_inverse.ensures
    (lead_inside a.leads.now a.code c.if-w-eq0.false c.if-leads-w.false)
