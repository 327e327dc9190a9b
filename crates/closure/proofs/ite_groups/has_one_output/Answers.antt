use mathlib.Core.Path.{sym, ◌∙◌, ap}
use Rattle.rules.specs.Answer.{lead_of}
use Rattle.closure.proofs.Tables.{walk_next}
use Rattle.closure.proofs.ite_groups.has_one_output.Goals as goal

pub loop-at-preserved : goal.loop-at-preserved
loop-at-preserved g c =
    walk_next c.args.sides.now _ _ (rw c.in-Some.is at c.loop-at.invariant) _ c.slot_before-at-in-Some.ensures
    (sym (c.lead_of.ensures ∙ ap (lead_of c.args.new.now) c.output_of-in-Some.ensures) ∙ c.if-lead_of-x.false)
