use mathlib.Core.Path.{◌∙◌, ap}
use Rattle.rules.specs.Answer.{lead_of}
use Rattle.closure.proofs.Going.{ready_joins}
use Rattle.closure.proofs.SideMates.{side_selected}
use Rattle.closure.proofs.ite_mates.by_select.Goals as goal

pub join-requires : goal.join-requires
join-requires c = ready_joins c.requires.1

pub returns : goal.returns
returns c =
    let e = c.lead_of.ensures ∙ ap (lead_of c.args.old.now) c.select_of.ensures in let p = c.requires in record { went = λ marks r i. (side_selected r i e c.if-lead_of-ne1.false c.output_of.ensures c.then_of.ensures c.join.ensures).0; joined = λ _. (side_selected p.1 p.2 e c.if-lead_of-ne1.false c.output_of.ensures c.then_of.ensures c.join.ensures).1 }
