use mathlib.Core.Path.{◌∙◌, ap}
use native.Mathlib.Omega.{arith}
use Rattle.rules.specs.Answer.{lead_of}
use Rattle.closure.proofs.Tests.{told_true, told_false}
use Rattle.closure.proofs.Going.{ready_joins}
use Rattle.closure.proofs.IteGroups.{then_lead, holder_three, pair_held, pair_given}
use Rattle.closure.proofs.ite_groups.match_pair.Goals as goal

pub bounds-holders-y : goal.bounds-holders-y
bounds-holders-y c =
    rw (c.lead_of-y.ensures ∙ ap (lead_of c.args.old.now) c.then_of.ensures) (omega (arith, then_lead c.requires.1 c.requires.3.second, c.requires.2.room))

pub is_held-requires : goal.is_held-requires
is_held-requires c = (c.requires.3.first.in-three, holder_three c.requires.2 c.lead_of-y.result)

pub output_of-requires-then-is_held : goal.output_of-requires-then-is_held
output_of-requires-then-is_held c = holder_three c.requires.2 c.lead_of-y.result (told_true c.if-is_held.true c.is_held.ensures).some

pub join-requires : goal.join-requires
join-requires c = ready_joins c.requires.1

pub returns-then-is_held : goal.returns-then-is_held
returns-then-is_held c =
    λ marks r h p. pair_held c.args.codes.now marks c.args.old.now c.args.holders.now c.args.new.now c.args.t r h c.args.k c.args.j p c.lead_of-y.result (c.lead_of-y.ensures ∙ ap (lead_of c.args.old.now) c.then_of.ensures) (told_true c.if-is_held.true c.is_held.ensures) _ _ c.join.ensures c.output_of.ensures c.output_of-then-is_held.ensures

pub bounds-holders-y-2 : goal.bounds-holders-y-2
bounds-holders-y-2 c =
    rw (c.lead_of-y.ensures ∙ ap (lead_of c.args.old.now) c.then_of.ensures) (omega (arith, then_lead c.requires.1 c.requires.3.second, c.requires.2.room))

pub returns : goal.returns
returns c =
    λ marks r h p. pair_given c.args.codes.now marks c.args.old.now c.args.holders.now c.args.new.now c.args.t r h c.args.k c.args.j p c.lead_of-y.result (c.lead_of-y.ensures ∙ ap (lead_of c.args.old.now) c.then_of.ensures) (told_false c.if-is_held.false c.is_held.ensures)
