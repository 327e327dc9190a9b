use Rattle.std.proofs.Common.{◌≡◌, ◌++◌, map, take, drop}
use Rattle.rules.specs.Compute.{replace}
use Rattle.closure.proofs.lead.replace_all.Given as goal

abbrev pub invariant-loop-lead : goal.invariant-loop-lead
invariant-loop-lead l = l.leads ≡ map (replace l.hi l.lo) (take l.lead-index l.initial.leads) ++ drop l.lead-index l.initial.leads
