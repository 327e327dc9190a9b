use Rattle.std.proofs.Common.{◌≡◌, ◌-◌}
use Rattle.rules.specs.Answer.{lead_of}
use Rattle.closure.specs.Xors.{others, rest_of}
use Rattle.closure.proofs.nets.rest_of.Given as goal

abbrev pub invariant-loop-q : goal.invariant-loop-q
invariant-loop-q l = l.r ≡ rest_of (lead_of l.old) (others l.codes l.p l.b (l.q - l.b))
