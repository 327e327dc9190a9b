use Rattle.closure.proofs.AndSets.{at_place}
use Rattle.closure.proofs.inputs.Inputs.of.Goals as goal

pub invariant_of-result : goal.invariant_of-result
invariant_of-result c = record { clause = rw (c.beginning.ensures, c.clause_end.ensures) (at_place c.args.codes.now c.args.p c.requires.placed); low = c.requires.low }
