use Rattle.closure.specs.Holding.{Put}
use Rattle.closure.proofs.inputs.Inputs.put.Given as goal

abbrev pub invariant-loop-q : goal.invariant-loop-q
invariant-loop-q l = Put l.self.codes.now l.self.old.now l.self.start l.q l.self.output l.v l.initial.held l.held
