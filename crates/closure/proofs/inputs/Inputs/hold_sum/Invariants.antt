use Rattle.std.proofs.Common.{true}
use Rattle.closure.specs.Holding.{Put}
use Rattle.closure.specs.Matching.{Summed}
use Rattle.closure.proofs.inputs.Inputs.hold_sum.Given as goal

abbrev pub invariant-loop-q : goal.invariant-loop-q
invariant-loop-q l = Put l.self.codes.now l.self.old.now l.self.start l.q l.self.output true l.initial.held l.held × Summed l.self.codes.now l.self.old.now l.self.start l.q l.self.output l.sum
