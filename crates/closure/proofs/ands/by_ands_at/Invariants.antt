use Rattle.closure.specs.Holding.{Blank}
use Rattle.closure.specs.Marked.{Went}
use Rattle.closure.proofs.AndOutputs.{ClauseDone}
use Rattle.closure.proofs.ands.by_ands_at.Given as goal

abbrev pub invariant-loop-p : goal.invariant-loop-p
invariant-loop-p l = Went l.codes l.marks l.old l.initial.new l.initial.t l.new l.t × ClauseDone l.codes l.marks l.old l.new l.t l.b l.p × Blank l.held
