use Rattle.std.proofs.Common.{◌-◌, length}
use Rattle.closure.proofs.WorklistSteps.{AllBelow}
use Rattle.closure.proofs.worklist.list_all.Given as goal

abbrev pub invariant-loop-b : goal.invariant-loop-b
invariant-loop-b l = AllBelow l.codes l.list l.clauses l.b

abbrev pub decreases-loop-b : goal.decreases-loop-b
decreases-loop-b l = length l.codes - l.b
