use Rattle.closure.proofs.ListedXors.{ClauseTo}
use Rattle.closure.proofs.xors.take_clause.Given as goal

abbrev pub invariant-loop-p : goal.invariant-loop-p
invariant-loop-p g l = ClauseTo l.codes l.marks l.old l.b l.initial.xors (record { row = l.initial.new; tally = l.initial.t }) l.p l.xors (record { row = l.new; tally = l.t })
