use Rattle.closure.proofs.SidePass.{ClauseTo}
use Rattle.closure.proofs.ite_mates.take_clause.Given as goal

abbrev pub invariant-loop-s : goal.invariant-loop-s
invariant-loop-s g l = ClauseTo l.codes l.marks l.old l.b l.initial.sides l.initial.new l.initial.t l.s l.sides l.new l.t
