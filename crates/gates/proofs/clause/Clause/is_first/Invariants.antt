use Prim.Native.Nat.{◌-◌}
use lib.ListN.{length}
use Rattle.clauses.specs.Row.{clause_at}
use Rattle.gates.proofs.ClauseChains.{Searching}
use Rattle.gates.proofs.clause.Clause.is_first.Given as goal

abbrev pub invariant-loop-a : goal.invariant-loop-a
invariant-loop-a l = Searching l.self.list.codes.now (clause_at l.self.list.codes.now l.self.start) l.a

abbrev pub decreases-loop-a : goal.decreases-loop-a
decreases-loop-a l = length l.self.list.codes.now - l.a
