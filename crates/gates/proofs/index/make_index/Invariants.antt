use lib.ListN.{length}
use Rattle.gates.proofs.ClauseChains.{Chained}
use Rattle.gates.proofs.index.make_index.Given as goal

abbrev pub invariant-loop-b : goal.invariant-loop-b
invariant-loop-b l = Chained l.codes (length l.initial.index) l.b l.index
