use Prim.Native.Nat.{◌-◌}
use lib.ListN.{length}
use Rattle.gates.proofs.Normalising.{Normalising}
use Rattle.gates.proofs.normal.normalise.Given as goal

abbrev pub invariant-loop-b : goal.invariant-loop-b
invariant-loop-b l = Normalising l.row (length l.initial.seen) (length l.initial.codes) l.n l.b l.codes l.seen

abbrev pub decreases-loop-b : goal.decreases-loop-b
decreases-loop-b l = length l.row - l.b
