use Prim.Native.Nat.{◌-◌}
use lib.ListN.{length}
use Rattle.gates.specs.Search.{GoesOn}
use Rattle.gates.proofs.same.skip_blocks.Given as goal

abbrev pub invariant-loop-i : goal.invariant-loop-i
invariant-loop-i l = GoesOn l.codes l.x l.b l.i

abbrev pub decreases-loop-i : goal.decreases-loop-i
decreases-loop-i l = length l.codes - l.i
