use Prim.Native.Nat.{◌-◌, ◌*◌}
use Rattle.aiger.proofs.Trees.{Searching}
use Rattle.aiger.proofs.tree.find.Given as goal

abbrev pub invariant-loop-node : goal.invariant-loop-node
invariant-loop-node l = Searching l.x l.n l.keys l.links l.slot l.rest l.node

abbrev pub decreases-loop-node : goal.decreases-loop-node
decreases-loop-node l = 2 * l.n - l.slot
