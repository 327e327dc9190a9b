use native.Mathlib.Omega.{arith}
use Rattle.aiger.proofs.Trees.{tree_none}
use Rattle.aiger.proofs.tree.LiteralTree.new.Goals as goal

pub invariant_of-result : goal.invariant_of-result
invariant_of-result c = tree_none 32768 (omega arith)
