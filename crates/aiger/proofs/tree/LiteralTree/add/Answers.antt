use Prim.Native.Nat.{◌<◌}
use native.Mathlib.Omega.{arith}
use lib.ListN.{length}
use lib.Seq.{length-take-le}
use Rattle.aiger.proofs.Trees.{tree_added}
use Rattle.aiger.proofs.tree.LiteralTree.add.Goals as goal

pub invariant_of-self : goal.invariant_of-self
invariant_of-self c =
    let t = c.self.inside in
    let room : t.len < length t.keys = omega (arith, length-take-le t.len t.keys c.self.invariant.room, rw (← c.self.view_is) at c.requires) in
    tree_added c.args.x t.len t.keys t.links c.self.invariant room _ c.in-Some.ensures
