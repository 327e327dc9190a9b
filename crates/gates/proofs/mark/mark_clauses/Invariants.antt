use mathlib.Core.Path.{◌≡◌}
use Prim.Native.Nat.{◌≤◌}
use lib.ListN.{length}
use Rattle.gates.specs.Mark.{Marking}
use Rattle.gates.proofs.mark.mark_clauses.Given as goal

abbrev pub invariant-loop-clause : goal.invariant-loop-clause
invariant-loop-clause l =
    (length l.marks ≡ length l.initial.marks) × (l.clause-iterator.list ≡ l.kinds.list) × (l.clause-iterator.start ≤ length l.kinds.list.codes.now)
    × Marking l.kinds.list.codes.now l.marks l.clause-iterator.start l.counts.ands l.counts.xors × (l.counts.ites ≡ l.initial.counts.ites)
