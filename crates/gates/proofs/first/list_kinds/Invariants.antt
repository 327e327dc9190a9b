use mathlib.Core.Path.{◌≡◌}
use Prim.Native.Nat.{◌≤◌}
use lib.ListN.{length}
use Rattle.gates.specs.Mark.{Kinds}
use Rattle.gates.proofs.first.list_kinds.Given as goal

abbrev pub invariant-loop-clause : goal.invariant-loop-clause
invariant-loop-clause l =
    (length l.kinds ≡ length l.initial.kinds) × (l.clause-iterator.list ≡ l.list) × (l.clause-iterator.start ≤ length l.list.codes.now) × Kinds l.list.codes.now l.kinds l.clause-iterator.start
