use mathlib.Core.Path.{◌≡◌}
use Prim.Native.Nat.{◌≤◌}
use lib.ListN.{length}
use Rattle.gates.specs.Mark.{Pairing}
use Rattle.gates.proofs.mark.mark_pairs.Given as goal

abbrev pub invariant-loop-clause : goal.invariant-loop-clause
invariant-loop-clause l =
    (l.clause-iterator.list ≡ l.list) × (l.clause-iterator.start ≤ length l.list.codes.now) × Pairing l.list.codes.now l.initial.marks l.marks l.clause-iterator.start
