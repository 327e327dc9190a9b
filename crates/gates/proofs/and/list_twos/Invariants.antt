use mathlib.Core.Path.{◌≡◌}
use Prim.Native.Nat.{◌≤◌}
use lib.ListN.{length}
use Rattle.gates.specs.Mark.{Twos}
use Rattle.gates.proofs.and.list_twos.Given as goal

abbrev pub invariant-loop-clause : goal.invariant-loop-clause
invariant-loop-clause l =
    (length l.twos ≡ length l.initial.twos) × (l.clause-iterator.list ≡ l.list) × (l.clause-iterator.start ≤ length l.list.codes.now) × Twos l.list.codes.now l.twos l.clause-iterator.start
