use mathlib.Core.Path.{◌≡◌}
use Prim.Native.Nat.{ℕ}
use lib.ListN.{length, get_or}
use Rattle.gates.specs.Ites.{SidesAt}
use Rattle.gates.proofs.SideMarks.{isBelow}
use Rattle.gates.proofs.ites.mark_sides.Given as goal

abbrev pub invariant-loop-x : goal.invariant-loop-x
invariant-loop-x l =
    (length l.sizes ≡ length l.initial.sizes) × (length l.sides ≡ length l.initial.sides) × ((y : ℕ) → get_or l.sizes y 0 ≡ 0)
    × SidesAt l.places.list.codes.now (isBelow l.places.list.codes.now l.x) l.initial.marks l.marks 0 l.counts.ites
    × (l.counts.ands ≡ l.initial.counts.ands) × (l.counts.xors ≡ l.initial.counts.xors)
