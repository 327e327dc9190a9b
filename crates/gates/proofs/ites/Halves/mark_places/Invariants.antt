use mathlib.Core.Path.{◌≡◌}
use Rattle.gates.specs.Ites.{SidesAt}
use Rattle.gates.proofs.SideMarks.{isFrom}
use Rattle.gates.proofs.ites.Halves.mark_places.Given as goal

abbrev pub invariant-loop-p : goal.invariant-loop-p
invariant-loop-p l =
    (l.p-iterator.places ≡ l.self.places) × (l.p-iterator.literal ≡ l.x)
    × SidesAt l.self.places.list.codes.now (isFrom l.self.places.list.codes.now l.x l.p-iterator.next) l.initial.marks l.marks l.initial.counts.ites l.counts.ites
    × (l.counts.ands ≡ l.initial.counts.ands) × (l.counts.xors ≡ l.initial.counts.xors)
