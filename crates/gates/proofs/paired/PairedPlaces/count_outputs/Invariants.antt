use mathlib.Core.Path.{◌≡◌}
use lib.ListN.{length}
use Rattle.gates.proofs.Sizes.{Counting}
use Rattle.gates.proofs.paired.PairedPlaces.count_outputs.Given as goal

abbrev pub invariant-loop-p : goal.invariant-loop-p
invariant-loop-p l =
    (length l.sizes ≡ length l.initial.sizes) × (length l.sides ≡ length l.initial.sides) × (l.p-iterator.places ≡ l.self) × (l.p-iterator.literal ≡ l.x)
    × Counting l.self.list.codes.now l.x l.sizes l.sides l.p-iterator.next
