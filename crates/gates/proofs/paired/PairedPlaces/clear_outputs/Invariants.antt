use mathlib.Core.Path.{◌≡◌}
use lib.ListN.{length}
use Rattle.gates.proofs.Sizes.{Clearing}
use Rattle.gates.proofs.paired.PairedPlaces.clear_outputs.Given as goal

abbrev pub invariant-loop-p : goal.invariant-loop-p
invariant-loop-p l =
    (length l.sizes ≡ length l.initial.sizes) × (l.p-iterator.places ≡ l.self) × (l.p-iterator.literal ≡ l.x) × Clearing l.self.list.codes.now l.x l.sizes l.p-iterator.next
