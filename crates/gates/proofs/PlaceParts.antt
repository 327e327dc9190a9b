-- A paired place that an iterator gives.
-- Assumes nothing.
use mathlib.Core.Path.{◌≡◌}
use mathlib.Core.Bool.{true}
use Prim.Native.Nat.{ℕ, ◌+◌}
use Rattle.std.proofs.Common.{Some}
use Rattle.gates.specs.declared.paired.PairedPlaces.{PairedPlaces}
use Rattle.gates.specs.declared.paired.PlacesWith.{PlacesWith}
use Rattle.gates.specs.Ites.{is_paired_at}
use Rattle.gates.specs.Paired.{GivesPlace}
use Rattle.gates.proofs.Sizes.{LastWith}

-- place p of literal x, where the iterator stood at k, counted from 1, and stands at r then
pub record PlaceGiven (places : PairedPlaces) (x p k r : ℕ) : Type 0 where
  pub here : k ≡ p + 1
  pub paired : is_paired_at places.list.codes.now x p ≡ true
  pub last : LastWith places.list.codes.now x p r

pub place_given : (places : PairedPlaces) (x p : ℕ) (old new : PlacesWith) → old.places ≡ places → old.literal ≡ x → GivesPlace old (Some p) new → PlaceGiven places x p old.next new.next
place_given places x p old new e f g = record { here = g.0; paired = rw (e, f) at g.1; last = rw (e, f) at g.4 }
