-- The paired places of a literal, one after another. Inner contracts alone cite it.
-- Assumes nothing.
use Rattle.std.specs.Prelude.{◌≡◌, true, ℕ, Option, None, Some, ◌+◌}
use Rattle.clauses.specs.Chains.{Last}
use Rattle.gates.specs.Ites.{is_paired_at}
use Rattle.gates.specs.declared.paired.PlacesWith.{PlacesWith}

-- the place where the walk stands is given, and the walk stands at the one before it with the literal; or none, at the chain's end
abbrev pub GivesPlace : PlacesWith → Option ℕ → PlacesWith → Type 0
GivesPlace old None new = (old.next ≡ 0) × (new ≡ old)
GivesPlace old (Some p) new =
    (old.next ≡ p + 1) × (is_paired_at old.places.list.codes.now old.literal p ≡ true) × (new.places ≡ old.places) × (new.literal ≡ old.literal)
    × Last (λ q x. is_paired_at old.places.list.codes.now x q ≡ true) old.literal p new.next
