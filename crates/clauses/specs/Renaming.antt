-- Renamings of the nets, and clause lists that are each other's images.
-- Assumes nothing.
use Rattle.std.specs.Prelude.{◌≡◌, List, map, ℕ, ◌*◌}
use Rattle.clauses.specs.Code.{negate, net}
use Rattle.clauses.specs.Clause.{Same, Present}
use Rattle.clauses.specs.Listing.{NetUpTo}

-- 'A renaming takes each net from 1 to V to a literal of one of these nets, no two to the same net, inverses to inverses, T to T and F to F;
-- what it makes of a literal or constant is its image.'
pub record Renames (v : ℕ) (ρ : ℕ → ℕ) : Type 0 where
  pub to_net : (w : ℕ) → NetUpTo v w → NetUpTo v (net (ρ (2 * w)))
  pub no_two : (w u : ℕ) → NetUpTo v w → NetUpTo v u → net (ρ (2 * w)) ≡ net (ρ (2 * u)) → w ≡ u
  pub inverses : (w : ℕ) → NetUpTo v w → ρ (negate (2 * w)) ≡ negate (ρ (2 * w))
  pub true_stays : ρ 1 ≡ 1
  pub false_stays : ρ 0 ≡ 0

-- The list ds after the changes: 'its clauses, as sets and ignored ones aside, are exactly the images of the other's under one renaming.' The image of
-- each clause of cs is there, and each clause of ds is one.
pub record Images (ρ : ℕ → ℕ) (cs ds : List (List ℕ)) : Type 0 where
  pub each : (c : List ℕ) → Present cs c → Present ds (map ρ c)
  pub only : (d : List ℕ) → Present ds d → (c : List ℕ) × Present cs c × Same d (map ρ c)
