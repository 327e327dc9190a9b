-- Laws of `around`: the places of a clause of three literals, one after another.
-- Assumes nothing.
use mathlib.Core.Path.{◌≡◌}
use mathlib.Core.Logic.{◌≢◌}
use Prim.Native.Nat.{ℕ, ◌+◌, ◌≤◌, ◌<◌}
use native.Mathlib.Omega.{arith}
use native.Mathlib.Decide.{ℕ_discrete}
use borrow.Author.Tests.{eq-eqb, ne_eqb}
use Rattle.clauses.specs.Row.{around}

module _ (b p : ℕ) where
  pub around_last : p ≡ b + 2 → around b p ≡ b
  unfolding around
  around_last e = rw (eq-eqb _ _ e)

  pub around_next : p ≢ b + 2 → around b p ≡ p + 1
  unfolding around
  around_next n = rw (ne_eqb _ _ n)

module _ (b p : ℕ) (low : b ≤ p) (high : p < b + 3) where
  pub around_in : (b ≤ around b p) × (around b p < b + 3)
  around_in = go (ℕ_discrete p (b + 2))
    where
      go : Dec (p ≡ b + 2) → (b ≤ around b p) × (around b p < b + 3)
      go (yes e) = rw (around_last b p e) (omega arith)
      go (no n) = rw (around_next b p n) (omega arith)

  -- the three places are different
  pub around_apart : (around b p ≢ p) × (around b (around b p) ≢ p) × (around b (around b p) ≢ around b p)
  around_apart = go (ℕ_discrete p (b + 2)) (ℕ_discrete p (b + 1))
    where
      go : Dec (p ≡ b + 2) → Dec (p ≡ b + 1) → (around b p ≢ p) × (around b (around b p) ≢ p) × (around b (around b p) ≢ around b p)
      go (yes e) d = rw (around_last b p e, around_next b b (omega arith)) (omega arith)
      go (no m) (yes e) = rw (around_next b p m, around_last b (p + 1) (omega arith)) (omega arith)
      go (no m) (no n) = rw (around_next b p m, around_next b (p + 1) (omega arith)) (omega arith)
