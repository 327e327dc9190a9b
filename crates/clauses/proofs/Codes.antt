-- Laws of literal codes.
-- Assumes nothing.
use mathlib.Core.Path.{◌≡◌}
use mathlib.Core.Logic.{◌≢◌, ◌⊎◌, inl, inr}
use Prim.Native.Nat.{ℕ, ◌*◌}
use native.Mathlib.Omega.{arith}
use native.Mathlib.Decide.{ℕ_discrete}
use Rattle.clauses.specs.Code.{negate, net}

pub negate_negate : (c : ℕ) → negate (negate c) ≡ c
negate_negate c = omega arith

pub net_negate : (c : ℕ) → net (negate c) ≡ net c
net_negate c = omega arith

pub net_double : (w : ℕ) → net (2 * w) ≡ w
net_double w = omega arith

pub negate_other : (c : ℕ) → negate c ≢ c
negate_other c = omega arith

pub negate_inj : (a b : ℕ) → negate a ≡ negate b → a ≡ b
negate_inj a b e = omega arith

pub same_net : (a b : ℕ) → net a ≡ net b → (a ≡ b) ⊎ (a ≡ negate b)
same_net a b e = go (ℕ_discrete a b)
  where
    go : Dec (a ≡ b) → (a ≡ b) ⊎ (a ≡ negate b)
    go (yes p) = inl p
    go (no n) = inr (omega arith)
