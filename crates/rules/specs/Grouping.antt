-- Groupings: what a round adds is closed under equivalence, and the grouping after each round. A grouping is an equivalence relation on literals, in
-- congruence closure the current set of merges; joining is merging; a round is one synchronous step of the closure.
-- Assumes nothing.
use Rattle.std.specs.Prelude.{◌⊎◌, List, ℕ, zero, suc}
use Rattle.clauses.specs.Code.{negate}
use Rattle.rules.specs.Rule.{Concludes}

-- the least grouping over R
pub data Closure (R : ℕ → ℕ → Type 0) : ℕ → ℕ → Type 0 where
  base : {a b : ℕ} → R a b → Closure R a b
  -- 'A grouping is an equivalence of literals and of the constants T and F;'
  same : {a : ℕ} → Closure R a a
  back : {a b : ℕ} → Closure R a b → Closure R b a
  chain : {a b c : ℕ} → Closure R a b → Closure R b c → Closure R a c
  -- 'if two literals are joined, so are their inverses, and F is the inverse of T.'
  inverses : {a b : ℕ} → Closure R a b → Closure R (negate a) (negate b)
  -- 'A literal joined to its own inverse joins T to F;'
  clash : {x : ℕ} → Closure R x (negate x) → Closure R 1 0
  -- 'if T and F are joined, everything is.'
  collapse : {a b : ℕ} → Closure R 1 0 → Closure R a b

-- nothing is joined
abbrev pub Nothing : ℕ → ℕ → Type 0
Nothing a b = ⊥

-- what a grouping joins, and the conclusions drawn from it
abbrev pub Next : List (List ℕ) → (ℕ → ℕ → Type 0) → ℕ → ℕ → Type 0
Next cs G a b = G a b ⊎ Concludes cs G a b

-- the grouping after n rounds: 'Grouping 0 joins nothing. One round takes every conclusion drawn from the grouping before it, adds them all
-- together and closes under equivalence.'
unfoldable pub After : List (List ℕ) → ℕ → ℕ → ℕ → Type 0
After cs zero = Closure Nothing
After cs (suc n) = Closure (Next cs (After cs n))
