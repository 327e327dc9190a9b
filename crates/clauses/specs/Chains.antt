-- Numbers chained by buckets: `heads` has for each bucket the last number in it, `next` for each number in a bucket the one before it there;
-- numbers are counted from 1, and 0 ends a chain. Only inner contracts cite these.
-- Assumes nothing.
use Rattle.std.specs.Prelude.{◌≡◌, List, ℕ, ◌-◌, ◌≤◌, ◌<◌, length, get_or}

-- k is the last number below m in bucket b, counted from 1; 0 where there is none
pub record Last (In : ℕ → ℕ → Type 0) (b m k : ℕ) : Type 0 where
  pub low : k ≤ m
  pub at : 0 < k → In (k - 1) b
  pub none : (i : ℕ) → i < m → In i b → i < k

-- the numbers below m are chained by the buckets that they are in
pub record ChainedIn (In : ℕ → ℕ → Type 0) (m : ℕ) (heads next : List ℕ) : Type 0 where
  pub head : (b : ℕ) → b < length heads → Last In b m (get_or heads b 0)
  pub link : (i b : ℕ) → i < m → In i b → Last In b i (get_or next i 0)

-- .. each by its key
abbrev pub Chained : (ℕ → ℕ) → ℕ → List ℕ → List ℕ → Type 0
Chained key = ChainedIn (λ i b. key i ≡ b)
