-- A table of keys: slots in the order of entry, chained by the buckets of their keys. Only inner contracts cite these.
-- Assumes nothing.
use Rattle.std.specs.Prelude.{◌≡◌, ◌≢◌, List, ℕ, ◌≤◌, ◌<◌, ◌%◌, length, get_or, Option, Some, None}
use Rattle.clauses.specs.Chains.{Last, Chained}

-- the bucket, of m, of the key in slot k
unfoldable pub bucket_of : ℕ → List ℕ → ℕ → ℕ
bucket_of m keys k = get_or keys k 0 % m

-- the first `count` slots hold keys
pub record Table (count : ℕ) (keys next heads : List ℕ) : Type 0 where
  pub some : 0 < length heads
  pub low : count ≤ length keys
  pub room : length keys ≤ length next
  pub chains : Chained (bucket_of (length heads) keys) count heads next

-- the last slot below m with the key, if there is one
abbrev pub LastSlot : List ℕ → ℕ → ℕ → Option ℕ → Type 0
LastSlot keys key m None = (i : ℕ) → i < m → get_or keys i 0 ≢ key
LastSlot keys key m (Some k) = (k < m) × (get_or keys k 0 ≡ key) × ((i : ℕ) → i < m → get_or keys i 0 ≡ key → i ≤ k)

-- a walk along the chain of the key's bucket goes on at slot `from`, counted from 1: the last one of the bucket below `bound`
pub record ChainFrom (keys next : List ℕ) (key bound from : ℕ) : Type 0 where
  pub count : ℕ
  pub heads : List ℕ
  pub table : Table count keys next heads
  pub low : bound ≤ count
  pub last : Last (λ i b. bucket_of (length heads) keys i ≡ b) (key % length heads) bound from
