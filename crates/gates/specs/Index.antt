-- The clause index of a row of codes: clauses in buckets, so that a search compares only those of one bucket. Inner contracts alone cite it.
-- Assumes nothing.
use Rattle.std.specs.Prelude.{◌≡◌, ◌≢◌, Bool, true, ◌||◌, List, [], ◌∷◌, ℕ, ◌+◌, ◌-◌, ◌*◌, ◌%◌, ◌≤◌, ◌<◌, eqb, length, get_or}
use Rattle.clauses.specs.Listing.{literals}
use Rattle.clauses.specs.Row.{clause_at, Starts}

-- what a literal adds to the sum of its clause: different codes below the number of buckets add different amounts, and not in proportion to the
-- code, so that clauses over the same nets with other signs are apart
unfoldable pub share : ℕ → ℕ
share x = x % 65536 * (2 * (x % 65536) + 1)

unfoldable pub sum : List ℕ → ℕ
sum [] = 0
sum (x ∷ c) = share x + sum c

abbrev pub buckets : ℕ
buckets = 16384

-- the bucket of a clause: clauses with the same literals have the same one
unfoldable pub bucket_of : List ℕ → ℕ
bucket_of c = sum (literals c) % buckets

-- whether a clause starts at place b, which is inside the row
unfoldable pub is_start : List ℕ → ℕ → Bool
is_start row b = eqb b 0 || eqb (get_or row (b - 1) 0) 0

-- j is the first place from b on where a clause of bucket h starts, or the row's length if there is none
pub record NextIn (row : List ℕ) (h b j : ℕ) : Type 0 where
  pub low : b ≤ j
  pub high : j ≤ length row
  pub here : j < length row → (is_start row j ≡ true) × (bucket_of (clause_at row j) ≡ h)
  pub none : (p : ℕ) → b ≤ p → p < j → Starts row p → bucket_of (clause_at row p) ≢ h

-- the index has an entry for each bucket, its first clause, and then one for each place of the row: where a clause starts, the next one of its
-- bucket
pub record Indexed (row index : List ℕ) : Type 0 where
  pub room : buckets + length row ≤ length index
  pub head : (h : ℕ) → h < buckets → NextIn row h 0 (get_or index h 0)
  pub next : (b : ℕ) → Starts row b → NextIn row (bucket_of (clause_at row b)) (b + 1) (get_or index (buckets + b) 0)
