-- Rows: the clauses of a row of codes by their places, and what the entries of a row of entries may be.
-- Assumes nothing.
use Rattle.std.specs.Prelude.{◌≡◌, ◌⊎◌, not, cond, List, ℕ, zero, suc, ◌+◌, ◌-◌, ◌≤◌, ◌<◌, eqb, length, get_or, drop, ℤ, pos, nat_abs}
use Rattle.clauses.specs.Bytes.{front}
use Rattle.clauses.specs.Limit.{max_nets}

-- Clauses

-- the clause that starts at place b: the entries from there to the next 0, or to the row's end; none if b is past that
unfoldable pub clause_at : List ℕ → ℕ → List ℕ
clause_at row b = front (λ x. not (eqb x 0)) (drop b row)

-- a clause starts at place b: at the row's start or behind a 0
pub record Starts (row : List ℕ) (b : ℕ) : Type 0 where
  pub inside : b < length row
  pub behind : (b ≡ 0) ⊎ (get_or row (b - 1) 0 ≡ 0)

-- place p holds a literal of the clause that starts at b
pub record LiteralAt (row : List ℕ) (b p : ℕ) : Type 0 where
  pub start : Starts row b
  pub low : b ≤ p
  pub high : p < b + length (clause_at row b)

-- the clause at b, which may be empty, ends at place end
pub record Spans (row : List ℕ) (b end : ℕ) : Type 0 where
  pub inside : b ≤ length row
  pub is : end ≡ b + length (clause_at row b)

-- Places

-- where the clause starts that has the place p
unfoldable pub start_of : List ℕ → ℕ → ℕ
start_of row zero = zero
start_of row (suc p) = cond (eqb (get_or row p 0) 0) (suc p) (start_of row p)

-- the place after p in a clause of three literals that starts at b, the first one coming after the last
unfoldable pub around : ℕ → ℕ → ℕ
around b p = cond (eqb p (b + 2)) b (p + 1)

-- Entries

-- every entry is of a net up to the limit
abbrev pub SmallEntries : List ℤ → Type 0
SmallEntries row = (i : ℕ) → nat_abs (get_or row i (pos 0)) ≤ max_nets
