-- The sides of the ITEs of a row, by number: those that the marks at place p tell of are numbers 2p and 2p + 1. Side (c, l, t) says that l is t where
-- c is true. Only inner contracts cite these.
-- Assumes nothing.
use Rattle.std.specs.Prelude.{◌≡◌, ◌≢◌, Bool, true, cond, List, ℕ, ◌+◌, ◌*◌, ◌/◌, ◌%◌, ◌≤◌, ◌<◌, eqb, length, get_or}
use Rattle.clauses.specs.Code.{negate}
use Rattle.clauses.specs.Chains.{ChainedIn}
use Rattle.gates.specs.Found.{is_select_next, is_select_after}
use Rattle.clauses.specs.Row.{clause_at, LiteralAt, around}
use Rattle.clauses.specs.Row.{start_of}
use Rattle.closure.specs.declared.hubs.SideHubs.{SideHubs}

-- place p holds a literal of a clause of three, which is ended
pub record InThree (row : List ℕ) (p : ℕ) : Type 0 where
  pub at : LiteralAt row (start_of row p) p
  pub three : length (clause_at row (start_of row p)) ≡ 3
  pub ended : start_of row p + 3 < length row

-- the places of the next literal and of the one after it
abbrev pub next_to : List ℕ → ℕ → ℕ
next_to row p = around (start_of row p) p

abbrev pub after_next : List ℕ → ℕ → ℕ
after_next row p = around (start_of row p) (next_to row p)

-- whether the side's output is at the next place; else it is at the one after it
abbrev pub is_next : ℕ → Bool
is_next s = eqb (s % 2) 0

abbrev pub select_at : List ℕ → ℕ → ℕ
select_at row s = negate (get_or row (s / 2) 0)

unfoldable pub output_at : List ℕ → ℕ → ℕ
output_at row s = negate (get_or row (cond (is_next s) (next_to row (s / 2)) (after_next row (s / 2))) 0)

unfoldable pub then_at : List ℕ → ℕ → ℕ
then_at row s = get_or row (cond (is_next s) (after_next row (s / 2)) (next_to row (s / 2))) 0

-- the mark at place p tells of the side with number s
unfoldable pub tells_of : ℕ → ℕ → Bool
tells_of s mark = cond (is_next s) (is_select_next mark) (is_select_after mark)

-- number s is a side
pub record IsSide (row marks : List ℕ) (s : ℕ) : Type 0 where
  pub in-three : InThree row (s / 2)
  pub marked : tells_of s (get_or marks (s / 2) 0) ≡ true

-- where the clause of side s starts
abbrev pub clause_of : List ℕ → ℕ → ℕ
clause_of row s = start_of row (s / 2)

-- the sides k and j make an ITE: the selects are inverses, the output is the same, and t and e are not inverses
pub record Pair (row marks : List ℕ) (k j : ℕ) : Type 0 where
  pub first : IsSide row marks k
  pub second : IsSide row marks j
  pub selects : select_at row j ≡ negate (select_at row k)
  pub outputs : output_at row j ≡ output_at row k
  pub not_inverses : then_at row j ≢ negate (then_at row k)

-- two codes as one number
abbrev pub pair_key : ℕ → ℕ → ℕ
pair_key a b = a * 4294967296 + b

-- The hubs: the sides with one select and one output are in one chain

-- side s belongs to bucket b of m
pub record InHub (row marks : List ℕ) (m s b : ℕ) : Type 0 where
  pub is-side : IsSide row marks s
  pub bucket : pair_key (select_at row s) (output_at row s) % m ≡ b

-- the sides of all places are chained
pub record Hubs {NUMBERS BUCKETS : ℕ} (row marks : List ℕ) (hubs : SideHubs NUMBERS BUCKETS) : Type 0 where
  pub some : 0 < BUCKETS
  pub room : 2 * length row ≤ NUMBERS
  pub chains : ChainedIn (InHub row marks BUCKETS) (2 * length row) hubs.heads hubs.links
