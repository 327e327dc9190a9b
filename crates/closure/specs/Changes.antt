-- Leads that have changed since the round before: at which places of a clause they stand, and at which of them a rule about its gates reads the lead.
-- Only inner contracts cite these.
-- Assumes nothing.
use Rattle.std.specs.Prelude.{◌≡◌, ◌≢◌, ◌⊎◌, true, List, ℕ, ◌+◌, length, get_or}
use Rattle.clauses.specs.Code.{net}
use Rattle.gates.specs.Found.{is_and, is_select_next, is_select_after, is_xor}
use Rattle.clauses.specs.Row.{clause_at, LiteralAt, around}
use Rattle.rules.specs.Answer.{lead_of}
use Rattle.closure.specs.Passing.{lead_at}

-- the lead of x is another one than before
abbrev pub Moved : List ℕ → List ℕ → ℕ → Type 0
Moved older old x = lead_of older x ≢ lead_of old x

-- the lead at one of these places of the clause at b has changed
pub record ChangedIn (In : ℕ → ℕ → Type 0) (row older old : List ℕ) (b : ℕ) : Type 0 where
  pub place : ℕ
  pub at : In b place
  pub moved : Moved older old (get_or row place 0)

-- the lead at place q of the clause at b is a constant
pub record ConstantAt (row old : List ℕ) (b q : ℕ) : Type 0 where
  pub at : LiteralAt row b q
  pub constant : net (lead_at row old q) ≡ 0

-- an AND of the clause at b has its output at another place than q
pub record InputAt (row marks : List ℕ) (b q : ℕ) : Type 0 where
  pub output : ℕ
  pub output-at : LiteralAt row b output
  pub mark : is_and (get_or marks output 0) ≡ true
  pub apart : output ≢ q

-- a gate ties place q of the clause at b: q is an input of an AND, or a literal of an XOR
pub record TiedAt (row marks : List ℕ) (b q : ℕ) : Type 0 where
  pub at : LiteralAt row b q
  pub by : InputAt row marks b q ⊎ (is_xor (get_or marks (b + length (clause_at row b)) 0) ≡ true)

-- place p of the clause at b holds the inverse of a select of ITEs
pub record SelectAt (row marks : List ℕ) (b p : ℕ) : Type 0 where
  pub at : LiteralAt row b p
  pub marked : (is_select_next (get_or marks p 0) ≡ true) ⊎ (is_select_after (get_or marks p 0) ≡ true)

-- place q holds the literal t of a side whose select is in the clause at b
pub record ThenAt (row marks : List ℕ) (b q : ℕ) : Type 0 where
  pub at : LiteralAt row b q
  pub three : length (clause_at row b) ≡ 3
  pub select : ℕ
  pub select-at : LiteralAt row b select
  pub by : ((is_select_next (get_or marks select 0) ≡ true) × (q ≡ around b (around b select)))
      ⊎ ((is_select_after (get_or marks select 0) ≡ true) × (q ≡ around b select))

-- rules 7 and 8 read the lead at place q of the clause at b
abbrev pub ReadAt : List ℕ → List ℕ → ℕ → ℕ → Type 0
ReadAt row marks b q = SelectAt row marks b q ⊎ ThenAt row marks b q
