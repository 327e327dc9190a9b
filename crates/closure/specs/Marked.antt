-- A row of clauses whose marks are right: some clauses of a list, with the gates found in the list. Only inner contracts cite these.
-- Assumes nothing.
use Rattle.std.specs.Prelude.{◌≡◌, ◌⊎◌, true, List, [], ◌∷◌, ℕ, ◌+◌, ◌≤◌, ◌<◌, length, get_or}
use Rattle.clauses.specs.Limit.{max_nets, max_entries}
use Rattle.clauses.specs.Code.{negate}
use Rattle.clauses.specs.Clause.{Present}
use Rattle.clauses.specs.Listing.{Fits}
use Rattle.gates.specs.Gate.{AndGate, XorGate, IteGate}
use Rattle.gates.specs.Found.{is_and, is_select_next, is_select_after, is_xor, is_pair}
use Rattle.clauses.specs.Row.{clause_at, Starts, LiteralAt, around}
use Rattle.closure.specs.Making.{Making, Later}
use Rattle.closure.specs.Xors.{LeadRow}
use Rattle.closure.specs.declared.tally.Tally.{Tally}

-- every clause of the row is ended by a 0 within it
abbrev pub Ended : List ℕ → Type 0
Ended row = (b : ℕ) → Starts row b → b + length (clause_at row b) < length row

-- what the row and the marks say holds of the list cs: the half of `Found` that speaks of marks that are set
pub record Marked (cs : List (List ℕ)) (row marks : List ℕ) : Type 0 where
  pub size : length marks ≡ length row
  pub ended : Ended row
  pub clause_is : (b : ℕ) → Starts row b → Present cs (clause_at row b)
  pub literal_once : (b p q : ℕ) → LiteralAt row b p → LiteralAt row b q → get_or row p 0 ≡ get_or row q 0 → p ≡ q
  pub pair_is : (b : ℕ) → Starts row b → is_pair (get_or marks (b + length (clause_at row b)) 0) ≡ true
      → (length (clause_at row b) ≡ 2) × Present cs (negate (get_or row b 0) ∷ negate (get_or row (b + 1) 0) ∷ [])
  pub and_is : (b p : ℕ) → LiteralAt row b p → is_and (get_or marks p 0) ≡ true → AndGate cs (clause_at row b) (get_or row p 0)
  pub xor_is : (b : ℕ) → Starts row b → is_xor (get_or marks (b + length (clause_at row b)) 0) ≡ true → XorGate cs (clause_at row b) true
  pub select_three : (b p : ℕ) → LiteralAt row b p → (is_select_next (get_or marks p 0) ≡ true) ⊎ (is_select_after (get_or marks p 0) ≡ true) → length (clause_at row b) ≡ 3
  pub next_is : (b p : ℕ) → LiteralAt row b p → is_select_next (get_or marks p 0) ≡ true
      → (e : ℕ) × IteGate cs (negate (get_or row (around b p) 0)) (negate (get_or row p 0)) (get_or row (around b (around b p)) 0) e
  pub after_is : (b p : ℕ) → LiteralAt row b p → is_select_after (get_or marks p 0) ≡ true
      → (e : ℕ) × IteGate cs (negate (get_or row (around b (around b p)) 0)) (negate (get_or row p 0)) (get_or row (around b p) 0) e

-- .. of some list
abbrev pub MarkedOfSome : List ℕ → List ℕ → Type 0
MarkedOfSome row marks = (cs : List (List ℕ)) × Marked cs row marks

-- a round is being made for some list whose clauses and gates the row holds; the old leads are leads
pub record Ready (row marks old new : List ℕ) (t : Tally) : Type 0 where
  pub of : List (List ℕ)
  pub marked : Marked of row marks
  pub fits : Fits (length old) of
  pub making : Making of old new t
  pub leads : LeadRow old
  pub nets : length old ≤ max_nets
  pub entries : length row ≤ max_entries

-- the round has gone on by conclusions that the row's clauses and gates draw
pub record Went (row marks old new : List ℕ) (t : Tally) (new' : List ℕ) (t' : Tally) : Type 0 where
  pub making : (cs : List (List ℕ)) → Marked cs row marks → Fits (length old) cs → Making cs old new t → Making cs old new' t'
  pub later : Later new t new' t'
