-- What the finder leaves for the rounds: the clauses as sets in a row of codes, and a row of marks that says which gates exist.
-- Assumes nothing.
use Rattle.std.specs.Prelude.{◌≡◌, ◌≢◌, ◌⊎◌, Bool, true, List, [], ◌∷◌, ℕ, ◌+◌, ◌/◌, ◌%◌, ◌<◌, eqb, length, get_or}
use Rattle.clauses.specs.Code.{negate}
use Rattle.clauses.specs.Clause.{Same, Present}
use Rattle.clauses.specs.Sign.{plus, parity, inverted}
use Rattle.clauses.specs.Row.{clause_at, Starts, LiteralAt, around}
use Rattle.gates.specs.Gate.{AndGate, XorGate, IteGate}

-- The marks

-- at a literal's place: it is the output of an AND of its clause
unfoldable pub is_and : ℕ → Bool
is_and mark = eqb (mark % 2) 1

-- at a literal's place, in a clause of three literals: its inverse is the select of an ITE whose output is the inverse of the next literal, or
-- of the one after it, and whose side t is the third
unfoldable pub is_select_next : ℕ → Bool
is_select_next mark = eqb (mark / 2 % 2) 1

unfoldable pub is_select_after : ℕ → Bool
is_select_after mark = eqb (mark / 4 % 2) 1

-- at the place of the 0 that ends a clause: the sum of the clause's literals is odd by an XOR
unfoldable pub is_xor : ℕ → Bool
is_xor mark = eqb mark 1

-- .. of two literals: the clause with both literals inverted is present too
unfoldable pub is_pair : ℕ → Bool
is_pair mark = eqb mark 2

-- The row and the marks hold the clauses and the gates of the list cs.
pub record Found (cs : List (List ℕ)) (row marks : List ℕ) : Type 0 where
  pub size : length marks ≡ length row
  -- every clause is ended by a 0
  pub ended : (b : ℕ) → Starts row b → b + length (clause_at row b) < length row
  -- the clauses, each literal once
  pub clause_is : (b : ℕ) → Starts row b → Present cs (clause_at row b)
  pub literal_once : (b p q : ℕ) → LiteralAt row b p → LiteralAt row b q → get_or row p 0 ≡ get_or row q 0 → p ≡ q
  pub clause_found : (c : List ℕ) → Present cs c → (b : ℕ) × Starts row b × Same c (clause_at row b)
  -- the clauses of two literals whose inverses are a clause too
  pub pair_is : (b : ℕ) → Starts row b → is_pair (get_or marks (b + length (clause_at row b)) 0) ≡ true
      → (length (clause_at row b) ≡ 2) × Present cs (negate (get_or row b 0) ∷ negate (get_or row (b + 1) 0) ∷ [])
  pub pair_found : (x y : ℕ) → x ≢ y → Present cs (x ∷ y ∷ []) → Present cs (negate x ∷ negate y ∷ [])
      → (b : ℕ) × Starts row b × (is_pair (get_or marks (b + length (clause_at row b)) 0) ≡ true) × Same (x ∷ y ∷ []) (clause_at row b)
  -- the ANDs
  pub and_is : (b p : ℕ) → LiteralAt row b p → is_and (get_or marks p 0) ≡ true → AndGate cs (clause_at row b) (get_or row p 0)
  pub and_found : (c : List ℕ) (l : ℕ) → AndGate cs c l
      → (b : ℕ) × (p : ℕ) × LiteralAt row b p × (is_and (get_or marks p 0) ≡ true) × Same c (clause_at row b) × (get_or row p 0 ≡ l)
  -- the XORs, with whatever signs their literals are written
  pub xor_is : (b : ℕ) → Starts row b → is_xor (get_or marks (b + length (clause_at row b)) 0) ≡ true → XorGate cs (clause_at row b) true
  pub xor_found : (ls : List ℕ) (odd : Bool) → XorGate cs ls odd
      → (b : ℕ) × (f : ℕ → Bool) × Starts row b × (is_xor (get_or marks (b + length (clause_at row b)) 0) ≡ true)
      × Same (inverted f ls) (clause_at row b) × (plus odd (parity f ls) ≡ true)
  -- the sides of the ITEs
  pub select_three : (b p : ℕ) → LiteralAt row b p → (is_select_next (get_or marks p 0) ≡ true) ⊎ (is_select_after (get_or marks p 0) ≡ true) → length (clause_at row b) ≡ 3
  pub next_is : (b p : ℕ) → LiteralAt row b p → is_select_next (get_or marks p 0) ≡ true
      → (e : ℕ) × IteGate cs (negate (get_or row (around b p) 0)) (negate (get_or row p 0)) (get_or row (around b (around b p)) 0) e
  pub after_is : (b p : ℕ) → LiteralAt row b p → is_select_after (get_or marks p 0) ≡ true
      → (e : ℕ) × IteGate cs (negate (get_or row (around b (around b p)) 0)) (negate (get_or row p 0)) (get_or row (around b p) 0) e
  pub side_found : (l c t e : ℕ) → IteGate cs l c t e
      → (b : ℕ) × (p : ℕ) × LiteralAt row b p × (get_or row p 0 ≡ negate c)
      × (((is_select_next (get_or marks p 0) ≡ true) × (get_or row (around b p) 0 ≡ negate l) × (get_or row (around b (around b p)) 0 ≡ t))
      ⊎ ((is_select_after (get_or marks p 0) ≡ true) × (get_or row (around b (around b p)) 0 ≡ negate l) × (get_or row (around b p) 0 ≡ t)))
