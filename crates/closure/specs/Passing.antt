-- Passes over the clauses and the ANDs of a row: what their searches find, and what they join for one clause or AND. Only inner contracts
-- cite these.
-- Assumes nothing.
use Rattle.std.specs.Prelude.{◌≡◌, ◌≢◌, ◌⊎◌, Bool, true, false, not, ◌&&◌, Option, MatchOption, List, ℕ, ◌+◌, ◌≤◌, ◌<◌, eqb, length, get_or}
use Rattle.clauses.specs.Code.{negate}
use Rattle.clauses.specs.Clause.{Mem}
use Rattle.gates.specs.Gate.{Input}
use Rattle.gates.specs.Found.{is_pair}
use Rattle.clauses.specs.Row.{clause_at}
use Rattle.rules.specs.Answer.{lead_of}
use Rattle.closure.specs.Making.{Kernel, JoinedBy}
use Rattle.closure.specs.declared.tally.Tally.{Tally}

-- the old lead of the literal at place q
abbrev pub lead_at : List ℕ → List ℕ → ℕ → ℕ
lead_at row old q = lead_of old (get_or row q 0)

-- place q is not `skip`, and its lead is neither F nor y
unfoldable pub is_other : List ℕ → List ℕ → ℕ → ℕ → ℕ → Bool
is_other row old skip y q = not (eqb q skip) && (not (eqb (lead_at row old q) 0) && not (eqb (lead_at row old q) y))

-- r is the first place from `from` on that passes the test; `to` where none below it does
pub record First (f : ℕ → Bool) (from to r : ℕ) : Type 0 where
  pub low : from ≤ r
  pub high : r ≤ to
  pub before : (q : ℕ) → from ≤ q → q < r → f q ≡ false
  pub here : r < to → f r ≡ true

-- the first place from `from` on, below `to`, that passes the test, if there is one
abbrev pub FirstOf : (ℕ → Bool) → ℕ → ℕ → Option ℕ → Type 0
FirstOf f from to r = MatchOption r (First f from to to) (λ q. (q < to) × First f from to q)

-- rule 1 has joined what it draws from the clause that starts at b
pub record UnitJoined (row old new : List ℕ) (t : Tally) (b : ℕ) : Type 0 where
  pub unit : (k : ℕ) → Mem k (clause_at row b) → ((x : ℕ) → Mem x (clause_at row b) → x ≢ k → Kernel old x 0) → JoinedBy new t k 1
  pub empty_clause : length (clause_at row b) ≡ 0 → JoinedBy new t 1 0

-- rule 2 has joined what it draws from the clause that starts at b
abbrev pub PairJoined : List ℕ → List ℕ → List ℕ → Tally → ℕ → Type 0
PairJoined row marks new t b =
    is_pair (get_or marks (b + length (clause_at row b)) 0) ≡ true → JoinedBy new t (get_or row b 0) (negate (get_or row (b + 1) 0))

abbrev pub ClauseJoined : List ℕ → List ℕ → List ℕ → List ℕ → Tally → ℕ → Type 0
ClauseJoined row marks old new t b = UnitJoined row old new t b × PairJoined row marks new t b

-- The AND of the clause that ends at e and its literal at place p: the literals at other places are the inverses of its inputs.

-- the test has told whether P holds
abbrev pub Tells : Type 0 → Bool → Type 0
Tells P true = P
Tells P false = ¬ P

-- the literal at q is joined to T, or to the inverse of one behind it
pub data ClashAt (row old : List ℕ) (e p q : ℕ) : Type 0 where
  with_true : q ≢ p → lead_at row old q ≡ 1 → ClashAt row old e p q
  with_inverse : q ≢ p → (s : ℕ) → q < s → s < e → s ≢ p → lead_at row old s ≡ negate (lead_at row old q) → ClashAt row old e p q

-- .. of one from place b on
abbrev pub Clash : List ℕ → List ℕ → ℕ → ℕ → ℕ → Type 0
Clash row old b e p = (q : ℕ) × (b ≤ q) × (q < e) × ClashAt row old e p q

-- rule 3 has joined what it draws from the AND
pub record AndJoined (row old new : List ℕ) (t : Tally) (b p : ℕ) : Type 0 where
  pub and_false : (r : ℕ) → Input (clause_at row b) (get_or row p 0) r → Kernel old r 0 → JoinedBy new t (get_or row p 0) 0
  pub and_inverses : (r s : ℕ) → Input (clause_at row b) (get_or row p 0) r → Input (clause_at row b) (get_or row p 0) s → Kernel old r (negate s)
      → JoinedBy new t (get_or row p 0) 0
  pub and_input : (r : ℕ) → Input (clause_at row b) (get_or row p 0) r
      → ((s : ℕ) → Input (clause_at row b) (get_or row p 0) s → Kernel old s 1 ⊎ Kernel old s r) → JoinedBy new t (get_or row p 0) r
