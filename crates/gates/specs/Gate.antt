-- Gates found in the list, as facts about the clauses that are present. Where the document has nets, literals stand: a gate may then be
-- written in several ways, and Counted.antt says what counts once.
-- Assumes nothing.
use Rattle.std.specs.Prelude.{◌≡◌, ◌≢◌, Bool, not, List, [], ◌∷◌, ℕ, ◌≤◌, length}
use Rattle.clauses.specs.Code.{negate, net}
use Rattle.clauses.specs.Clause.{Mem, Present}
use Rattle.clauses.specs.Sign.{parity, inverted}

-- 'For a clause of three or more literals and one of them, l: the inputs are the inverses of the others': r is an input of clause c and l
pub record Input (c : List ℕ) (l r : ℕ) : Type 0 where
  pub inverse : Mem (negate r) c
  pub other : negate r ≢ l

-- 'the gate exists when for each input r the two-literal clause (not l, r) is present'
pub record AndGate (cs : List (List ℕ)) (c : List ℕ) (l : ℕ) : Type 0 where
  pub clause : Present cs c
  pub output : Mem l c
  -- three or more literals: there are two different inputs
  pub one : ℕ
  pub two : ℕ
  pub one_in : Input c l one
  pub two_in : Input c l two
  pub differ : one ≢ two
  pub pairs : (r : ℕ) → Input c l r → Present cs (negate l ∷ r ∷ [])

-- the literals are of different nets
pub data Apart : List ℕ → Type 0 where
  empty : Apart []
  more : {l : ℕ} {ls : List ℕ} → ((m : ℕ) → Mem m ls → net m ≢ net l) → Apart ls → Apart (l ∷ ls)

-- 'For three, four or five different nets: all clauses over exactly these nets with an even number of minus signs are present (then the sum
-- of the nets is odd), or all with an odd number (then it is even).' For literals: with an even number, or an odd one, of them inverted.
pub record XorGate (cs : List (List ℕ)) (ls : List ℕ) (odd : Bool) : Type 0 where
  pub three : 3 ≤ length ls
  pub five : length ls ≤ 5
  pub apart : Apart ls
  pub all : (signs : ℕ → Bool) → parity signs ls ≡ not odd → Present cs (inverted signs ls)

-- 'l = c ? t : e, .., when (-c, -l, t), (-c, l, -t), (c, -l, e), (c, l, -e) are all present.' Document 02: 'c, l and t are three different
-- nets and e is either the same literal as t or on a fourth net; t and e as inverses remain an XOR.' That is to say: l, c and e are three
-- different nets too, and e is not the inverse of t (`same_or_fourth`, proofs/ItesListed).
pub record IteGate (cs : List (List ℕ)) (l c t e : ℕ) : Type 0 where
  pub then_apart : Apart (l ∷ c ∷ t ∷ [])
  pub else_apart : Apart (l ∷ c ∷ e ∷ [])
  pub not_inverses : e ≢ negate t
  pub then_up : Present cs (negate c ∷ negate l ∷ t ∷ [])
  pub then_down : Present cs (negate c ∷ l ∷ negate t ∷ [])
  pub else_up : Present cs (c ∷ negate l ∷ e ∷ [])
  pub else_down : Present cs (c ∷ l ∷ negate e ∷ [])
