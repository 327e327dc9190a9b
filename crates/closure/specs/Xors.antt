-- An XOR without one of its literals, read through leads: the nets that are left, as one number, and the literal that is their sum. Only inner
-- contracts cite these.
-- Assumes nothing.
use Rattle.std.specs.Prelude.{◌≡◌, Bool, true, not, cond, List, [], ◌∷◌, ℕ, zero, suc, ◌+◌, ◌*◌, ◌≤◌, ◌<◌, eqb, ltb, length, get_or}
use Rattle.clauses.specs.Code.{negate, net}
use Rattle.clauses.specs.Sign.{flip, is_inverse, parity}
use Rattle.gates.specs.Found.{is_xor}
use Rattle.clauses.specs.Row.{clause_at, LiteralAt}
use Rattle.rules.specs.Answer.{lead_of}
use Rattle.closure.specs.declared.nets.Rest.{Rest}

-- a row of leads: a lead leads itself, and is of the lowest net of its group
pub record LeadRow (leads : List ℕ) : Type 0 where
  pub inverse : (c : ℕ) → lead_of leads (negate c) ≡ negate (lead_of leads c)
  pub again : (c : ℕ) → lead_of leads (lead_of leads c) ≡ lead_of leads c
  pub low : (c : ℕ) → net (lead_of leads c) ≤ net c

-- a set of nets in ascending order, with net w put in, or taken out if it was in
unfoldable pub toggled : ℕ → List ℕ → List ℕ
toggled w [] = w ∷ []
toggled w (x ∷ xs) = cond (eqb w x) xs (cond (ltb w x) (w ∷ x ∷ xs) (x ∷ toggled w xs))

-- the nets that lead an odd number of the bag's literals; constants drop out
unfoldable pub odd_nets : (ℕ → ℕ) → List ℕ → List ℕ
odd_nets f [] = []
odd_nets f (x ∷ xs) = cond (eqb (net (f x)) 0) (odd_nets f xs) (toggled (net (f x)) (odd_nets f xs))

-- a set of nets as one number, 16 bits for each
unfoldable pub packed : List ℕ → ℕ
packed [] = 0
packed (x ∷ xs) = x + 65536 * packed xs

-- each net of the set is packed without loss
pub data Digits : List ℕ → Type 0 where
  none : Digits []
  more : {x : ℕ} {xs : List ℕ} → 0 < x → x < 65536 → Digits xs → Digits (x ∷ xs)

-- whether an odd number of the bag's literals have an inverse as their lead
unfoldable pub odd_sign : (ℕ → ℕ) → List ℕ → Bool
odd_sign f xs = parity (λ x. is_inverse (f x)) xs

-- what is left of a bag, through leads
unfoldable pub rest_of : (ℕ → ℕ) → List ℕ → Rest
rest_of f xs = record { key = packed (odd_nets f xs); odd = odd_sign f xs }

-- The XORs of the row, each without the literal at one place

-- the literals at the n places from b on, except that at place p, the last one first
unfoldable pub others : List ℕ → ℕ → ℕ → ℕ → List ℕ
others row p b zero = []
others row p b (suc n) = cond (eqb (b + n) p) (others row p b n) (get_or row (b + n) 0 ∷ others row p b n)

-- the XOR of the clause that starts at b, and its literal at place p
pub record XorAt (row marks : List ℕ) (b p : ℕ) : Type 0 where
  pub place : LiteralAt row b p
  pub marked : is_xor (get_or marks (b + length (clause_at row b)) 0) ≡ true

-- the other literals of its clause
unfoldable pub rest_at : List ℕ → ℕ → ℕ → List ℕ
rest_at row b p = others row p b (length (clause_at row b))

-- the nets that are left of them, as one number
unfoldable pub key_at : List ℕ → List ℕ → ℕ → ℕ → ℕ
key_at old row b p = packed (odd_nets (lead_of old) (rest_at row b p))

-- the literal at place p, turned so that it is the sum of these nets
unfoldable pub sum_at : List ℕ → List ℕ → ℕ → ℕ → ℕ
sum_at old row b p = flip (not (odd_sign (lead_of old) (rest_at row b p))) (get_or row p 0)

-- the literals of a clause of at most five, at the n places from b on, p among them, have leads that can be packed
pub record Packable (old row : List ℕ) (b n p : ℕ) : Type 0 where
  pub inside : b + n ≤ length row
  pub five : n ≤ 5
  pub low : b ≤ p
  pub high : p < b + n
  pub nets : (i : ℕ) → i < n → net (lead_of old (get_or row (b + i) 0)) < 65536
