-- The gates of a clause list, computed.
-- Assumes nothing.
use Rattle.std.specs.Prelude.{Bool, true, false, not, ◌&&◌, List, [], ◌∷◌, ◌++◌, map, ℕ, ◌*◌, length, eqb, leb}
use Rattle.clauses.specs.Code.{negate, net}
use Rattle.clauses.specs.Lists.{all, keep, each, only, from, picks}
use Rattle.clauses.specs.Listing.{present, clause_sets}

-- the output l and the inputs of an AND
pub record And : Type 0 where
  pub l : ℕ
  pub inputs : List ℕ

-- one for each pair of a clause and one of its literals
unfoldable pub ands : List (List ℕ) → List And
ands cs =
    each (clause_sets cs) (λ c.
    each (picks c) (λ p.
    only (leb 3 (length c) && all (λ k. present cs (negate p.0 ∷ negate k ∷ [])) p.1)
    (record { l = p.0; inputs = map negate p.1 } ∷ [])))

-- the literals with some inverted, an odd number of them where the bit is set
unfoldable pub signings : List ℕ → Bool → List (List ℕ)
signings [] false = [] ∷ []
signings [] true = []
signings (l ∷ ls) b = map (λ c. l ∷ c) (signings ls b) ++ map (λ c. negate l ∷ c) (signings ls (not b))

-- the clauses of the XORs: all that differ from one in an even number of signs are present, so that the sum of its literals is odd
unfoldable pub xor_clauses : List (List ℕ) → List (List ℕ)
xor_clauses cs = keep (λ c. leb 3 (length c) && (leb (length c) 5 && all (present cs) (signings c false))) (clause_sets cs)

-- l = c ? t : e
pub record Ite : Type 0 where
  pub l : ℕ
  pub c : ℕ
  pub t : ℕ
  pub e : ℕ

-- the literals of nets 1 to V
unfoldable pub literals_of : ℕ → List ℕ
literals_of v = from 2 (2 * v)

-- l, c and t are of different nets, and the two clauses of the side t are present
unfoldable pub is_then : List (List ℕ) → ℕ → ℕ → ℕ → Bool
is_then cs l c t =
    not (eqb (net c) (net l)) && (not (eqb (net t) (net l)) && (not (eqb (net t) (net c)) &&
    (present cs (negate c ∷ negate l ∷ t ∷ []) && present cs (negate c ∷ l ∷ negate t ∷ []))))

-- e is of another net than l and c, and not the inverse of t, and the two clauses of the side e are present
unfoldable pub is_else : List (List ℕ) → ℕ → ℕ → ℕ → ℕ → Bool
is_else cs l c t e =
    not (eqb (net e) (net l)) && (not (eqb (net e) (net c)) && (not (eqb e (negate t)) &&
    (present cs (c ∷ negate l ∷ e ∷ []) && present cs (c ∷ l ∷ negate e ∷ []))))

-- the ITEs, each in every way to write it
unfoldable pub ites : ℕ → List (List ℕ) → List Ite
ites v cs =
    each (literals_of v) (λ l. each (literals_of v) (λ c. each (literals_of v) (λ t.
    only (is_then cs l c t) (each (literals_of v) (λ e.
    only (is_else cs l c t e) (record { l = l; c = c; t = t; e = e } ∷ []))))))
