-- The search for a clause in a row of codes.
-- Assumes nothing.
use Rattle.std.specs.Prelude.{◌≡◌, false, cond, Option, Some, None, ℕ, ◌+◌, ◌≤◌, ◌<◌, length, get_or}
use mathlib.Core.List.{List, [], ◌∷◌, Memᴰ}
use Rattle.clauses.specs.Clause.{clauses_in, Tautology}
use Rattle.clauses.specs.Listing.{mem, same_set, literals}
use Rattle.clauses.specs.Row.{clause_at}

-- 'The search for a companion clause stops at the first clause that holds the same literals': where it starts, if the first of the clauses
-- starts at place b and each is ended by a 0
unfoldable pub place_in : List ℕ → List (List ℕ) → ℕ → Option ℕ
place_in q [] b = None
place_in q (c ∷ cs) b = cond (same_set q c) (Some b) (place_in q cs (b + length c + 1))

-- .. in a row of codes
unfoldable pub first_place : List ℕ → List ℕ → Option ℕ
first_place row q = place_in q (clauses_in row) 0

-- no clause of the row is one that is ignored
abbrev pub Proper : List ℕ → Type 0
Proper row = (c : List ℕ) → Memᴰ c (clauses_in row) → ¬ Tautology c

-- what is searched for has no literal twice
abbrev pub Once : List ℕ → Type 0
Once q = literals q ≡ q

-- Where a clause holds a literal; inner contracts alone cite this

-- p is a place of x in the clause that starts at b, or the clause's end if x is none of its literals
pub record PlaceOf (row : List ℕ) (b x p : ℕ) : Type 0 where
  pub low : b ≤ p
  pub high : p ≤ b + length (clause_at row b)
  pub here : p < b + length (clause_at row b) → get_or row p 0 ≡ x
  pub none : p ≡ b + length (clause_at row b) → mem x (clause_at row b) ≡ false

-- a search for x from place b on has come to place i: what is found from there on is found from b on
abbrev pub GoesOn : List ℕ → ℕ → ℕ → ℕ → Type 0
GoesOn row x b i = (p : ℕ) → PlaceOf row i x p → PlaceOf row b x p
