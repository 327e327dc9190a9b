-- The clause list: clauses one after another, each ended by 0, and what a clause is as a set of literals.
-- Assumes nothing.
use Rattle.std.specs.Prelude.{cond, ℕ, eqb, ℤ}
use mathlib.Core.List.{List, [], ◌∷◌, map, Memᴰ}
use Rattle.clauses.specs.Code.{code_of, negate}

-- the clauses with one more literal in front of the first one
unfoldable pub onto : ℕ → List (List ℕ) → List (List ℕ)
onto x [] = (x ∷ []) ∷ []
onto x (c ∷ cs) = (x ∷ c) ∷ cs

-- 'clauses one after another, each ended by 0', in a row of codes
unfoldable pub clauses_in : List ℕ → List (List ℕ)
clauses_in [] = []
clauses_in (x ∷ codes) = cond (eqb x 0) ([] ∷ clauses_in codes) (onto x (clauses_in codes))

-- .. in a row of entries
unfoldable pub clauses_of : List ℤ → List (List ℕ)
clauses_of row = clauses_in (map code_of row)

-- x is one of the clause's literals
abbrev pub Mem : ℕ → List ℕ → Type 0
Mem x c = Memᴰ x c

-- every literal of c is one of d
abbrev pub Within : List ℕ → List ℕ → Type 0
Within c d = (x : ℕ) → Mem x c → Mem x d

-- 'A clause is read as a set: a repeated literal counts once, .. and two clauses with equal sets are one.'
pub record Same (c d : List ℕ) : Type 0 where
  pub left : Within c d
  pub right : Within d c

-- 'a clause that holds a net and its inverse is ignored'
pub record Tautology (c : List ℕ) : Type 0 where
  pub lit : ℕ
  pub plain : Mem lit c
  pub inverse : Mem (negate lit) c

-- a clause with the literals of c is present: some clause of the list that is not ignored has them
pub record Present (cs : List (List ℕ)) (c : List ℕ) : Type 0 where
  pub found : List ℕ
  pub listed : Memᴰ found cs
  pub proper : ¬ Tautology found
  pub same : Same c found

-- ds 'holds every clause of' cs, as sets and ignored ones aside: so neither the order of either list nor what it repeats matters
abbrev pub Included : List (List ℕ) → List (List ℕ) → Type 0
Included cs ds = (c : List ℕ) → Present cs c → Present ds c
