-- Clauses as sets, computed: the tests of Clause.antt, and the clause list with each clause once.
-- Assumes nothing.
use Rattle.std.specs.Prelude.{Bool, true, false, not, ◌&&◌, ◌||◌, ℕ, ◌≤◌, eqb, leb}
use mathlib.Core.List.{List, [], ◌∷◌, Memᴰ}
use Rattle.clauses.specs.Code.{negate, net}
use Rattle.clauses.specs.Clause.{Mem}
use Rattle.clauses.specs.Lists.{any, all, keep}

-- whether Mem x c
unfoldable pub mem : ℕ → List ℕ → Bool
mem x c = any (λ y. eqb x y) c

-- whether Within c d
unfoldable pub within : List ℕ → List ℕ → Bool
within c d = all (λ x. mem x d) c

-- whether Same c d
unfoldable pub same_set : List ℕ → List ℕ → Bool
same_set c d = within c d && within d c

-- whether Tautology c
unfoldable pub tautology : List ℕ → Bool
tautology c = any (λ x. mem (negate x) c) c

-- whether Present cs c
unfoldable pub present : List (List ℕ) → List ℕ → Bool
present cs c = any (λ d. same_set c d && not (tautology d)) cs

-- 'a repeated literal counts once': each where it first stands
unfoldable pub literals : List ℕ → List ℕ
literals [] = []
literals (x ∷ c) = x ∷ keep (λ y. not (eqb x y)) (literals c)

-- 'a clause that holds a net and its inverse is ignored, and two clauses with equal sets are one'
unfoldable pub clause_sets : List (List ℕ) → List (List ℕ)
clause_sets [] = []
clause_sets (c ∷ cs) = elim (tautology c || any (λ d. same_set c d) cs) [ true ↦ clause_sets cs | false ↦ literals c ∷ clause_sets cs ]

-- w is a net from 1 to V
abbrev pub NetUpTo : ℕ → ℕ → Type 0
NetUpTo v w = (1 ≤ w) × (w ≤ v)

-- every literal of the list is of a net from 1 to V
abbrev pub Fits : ℕ → List (List ℕ) → Type 0
Fits v cs = (c : List ℕ) → Memᴰ c cs → (x : ℕ) → Mem x c → NetUpTo v (net x)

-- whether Fits v cs
unfoldable pub fits : ℕ → List (List ℕ) → Bool
fits v cs = all (λ c. all (λ x. leb 1 (net x) && leb (net x) v) c) cs
