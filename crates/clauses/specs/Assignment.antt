-- Assignments of the nets, and when one satisfies a clause list.
-- Assumes nothing.
use Rattle.std.specs.Prelude.{◌≡◌, Bool, true, false, not, ℕ}
use mathlib.Core.List.{List, Memᴰ}
use Rattle.clauses.specs.Code.{negate}
use Rattle.clauses.specs.Clause.{Mem}

-- a value for each literal and constant: F is false, an inverse has the other value
pub record Assignment (value : ℕ → Bool) : Type 0 where
  pub zero_false : value 0 ≡ false
  pub inverse : (c : ℕ) → value (negate c) ≡ not (value c)

-- some literal of the clause is true
pub record True (value : ℕ → Bool) (c : List ℕ) : Type 0 where
  pub lit : ℕ
  pub listed : Mem lit c
  pub holds : value lit ≡ true

-- every clause of the list is true
abbrev pub Satisfies : (ℕ → Bool) → List (List ℕ) → Type 0
Satisfies value cs = (c : List ℕ) → Memᴰ c cs → True value c
