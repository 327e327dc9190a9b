-- The circuit that an AIGER file says, and the clauses that it gives. An AIGER literal is a code of clauses/specs/Code: 0 is F, 1 is T, 2v is
-- net v and 2v + 1 its inverse.
-- Assumes nothing.
use Rattle.std.specs.Prelude.{◌≡◌, Bool, true, not, ◌&&◌, ◌||◌, ℕ, ◌%◌, eqb, ℤ, pos}
use mathlib.Core.List.{List, [], ◌∷◌, ◌++◌, map, Memᴰ}
use Rattle.clauses.specs.Code.{negate, net}
use Rattle.clauses.specs.Lists.{keep, each}
use Rattle.clauses.specs.Listing.{mem, tautology}
use Rattle.clauses.specs.Number.{signed}
use Rattle.aiger.specs.declared.ands.And.{And}

-- M, the literals of the input lines, of the output line, and the AND lines `l a b`, in file order
pub record Circuit : Type 0 where
  pub nets : ℕ
  pub inputs : List ℕ
  pub output : ℕ
  pub ands : List And

-- 'an assignment .. obeys every AND line': the output's value is the conjunction of the inputs' values
abbrev pub Obeys : (ℕ → Bool) → List And → Type 0
Obeys value gs = (g : And) → Memᴰ g gs → value g.output ≡ (value g.left && value g.right)

-- .. 'and makes the output true'
pub record Runs (value : ℕ → Bool) (k : Circuit) : Type 0 where
  pub obeys : Obeys value k.ands
  pub true_output : value k.output ≡ true

-- 'Each AND line .. gives (-l, a), (-l, b), (l, -a, -b)'
unfoldable pub and_clauses : And → List (List ℕ)
and_clauses g =
    (negate g.output ∷ g.left ∷ []) ∷ (negate g.output ∷ g.right ∷ []) ∷ (g.output ∷ negate g.left ∷ negate g.right ∷ []) ∷ []

-- 'a clause with a constant true literal, or with a net and its inverse, is left out'
unfoldable pub is_left_out : List ℕ → Bool
is_left_out c = mem 1 c || tautology c

-- 'A constant false literal is dropped from its clause'
unfoldable pub without_false : List ℕ → List ℕ
without_false c = keep (λ x. not (eqb x 0)) c

unfoldable pub simplified : List (List ℕ) → List (List ℕ)
simplified cs = map without_false (keep (λ c. not (is_left_out c)) cs)

-- the clauses of all AND lines, 'in file order'; 'last comes the output as a one-literal clause'
unfoldable pub circuit_clauses : Circuit → List (List ℕ)
circuit_clauses k = simplified (each k.ands and_clauses ++ ((k.output ∷ []) ∷ []))

-- the entry of a literal
unfoldable pub entry_of : ℕ → ℤ
entry_of x = signed (eqb (x % 2) 1) (net x)

-- document 01's literal row: 'clauses one after another, each ended by 0'
unfoldable pub literal_row : List (List ℕ) → List ℤ
literal_row cs = each cs (λ c. map entry_of c ++ (pos 0 ∷ []))
