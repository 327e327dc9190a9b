-- Signs: literals with some inverted, and how many are.
-- Assumes nothing.
use Rattle.std.specs.Prelude.{Bool, true, false, not, List, [], ◌∷◌, map, ℕ, ◌%◌, eqb}
use Rattle.clauses.specs.Code.{negate}

-- the sum of two bits without carry
abbrev pub plus : Bool → Bool → Bool
plus false b = b
plus true b = not b

-- the literal, inverted where the bit is set
abbrev pub flip : Bool → ℕ → ℕ
flip false c = c
flip true c = negate c

-- whether the literal is an inverse: it carries a minus sign
unfoldable pub is_inverse : ℕ → Bool
is_inverse c = eqb (c % 2) 1

-- whether an odd number of the list's elements have the property
abbrev pub parity : (ℕ → Bool) → List ℕ → Bool
parity f [] = false
parity f (x ∷ xs) = plus (f x) (parity f xs)

-- the literals, those inverted that have the property
abbrev pub inverted : (ℕ → Bool) → List ℕ → List ℕ
inverted f c = map (λ (x : ℕ). flip (f x) x) c
