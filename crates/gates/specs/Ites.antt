-- The halves of ITEs by their places in a row of codes: which of them make an ITE, and how many ITEs there are; no entry point's contract cites
-- these.
-- Assumes nothing.
use Rattle.std.specs.Prelude.{◌≡◌, Bool, true, false, not, cond, ◌&&◌, List, [], ◌∷◌, map, ℕ, zero, suc, ◌+◌, ◌*◌, ◌/◌, ◌%◌, ◌≤◌, ◌<◌, eqb, ltb, length, get_or}
use Rattle.clauses.specs.Code.{negate}
use Rattle.clauses.specs.Clause.{clauses_in}
use Rattle.clauses.specs.Lists.{keep, each}
use Rattle.clauses.specs.Listing.{present}
use Rattle.clauses.specs.Sign.{is_inverse}
use Rattle.clauses.specs.Row.{clause_at, start_of, around}
use Rattle.clauses.specs.Chains.{ChainedIn}
use Rattle.gates.specs.Normal.{max_code}
use Rattle.gates.specs.Mark.{is_first}

-- Pairs of clauses: (x, y, z) and (x, not y, not z)

-- place p holds a literal of a clause of three literals, and the 0 that ends the clause is in the row
unfoldable pub in_three : List ℕ → ℕ → Bool
in_three row p = ltb p (start_of row p + 3) && (ltb (start_of row p + 3) (length row) && eqb (length (clause_at row (start_of row p))) 3)

-- the other two literals of that clause: the next one, and the one after it
unfoldable pub other : List ℕ → ℕ → Bool → ℕ
other row p false = get_or row (around (start_of row p) p) 0
other row p true = get_or row (around (start_of row p) (around (start_of row p) p)) 0

-- the clause of place p is the first one with its three literals, and the clause with the other two inverted is present: if the inverse of
-- the literal at p is true, then the other two are inverses of each other
unfoldable pub is_paired : List ℕ → ℕ → Bool
is_paired row p =
    in_three row p && (is_first row (start_of row p) && present (clauses_in row) (get_or row p 0 ∷ negate (other row p false) ∷ negate (other row p true) ∷ []))

-- .. and the literal at p is x
unfoldable pub is_paired_at : List ℕ → ℕ → ℕ → Bool
is_paired_at row x p = is_paired row p && eqb (get_or row p 0) x

-- Halves

-- at a paired place, whose literal's inverse selects: the output is the inverse of the next literal, or of the one after it
pub record Half : Type 0 where
  pub place : ℕ
  pub after : Bool

-- the two at a place
unfoldable pub halves_at : ℕ → List Half
halves_at p = record { place = p; after = false } ∷ record { place = p; after = true } ∷ []

-- all of them by number: those at place p are numbers 2p and 2p + 1
abbrev pub half : ℕ → Half
half j = record { place = j / 2; after = eqb (j % 2) 1 }

-- those of the numbers below k
unfoldable pub halves : ℕ → List Half
halves zero = []
halves (suc j) = half j ∷ halves j

-- those of a row
unfoldable pub all_halves : List ℕ → List Half
all_halves row = halves (2 * length row)

-- the output's inverse, and the side
unfoldable pub output : List ℕ → Half → ℕ
output row h = other row h.place h.after

unfoldable pub side : List ℕ → Half → ℕ
side row h = other row h.place (not h.after)

-- the half stands at a paired place of literal x, and has the output whose inverse is y
unfoldable pub is_of : List ℕ → ℕ → ℕ → Half → Bool
is_of row x y h = is_paired_at row x h.place && eqb (output row h) y

-- such a half with side w
unfoldable pub is_half : List ℕ → ℕ → ℕ → ℕ → Half → Bool
is_half row x y w h = is_of row x y h && eqb (side row h) w

-- such a half with a side other than the inverse of z
unfoldable pub is_mate : List ℕ → ℕ → ℕ → ℕ → Half → Bool
is_mate row x y z h = is_of row x y h && not (eqb (side row h) (negate z))

-- the halves that make an ITE with a half: the selects are inverses, the output is the same, and the sides are not inverses
unfoldable pub mates : List ℕ → Half → List Half
mates row h = keep (is_mate row (negate (get_or row h.place 0)) (output row h) (side row h)) (all_halves row)

-- The marks

-- the half is the side of an ITE
unfoldable pub is_side : List ℕ → Half → Bool
is_side row h = is_paired row h.place && ltb 0 (length (mates row h))

-- what the sides add to the mark of a place
unfoldable pub side_mark : List ℕ → ℕ → ℕ
side_mark row p = cond (is_side row (record { place = p; after = false })) 2 0 + cond (is_side row (record { place = p; after = true })) 4 0

-- the marks with those of the sides added
pub record Sided (row before after : List ℕ) : Type 0 where
  pub size : length after ≡ length before
  pub at : (p : ℕ) → get_or after p 0 ≡ get_or before p 0 + side_mark row p

-- The count

-- select and output of the half are plain nets
unfoldable pub is_plain_half : List ℕ → Half → Bool
is_plain_half row h = is_paired row h.place && (is_inverse (get_or row h.place 0) && is_inverse (output row h))

-- the pairs of halves that make an ITE whose select and output are plain nets
unfoldable pub pairs_of : List ℕ → List Half → List (Half × Half)
pairs_of row hs = each (keep (is_plain_half row) hs) (λ h. map (λ m. (h, m)) (mates row h))

-- the marks of the sides are added at the places that pass the test, and their pairs of halves counted from start on
pub record SidesAt (row : List ℕ) (test : ℕ → Bool) (before after : List ℕ) (start total : ℕ) : Type 0 where
  pub size : length after ≡ length before
  pub at : (p : ℕ) → get_or after p 0 ≡ get_or before p 0 + cond (test p) (side_mark row p) 0
  pub count : total ≡ start + length (pairs_of row (keep (λ h. test h.place) (all_halves row)))

-- Rows of the count

-- the paired places below k are chained by their literals
abbrev pub PlacesChained : List ℕ → ℕ → List ℕ → List ℕ → Type 0
PlacesChained row = ChainedIn (λ p x. is_paired_at row x p ≡ true)

-- there is room for the chains: an entry for each literal and its inverse, not more than 32 bits can number, and one for each place
pub record Room (row : List ℕ) (heads chain : ℕ) : Type 0 where
  pub literals : max_code < heads
  pub inverses : heads % 2 ≡ 0
  pub fits : heads < 4294967296
  pub places : length row ≤ chain

-- how many halves of the numbers below k have literal x and the output whose inverse is y
unfoldable pub size_of : List ℕ → ℕ → ℕ → ℕ → ℕ
size_of row x y k = length (keep (is_of row x y) (halves k))

-- the halves with literal x, counted by their outputs; where there are some, `sides` has the side of one
pub record Sized (row : List ℕ) (x : ℕ) (sizes sides : List ℕ) : Type 0 where
  pub size : (y : ℕ) → get_or sizes y 0 ≡ size_of row x y (2 * length row)
  pub some : (y : ℕ) → 0 < get_or sizes y 0 → 0 < length (keep (is_half row x y (get_or sides y 0)) (all_halves row))
