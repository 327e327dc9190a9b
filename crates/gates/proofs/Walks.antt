-- Codes and clauses that are walked place by place: what a test says of the rest.
-- Assumes nothing.
use mathlib.Core.Path.{◌≡◌, refl, sym, ◌∙◌, ap}
use mathlib.Core.Logic.{◌≢◌}
use mathlib.Core.Bool.{true, false}
use mathlib.Core.List.{List, [], ◌∷◌}
use Prim.Native.Nat.{ℕ, ◌+◌, ◌/◌, ◌≤◌, ◌<◌}
use lib.ListN.{length, get_or, drop}
use borrow.Author.Tests.{eq-eqb, ne_eqb}
use Rattle.clauses.specs.Lists.{any, all}
use Rattle.clauses.specs.Listing.{mem, within, same_set}
use Rattle.clauses.specs.Sign.{flip, is_inverse}
use Rattle.clauses.specs.Row.{clause_at}
use Rattle.clauses.proofs.Rows.{clause_stops, clause_goes_on}
use Rattle.gates.specs.Mask.{masked}
use Rattle.gates.proofs.Masks.{masked_end, masked_on}

mem_none : (x : ℕ) → mem x [] ≡ false
unfolding mem any
mem_none x = refl

mem_here : (x y : ℕ) (c : List ℕ) → y ≡ x → mem x (y ∷ c) ≡ true
unfolding mem any
mem_here x y c e = rw (eq-eqb x y (sym e), any)

mem_later : (x y : ℕ) (c : List ℕ) → y ≢ x → mem x (y ∷ c) ≡ mem x c
unfolding mem any
mem_later x y c n = rw (ne_eqb x y (λ e. n (sym e)), any)

within_none : (d : List ℕ) → within [] d ≡ true
unfolding within all
within_none d = refl

within_yes : (x : ℕ) (c d : List ℕ) → mem x d ≡ true → within (x ∷ c) d ≡ within c d
unfolding within all
within_yes x c d e = rw (e, all)

within_no : (x : ℕ) (c d : List ℕ) → mem x d ≡ false → within (x ∷ c) d ≡ false
unfolding within all
within_no x c d e = rw (e, all)

pub same_no : (c d : List ℕ) → within c d ≡ false → same_set c d ≡ false
unfolding same_set
same_no c d e = rw e

pub same_other : (c d : List ℕ) → within c d ≡ true → same_set c d ≡ within d c
unfolding same_set
same_other c d e = rw e

-- codes with the signs of a mask from place i on
module _ (q : List ℕ) (i m : ℕ) (d : List ℕ) where
  pub all_end : length q ≤ i → within (masked m (drop i q)) d ≡ true
  all_end h = ap (λ (c : List ℕ). within c d) (masked_end q i m h) ∙ within_none d

  pub all_no : i < length q → mem (flip (is_inverse m) (get_or q i 0)) d ≡ false → within (masked m (drop i q)) d ≡ false
  all_no h e = ap (λ (c : List ℕ). within c d) (masked_on q i m h) ∙ within_no _ (masked (m / 2) (drop (i + 1) q)) d e

  pub all_on : i < length q → mem (flip (is_inverse m) (get_or q i 0)) d ≡ true → within (masked m (drop i q)) d ≡ within (masked (m / 2) (drop (i + 1) q)) d
  all_on h e = ap (λ (c : List ℕ). within c d) (masked_on q i m h) ∙ within_yes _ (masked (m / 2) (drop (i + 1) q)) d e

-- a clause from place i on
module _ (row : List ℕ) (i : ℕ) where
  module _ (x : ℕ) where
    pub holds_stop : get_or row i 0 ≡ 0 → mem x (clause_at row i) ≡ false
    holds_stop e = ap (mem x) (clause_stops row i e) ∙ mem_none x

    pub holds_here : get_or row i 0 ≢ 0 → get_or row i 0 ≡ x → mem x (clause_at row i) ≡ true
    holds_here n e = ap (mem x) (clause_goes_on row i n) ∙ mem_here x (get_or row i 0) (clause_at row (i + 1)) e

    pub holds_on : get_or row i 0 ≢ 0 → get_or row i 0 ≢ x → mem x (clause_at row i) ≡ mem x (clause_at row (i + 1))
    holds_on n m = ap (mem x) (clause_goes_on row i n) ∙ mem_later x (get_or row i 0) (clause_at row (i + 1)) m

  module _ (d : List ℕ) where
    pub within_stop : get_or row i 0 ≡ 0 → within (clause_at row i) d ≡ true
    within_stop e = ap (λ (c : List ℕ). within c d) (clause_stops row i e) ∙ within_none d

    pub within_out : get_or row i 0 ≢ 0 → mem (get_or row i 0) d ≡ false → within (clause_at row i) d ≡ false
    within_out n e = ap (λ (c : List ℕ). within c d) (clause_goes_on row i n) ∙ within_no (get_or row i 0) (clause_at row (i + 1)) d e

    pub within_on : get_or row i 0 ≢ 0 → mem (get_or row i 0) d ≡ true → within (clause_at row i) d ≡ within (clause_at row (i + 1)) d
    within_on n e = ap (λ (c : List ℕ). within c d) (clause_goes_on row i n) ∙ within_yes (get_or row i 0) (clause_at row (i + 1)) d e
