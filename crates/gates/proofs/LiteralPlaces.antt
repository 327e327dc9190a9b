-- Where a clause of a row of codes holds a literal.
-- Assumes nothing.
use mathlib.Core.Path.{◌≡◌, sym, ◌∙◌, ap, subst}
use mathlib.Core.Logic.{◌≢◌}
use mathlib.Core.Bool.{true, false, ◌||◌, true≢false}
use mathlib.Core.List.{List}
use Prim.Native.Nat.{ℕ, ◌+◌, ◌≤◌, ◌<◌}
use native.Mathlib.Omega.{arith}
use native.Mathlib.Decide.{dec_lt, ℕ_discrete}
use lib.Dec.{eqb}
use lib.ListN.{length, get_or}
use borrow.Author.Tests.{eq-eqb, ne_eqb, eqb-true}
use Rattle.clauses.specs.Clause.{Mem}
use Rattle.clauses.specs.Listing.{mem}
use Rattle.clauses.specs.Row.{clause_at}
use Rattle.clauses.proofs.Lists.{or_left, or_right}
use Rattle.clauses.proofs.Clauses.{in_mem}
use Rattle.clauses.proofs.Rows.{literal_within, clause_stops, clause_goes_on, clause_ended, literal_some, place_in}
use Rattle.gates.specs.Search.{PlaceOf, GoesOn}
use Rattle.gates.proofs.Walks.{holds_stop, holds_on}

-- A search that has come to place i

module _ (row : List ℕ) (x i : ℕ) where
  -- the clause ends there
  stops : get_or row i 0 ≡ 0 → PlaceOf row i x i
  stops e =
      let z = ap length (clause_stops row i e) in
      record { low = omega arith; high = omega arith; here = λ h. absurd (omega arith); none = λ h. holds_stop row i x e }

  -- a literal
  finds : get_or row i 0 ≢ 0 → get_or row i 0 ≡ x → PlaceOf row i x i
  finds n e =
      let z = ap length (clause_goes_on row i n) in
      record { low = omega arith; high = omega arith; here = λ h. e; none = λ h. absurd (omega arith) }

  passes : get_or row i 0 ≢ 0 → get_or row i 0 ≢ x → GoesOn row x i (i + 1)
  passes n m p f =
      let z = ap length (clause_goes_on row i n) in
      record { low = omega (arith, f.low); high = omega (arith, f.high); here = λ h. f.here (omega arith); none = λ h. holds_on row i x n m ∙ f.none (omega arith) }

  module _ (e : (eqb (get_or row i 0) 0 || eqb (get_or row i 0) x) ≡ false) where
    some : get_or row i 0 ≢ 0
    some z = true≢false (sym (or_left (eqb (get_or row i 0) x) (eq-eqb _ _ z)) ∙ e)

    pub past_inside : i < length row
    past_inside = literal_within row i some

    pub goes_past : (b : ℕ) → GoesOn row x b i → GoesOn row x b (i + 1)
    goes_past b k p f = k p (passes some (λ z. true≢false (sym (or_right (eqb (get_or row i 0) 0) (eq-eqb _ _ z)) ∙ e)) p f)

  pub comes_to : (eqb (get_or row i 0) 0 || eqb (get_or row i 0) x) ≡ true → (b : ℕ) → GoesOn row x b i → PlaceOf row b x i
  comes_to e b k = k i (go (ℕ_discrete (get_or row i 0) 0))
    where
      go : Dec (get_or row i 0 ≡ 0) → PlaceOf row i x i
      go (yes z) = stops z
      go (no n) = finds n (eqb-true (get_or row i 0) x (rw (ne_eqb _ _ n) at e))

-- A place that was found

ended : (row : List ℕ) (b : ℕ) {p : ℕ} → p ≡ b + length (clause_at row b) → get_or row p 0 ≡ 0
ended row b e = rw e (clause_ended row b)

module _ {row : List ℕ} {b x p : ℕ} where
  -- any place of the clause that holds the literal
  pub place_within : b ≤ p → p ≤ b + length (clause_at row b) → 1 ≤ x → get_or row p 0 ≡ x → PlaceOf row b x p
  place_within l h n e = record { low = l; high = h; here = λ k. e; none = λ i. absurd (omega (arith, e, ended row b i)) }

  module _ (f : PlaceOf row b x p) where
    inside : get_or row p 0 ≢ 0 → p < b + length (clause_at row b)
    inside n = go (dec_lt p (b + length (clause_at row b)))
      where
        go : Dec (p < b + length (clause_at row b)) → p < b + length (clause_at row b)
        go (yes h) = h
        go (no m) = absurd (n (ended row b (omega (arith, f.high))))

    pub place_some : get_or row p 0 ≢ 0 → mem x (clause_at row b) ≡ true
    place_some n = in_mem (clause_at row b) (subst (λ (y : ℕ). Mem y (clause_at row b)) (f.here (inside n)) (place_in row b p f.low (inside n)))

    pub place_none : get_or row p 0 ≡ 0 → mem x (clause_at row b) ≡ false
    place_none e = go (dec_lt p (b + length (clause_at row b)))
      where
        go : Dec (p < b + length (clause_at row b)) → mem x (clause_at row b) ≡ false
        go (yes h) = absurd (literal_some row b p f.low h e)
        go (no m) = f.none (omega (arith, f.high))

    pub place_next : get_or row p 0 ≢ 0 → p + 1 ≤ b + length (clause_at row b)
    place_next n = omega (arith, inside n)
