-- Halves of ITEs at their places.
-- Assumes nothing.
use mathlib.Core.Path.{◌≡◌, refl, ◌∙◌, ap, ap₂}
use mathlib.Core.Bool.{Bool, true, false, cond, ◌&&◌}
use mathlib.Core.List.{List, [], ◌∷◌, map}
use Prim.Native.Nat.{ℕ, zero, suc, ◌+◌, ◌-◌, ◌*◌, ◌/◌, ◌%◌, ◌^◌, ◌<◌, ◌≤◌}
use native.Mathlib.Omega.{arith}
use borrow.Author.Tests.{eq-eqb, ne_eqb}
use borrow.Table.Steps.{cases}
use lib.Dec.{eqb, ltb}
use lib.ListN.{length, get_or, length-map}
use Rattle.clauses.specs.Code.{negate}
use Rattle.clauses.specs.Clause.{clauses_in}
use Rattle.clauses.specs.Lists.{keep, each}
use Rattle.clauses.specs.Listing.{present}
use Rattle.clauses.specs.Sign.{is_inverse}
use Rattle.clauses.specs.Row.{clause_at, start_of, around}
use Rattle.clauses.proofs.Clauses.{same_present}
use Rattle.clauses.proofs.Lists.{and_both, keep_yes, keep_no, each_length}
use Rattle.clauses.proofs.Around.{around_in}
use Rattle.gates.specs.Normal.{Normal, max_code}
use Rattle.gates.specs.Mark.{is_first}
use Rattle.gates.specs.Ites.{in_three, other, is_paired, Half, halves_at, half, halves, all_halves, output, side, is_mate, mates, is_side, side_mark, is_plain_half, pairs_of}
use Rattle.gates.specs.Mask.{masked}
use Rattle.gates.proofs.Threes.{in_three_is, is_in_three, start_around, masked_others}

-- The numbers of the halves at a place

pub even_half : (p : ℕ) → half (2 * p) ≡ record { place = p; after = false }
even_half p = let e : 2 * p / 2 ≡ p = omega arith in let f : eqb (2 * p % 2) 1 ≡ false = ne_eqb (2 * p % 2) 1 (omega arith) in λ i. record { place = e i; after = f i }

pub odd_half : (p : ℕ) → half (2 * p + 1) ≡ record { place = p; after = true }
odd_half p = let e : (2 * p + 1) / 2 ≡ p = omega arith in let f : eqb ((2 * p + 1) % 2) 1 ≡ true = eq-eqb ((2 * p + 1) % 2) 1 (omega arith) in λ i. record { place = e i; after = f i }

pub two_more : (p : ℕ) → halves (2 * (p + 1)) ≡ record { place = p; after = true } ∷ record { place = p; after = false } ∷ halves (2 * p)
unfolding halves
two_more p =
    let e : 2 * (p + 1) ≡ suc (suc (2 * p)) = omega arith in
    let f : suc (2 * p) ≡ 2 * p + 1 = omega arith in
    rw e (ap₂ (λ (h : Half) (l : List Half). h ∷ l) (ap half f ∙ odd_half p) (ap (λ (h : Half). h ∷ halves (2 * p)) (even_half p)))

pub halves_length : (k : ℕ) → length (halves k) ≡ k
unfolding halves
halves_length zero = refl
halves_length (suc k) = ap suc (halves_length k)

module _ (row : List ℕ) where
  pub paired_in_three : (p : ℕ) → is_paired row p ≡ true → in_three row p ≡ true
  unfolding is_paired
  paired_in_three p h = (and_both (in_three row p) _ h).0

  pub place_inside : (p : ℕ) → is_paired row p ≡ true → p < length row
  place_inside p h = let t = in_three_is row p (paired_in_three p h) in omega (arith, t.high, t.clause.inside)

  -- The places of the other two literals

  pub record Others (p next after : ℕ) : Type 0 where
    pub next_in : next < length row
    pub after_in : after < length row
    pub next_is : get_or row next 0 ≡ other row p false
    pub after_is : get_or row after 0 ≡ other row p true

  pub next_in_three : (p : ℕ) → in_three row p ≡ true → in_three row (around (start_of row p) p) ≡ true
  next_in_three p h =
      let t = in_three_is row p h in
      is_in_three row (start_of row p) _ (start_around row p t) (around_in (start_of row p) p t.low t.high).1 t.clause

  pub others : (p next after : ℕ) → in_three row p ≡ true → next ≡ around (start_of row p) p → after ≡ around (start_of row next) next → Others p next after
  unfolding other
  others p next after h e f =
      let t = in_three_is row p h in
      let n = around_in (start_of row p) p t.low t.high in
      let a = around_in (start_of row p) (around (start_of row p) p) n.0 n.1 in
      let g : after ≡ around (start_of row p) (around (start_of row p) p) = rw (f, e, start_around row p t) in
      record {
        next_in = rw e (omega (arith, n.1, t.clause.inside));
        after_in = rw g (omega (arith, a.1, t.clause.inside));
        next_is = rw e;
        after_is = rw g;
      }

  pub unpaired : (p : ℕ) → (in_three row p && is_first row (start_of row p)) ≡ false → is_paired row p ≡ false
  unfolding is_paired
  unpaired p h = cases (in_three row p) (λ t. let f : is_first row (start_of row p) ≡ false = rw t at h in rw (t, f)) (λ t. rw t)

  -- told by the search for the clause with the other two inverted
  pub paired_by : (p : ℕ) → (in_three row p && is_first row (start_of row p)) ≡ true
      → is_paired row p ≡ present (clauses_in row) (masked (7 - 2 ^ (p - start_of row p)) (clause_at row (start_of row p)))
  unfolding is_paired other
  paired_by p h =
      let a = and_both (in_three row p) _ h in
      let t = in_three_is row p a.0 in
      rw (a.0, a.1) (same_present (clauses_in row) _ _ (masked_others row (start_of row p) p t.clause t.low t.high))

  pub other_small : Normal row → (p : ℕ) (a : Bool) → other row p a ≤ max_code
  unfolding other
  other_small n p false = n.small _
  other_small n p true = n.small _

  -- Pairs of halves

  pub pairs_none : length (pairs_of row []) ≡ 0
  unfolding pairs_of keep each
  pairs_none = refl

  pub pairs_one : (h : Half) (hs : List Half) → length (pairs_of row (h ∷ hs)) ≡ cond (is_plain_half row h) (length (mates row h)) 0 + length (pairs_of row hs)
  unfolding pairs_of
  pairs_one h hs = cases (is_plain_half row h) (λ t. rw (t, keep_yes (is_plain_half row) h hs t) (more (keep (is_plain_half row) hs))) (λ t. rw (t, keep_no (is_plain_half row) h hs t) (omega arith))
    where
      with_mates : Half → List (Half × Half)
      with_mates k = map (λ m. (k, m)) (mates row k)

      more : (l : List Half) → length (each (h ∷ l) with_mates) ≡ length (mates row h) + length (each l with_mates)
      more l = each_length h l with_mates ∙ ap (λ (i : ℕ). i + length (each l with_mates)) (length-map (mates row h) (λ m. (h, m)))

  -- The sides at a place

  pub no_mark : (p : ℕ) → is_paired row p ≡ false → side_mark row p ≡ 0
  unfolding side_mark is_side
  no_mark p t = rw t

  module _ (p y z : ℕ) (t : is_paired row p ≡ true) (y_is : y ≡ other row p false) (z_is : z ≡ other row p true) (n m : ℕ)
      (e : n ≡ length (keep (is_mate row (negate (get_or row p 0)) y z) (all_halves row)))
      (f : m ≡ length (keep (is_mate row (negate (get_or row p 0)) z y) (all_halves row))) where
    mates_next : n ≡ length (mates row (record { place = p; after = false }))
    unfolding mates output side
    mates_next = rw (← y_is, ← z_is) e

    mates_after : m ≡ length (mates row (record { place = p; after = true }))
    unfolding mates output side
    mates_after = rw (← y_is, ← z_is) f

    pub mark_by : cond (ltb 0 n) 2 0 + cond (ltb 0 m) 4 0 ≡ side_mark row p
    unfolding side_mark is_side
    mark_by = rw (t, mates_next, mates_after)

    pub pairs_by : cond (is_inverse (get_or row p 0) && is_inverse y) n 0 + cond (is_inverse (get_or row p 0) && is_inverse z) m 0 ≡ length (pairs_of row (halves_at p))
    unfolding halves_at is_plain_half output
    pairs_by =
        rw (pairs_one (record { place = p; after = false }) (record { place = p; after = true } ∷ []), pairs_one (record { place = p; after = true }) [], t, mates_next, mates_after, y_is, z_is)
        (omega (arith, pairs_none))
