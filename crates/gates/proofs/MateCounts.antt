-- How many mates a half has: all halves with the inverse select and the same output but the one whose side is the inverse of its own.
-- Assumes nothing.
use mathlib.Core.Path.{◌≡◌, refl, sym, ◌∙◌, ap}
use mathlib.Core.Logic.{◌≢◌}
use mathlib.Core.Bool.{Bool, true, false, not, cond, ◌&&◌, true≢false}
use mathlib.Core.List.{List, [], ◌∷◌, Memᴰ}
use Prim.Native.Nat.{ℕ, zero, suc, ◌+◌, ◌-◌, ◌*◌, ◌≤◌, ◌<◌}
use native.Mathlib.Omega.{arith}
use borrow.Author.Tests.{eq-eqb, ne_eqb, eqb-true}
use borrow.Table.Steps.{cases}
use lib.Dec.{eqb}
use lib.ListN.{length, get_or}
use Rattle.clauses.specs.Code.{negate, net}
use Rattle.clauses.specs.Clause.{clauses_in}
use Rattle.clauses.specs.Lists.{keep}
use Rattle.clauses.specs.Listing.{present}
use Rattle.clauses.proofs.Lists.{and_both, both_and, keep_has, has_keep, keep_one, keep_none}
use Rattle.clauses.proofs.Distinct.{Distinct, keep_distinct}
use Rattle.clauses.proofs.Codes.{negate_negate}
use Rattle.clauses.proofs.Clauses.{present_is, is_present}
use Rattle.gates.specs.Normal.{Normal}
use Rattle.gates.specs.Ites.{is_paired, is_paired_at, Half, all_halves, output, side, is_of, is_half, is_mate, size_of, Sized}
use Rattle.gates.proofs.ItesListed.{nets_apart}
use Rattle.gates.proofs.Halves.{place_inside}
use Rattle.gates.proofs.Sides.{Side, side_turned, half_side, side_half}
use Rattle.gates.proofs.Mates.{some_of, of_some, in_all, all_distinct}
use Rattle.gates.proofs.IteMarks.{half_same}
use Rattle.gates.proofs.Sizes.{size_few}

-- Lists

split_one : (a b : Bool) → cond a 1 0 ≡ cond (a && not b) 1 0 + cond (a && b) 1 0
split_one true true = refl
split_one true false = refl
split_one false b = refl

keep_split : {A : Type 0} (f g : A → Bool) (l : List A) → length (keep f l) ≡ length (keep (λ x. f x && not (g x)) l) + length (keep (λ x. f x && g x) l)
unfolding keep
keep_split f g [] = refl
keep_split f g (x ∷ l) =
    omega (arith, keep_one f x l, keep_one (λ y. f y && not (g y)) x l, keep_one (λ y. f y && g y) x l, split_one (f x) (g x), keep_split f g l)

keep_some : {A : Type 0} (f : A → Bool) (l : List A) (x : A) → Memᴰ x l → f x ≡ true → 0 < length (keep f l)
keep_some f l x m e = of_some (keep f l) (has_keep f l m e)

alike_one : {A : Type 0} (l : List A) → Distinct l → ((x y : A) → Memᴰ x l → Memᴰ y l → x ≡ y) → length l ≤ 1
alike_one [] d e = omega arith
alike_one (x ∷ []) d e = omega arith
alike_one (x ∷ y ∷ l) (Distinct.more n d) e = absurd (n (Memᴰ.head (e x y (Memᴰ.head refl) (Memᴰ.tail (Memᴰ.head refl)))))

module _ (row : List ℕ) (x y : ℕ) where
  -- the halves with literal x and the output whose inverse is y, by whether w is their side
  size_split : (w : ℕ) → size_of row x y (2 * length row)
      ≡ length (keep (λ h. is_of row x y h && not (eqb (side row h) w)) (all_halves row)) + length (keep (is_half row x y w) (all_halves row))
  unfolding size_of all_halves is_half
  size_split w = keep_split (is_of row x y) (λ h. eqb (side row h) w) (all_halves row)

  -- all but the one with the inverse side are mates
  size_mates : (z : ℕ) → size_of row x y (2 * length row) ≡ length (keep (is_mate row x y z) (all_halves row)) + length (keep (is_half row x y (negate z)) (all_halves row))
  unfolding is_mate
  size_mates z = size_split (negate z)

  -- there is none
  pub none_with : (w : ℕ) → size_of row x y (2 * length row) ≡ 0 → 0 ≡ length (keep (is_half row x y w) (all_halves row))
  none_with w none = omega (arith, none, size_split w)

  -- there is one, with side s
  module _ (one : size_of row x y (2 * length row) ≡ 1) (s : ℕ) (has : 0 < length (keep (is_half row x y s) (all_halves row))) (w : ℕ) where
    pub one_with : s ≡ w → 1 ≡ length (keep (is_half row x y w) (all_halves row))
    one_with e = omega (arith, one, size_split w, rw e at has)

    pub one_without : s ≢ w → 0 ≡ length (keep (is_half row x y w) (all_halves row))
    unfolding is_half
    one_without n =
        let f = some_of (keep (is_half row x y s) (all_halves row)) has in
        let k = keep_has (is_half row x y s) (all_halves row) f.0 f.1 in
        let a = and_both (is_of row x y f.0) _ k.1 in
        let other = ne_eqb (side row f.0) w (λ e. n (sym (eqb-true (side row f.0) s a.1) ∙ e)) in
        omega (arith, one, size_split w, keep_some (λ h. is_of row x y h && not (eqb (side row h) w)) (all_halves row) f.0 k.0 (both_and a.0 (ap not other)))

-- The halves with given literals: there is one where both clauses are present

module _ {row : List ℕ} (normal : Normal row) (x y z : ℕ) where
  half_is : (h : Half) → is_half row x y z h ≡ true → (is_paired row h.place ≡ true) × (get_or row h.place 0 ≡ x) × (output row h ≡ y) × (side row h ≡ z)
  unfolding is_half is_of is_paired_at
  half_is h e =
      let a = and_both (is_of row x y h) _ e in
      let b = and_both (is_paired_at row x h.place) _ a.0 in
      let c = and_both (is_paired row h.place) _ b.0 in
      (c.0, eqb-true (get_or row h.place 0) x c.1, eqb-true (output row h) y b.1, eqb-true (side row h) z a.1)

  is-half : (h : Half) → is_paired row h.place ≡ true → get_or row h.place 0 ≡ x → output row h ≡ y → side row h ≡ z → is_half row x y z h ≡ true
  unfolding is_half is_of is_paired_at
  is-half h p e f g = both_and (both_and (both_and p (eq-eqb (get_or row h.place 0) x e)) (eq-eqb (output row h) y f)) (eq-eqb (side row h) z g)

  halves_once : length (keep (is_half row x y z) (all_halves row)) ≤ 1
  halves_once =
      alike_one (keep (is_half row x y z) (all_halves row)) (keep_distinct (is_half row x y z) (all_halves row) (all_distinct row))
      (λ h k i j.
      let a = half_is h (keep_has (is_half row x y z) (all_halves row) h i).1 in
      let b = half_is k (keep_has (is_half row x y z) (all_halves row) k j).1 in
      half_same normal h k a.0 b.0 (a.1 ∙ sym b.1) (a.2 ∙ sym b.2) (a.3 ∙ sym b.3))

  -- the clauses of a half
  the_side : (h : Half) → is_half row x y z h ≡ true → Side (clauses_in row) (negate y) (negate x) z
  unfolding output side
  the_side h e = let a = half_is h e in rw (← a.1, ← a.2, ← a.3) (half_side normal h.place a.0 h.after)

  none_kept : ((h : Half) → is_half row x y z h ≡ true → ⊥) → 0 ≡ length (keep (is_half row x y z) (all_halves row))
  none_kept n = sym (ap length (keep_none (is_half row x y z) (all_halves row) (λ h m. cases (is_half row x y z h) (λ t. absurd (n h t)) (λ t. t))))

  pub no_clause : present (clauses_in row) (x ∷ y ∷ z ∷ []) ≡ false → 0 ≡ length (keep (is_half row x y z) (all_halves row))
  no_clause f = none_kept (λ h t. true≢false (sym (rw (negate_negate x, negate_negate y) at (is_present _ _ (the_side h t).up)) ∙ f))

  pub no_companion : present (clauses_in row) (x ∷ negate y ∷ negate z ∷ []) ≡ false → 0 ≡ length (keep (is_half row x y z) (all_halves row))
  no_companion f = none_kept (λ h t. true≢false (sym (rw (negate_negate x) at (is_present _ _ (the_side h t).down)) ∙ f))

  side_counts : Side (clauses_in row) (negate y) (negate x) z → 1 ≡ length (keep (is_half row x y z) (all_halves row))
  unfolding output side
  side_counts s =
      let h = side_half normal (negate y) (negate x) z s in
      let at : Half = record { place = h.place; after = h.after } in
      omega (arith, halves_once, keep_some (is_half row x y z) (all_halves row) at (in_all row at (place_inside row h.place h.paired)) (is-half at h.paired (h.select ∙ negate_negate x) (h.output ∙ negate_negate y) h.side))

  pub one_of_clauses : net x ≢ net y → net x ≢ net z → net y ≢ net z → present (clauses_in row) (x ∷ y ∷ z ∷ []) ≡ true → present (clauses_in row) (x ∷ negate y ∷ negate z ∷ []) ≡ true
      → 1 ≡ length (keep (is_half row x y z) (all_halves row))
  one_of_clauses xy xz yz up down =
      side_counts
      (record {
        apart = nets_apart (record { cl = λ e. xy (omega arith); tl = λ e. yz (omega arith); tc = λ e. xz (omega arith) });
        up = rw (negate_negate x, negate_negate y) (present_is _ _ up);
        down = rw (negate_negate x) (present_is _ _ down);
      })

-- the halves with the inverses of z and y as their sides are of the same clauses
module _ {row : List ℕ} (normal : Normal row) (x : ℕ) where
  half_turned : (y z : ℕ) → 0 < length (keep (is_half row x y (negate z)) (all_halves row)) → 1 ≡ length (keep (is_half row x z (negate y)) (all_halves row))
  half_turned y z has =
      let f = some_of (keep (is_half row x y (negate z)) (all_halves row)) has in
      let k = keep_has (is_half row x y (negate z)) (all_halves row) f.0 f.1 in
      side_counts normal x z (negate y) (side_turned (the_side normal x y (negate z) f.0 k.1))

  halves_turned : (y z : ℕ) → length (keep (is_half row x y (negate z)) (all_halves row)) ≡ length (keep (is_half row x z (negate y)) (all_halves row))
  halves_turned y z = go (length (keep (is_half row x y (negate z)) (all_halves row))) (length (keep (is_half row x z (negate y)) (all_halves row))) (half_turned y z) (half_turned z y) (halves_once normal x z (negate y))
    where
      go : (a b : ℕ) → (0 < a → 1 ≡ b) → (0 < b → 1 ≡ a) → b ≤ 1 → a ≡ b
      go zero zero f g l = refl
      go zero (suc b) f g l = absurd (omega (arith, g (omega arith)))
      go (suc a) b f g l = let e = f (omega arith) in sym (g (omega arith)) ∙ e

-- the mates of both halves of a place, by the sizes of their outputs and n, the number of halves with the inverse side
pub record PlaceMates (row sizes : List ℕ) (x y z n : ℕ) : Type 0 where
  pub next_least : n ≤ get_or sizes y 0
  pub after_least : n ≤ get_or sizes z 0
  pub next_most : get_or sizes y 0 ≤ 32768
  pub after_most : get_or sizes z 0 ≤ 32768
  pub next : get_or sizes y 0 - n ≡ length (keep (is_mate row x y z) (all_halves row))
  pub after : get_or sizes z 0 - n ≡ length (keep (is_mate row x z y) (all_halves row))

pub place_mates : {row sizes sides : List ℕ} {x y z n : ℕ} → Normal row → Sized row x sizes sides → n ≡ length (keep (is_half row x y (negate z)) (all_halves row))
    → PlaceMates row sizes x y z n
place_mates {row} {sizes} {x = x} {y = y} {z = z} {n = n} normal s e =
    record {
      next_least = omega (arith, first);
      after_least = omega (arith, second);
      next_most = omega (arith, s.size y, size_few row x y, normal.entries);
      after_most = omega (arith, s.size z, size_few row x z, normal.entries);
      next = omega (arith, first);
      after = omega (arith, second);
    }
  where
    first : get_or sizes y 0 ≡ length (keep (is_mate row x y z) (all_halves row)) + n
    first = omega (arith, s.size y, size_mates row x y z, e)

    second : get_or sizes z 0 ≡ length (keep (is_mate row x z y) (all_halves row)) + n
    second = omega (arith, s.size z, size_mates row x z y, e, halves_turned normal x y z)
