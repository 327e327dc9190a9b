-- Halves that are mates make an ITE, and every ITE is made so.
-- Assumes nothing.
use mathlib.Core.Path.{◌≡◌, refl, sym, ◌∙◌, ap}
use mathlib.Core.Logic.{◌≢◌, ◌↔◌}
use mathlib.Core.Bool.{Bool, true, false, true≢false}
use mathlib.Core.List.Memᴰ
use mathlib.Core.List.{List, [], ◌∷◌, Memᴰ}
use Prim.Native.Nat.{ℕ, zero, suc, ◌+◌, ◌*◌, ◌/◌, ◌%◌, ◌≤◌, ◌<◌}
use native.Mathlib.Omega.{arith}
use native.Mathlib.Decide.{ℕ_discrete}
use borrow.Author.Tests.{eq-eqb, ne_eqb, eqb-true}
use lib.Dec.{eqb}
use lib.ListN.{length, get_or}
use Rattle.clauses.specs.Code.{negate}
use Rattle.clauses.specs.Clause.{clauses_in, Present}
use Rattle.clauses.proofs.Lists.{and_both, both_and, not_eqb, eqb_not, keep_has, has_keep}
use Rattle.clauses.proofs.Distinct.{Distinct, empty, more}
use Rattle.gates.specs.Gate.{IteGate}
use Rattle.gates.specs.Normal.{Normal}
use Rattle.gates.specs.Ites.{is_paired, is_paired_at, Half, half, halves, all_halves, output, side, is_of, is_mate, mates}
use Rattle.gates.proofs.MoreClauses.{ite_present}
use Rattle.gates.proofs.Halves.{even_half, odd_half, place_inside}
use Rattle.gates.proofs.Sides.{sides_ite, ite_sides, half_side, side_half}

-- Lists with an element

pub some_of : {A : Type 0} (l : List A) → 0 < length l → (x : A) × Memᴰ x l
some_of [] h = absurd (omega arith)
some_of (x ∷ l) h = (x, Memᴰ.head refl)

pub of_some : {A : Type 0} {x : A} (l : List A) → Memᴰ x l → 0 < length l
of_some [] m = absurd (Memᴰ.not-nil m)
of_some (y ∷ l) m = omega arith

-- Halves by number

number_once : (i j : ℕ) → half i ≡ half j → i ≡ j
number_once i j e = go (ℕ_discrete (i % 2) 1) (ℕ_discrete (j % 2) 1) (ap (λ (h : Half). h.place) e)
  where
    after : eqb (i % 2) 1 ≡ eqb (j % 2) 1
    after = ap (λ (h : Half). h.after) e

    go : Dec (i % 2 ≡ 1) → Dec (j % 2 ≡ 1) → i / 2 ≡ j / 2 → i ≡ j
    go (yes p) (yes q) f = omega arith
    go (no p) (no q) f = omega arith
    go (yes p) (no q) f = absurd (true≢false (sym (eq-eqb (i % 2) 1 p) ∙ after ∙ ne_eqb (j % 2) 1 q))
    go (no p) (yes q) f = absurd (true≢false (sym (eq-eqb (j % 2) 1 q) ∙ sym after ∙ ne_eqb (i % 2) 1 p))

not_in_halves : (k j : ℕ) → k ≤ j → Memᴰ (half j) (halves k) → ⊥
unfolding halves
not_in_halves zero j l m = Memᴰ.not-nil m
not_in_halves (suc k) j l (Memᴰ.head e) = let i = number_once j k e in omega arith
not_in_halves (suc k) j l (Memᴰ.tail m) = not_in_halves k j (omega arith) m

halves_distinct : (k : ℕ) → Distinct (halves k)
unfolding halves
halves_distinct zero = empty
halves_distinct (suc k) = more (not_in_halves k k (omega arith)) (halves_distinct k)

in_halves : (k j : ℕ) → j < k → Memᴰ (half j) (halves k)
unfolding halves
in_halves zero j l = absurd (omega arith)
in_halves (suc k) j l = go (ℕ_discrete j k) (in_halves k j)
  where
    go : Dec (j ≡ k) → (j < k → Memᴰ (half j) (halves k)) → Memᴰ (half j) (half k ∷ halves k)
    go (yes e) ih = Memᴰ.head (ap half e)
    go (no n) ih = Memᴰ.tail (ih (omega arith))

pub all_distinct : (row : List ℕ) → Distinct (all_halves row)
unfolding all_halves
all_distinct row = halves_distinct (2 * length row)

pub in_all : (row : List ℕ) (h : Half) → h.place < length row → Memᴰ h (all_halves row)
unfolding all_halves
in_all row h l = go h.after refl
  where
    go : (a : Bool) → h.after ≡ a → Memᴰ h (halves (2 * length row))
    go false e = Memᴰ.cast ((λ i. record { place = h.place; after = e i }) ∙ sym (even_half h.place)) (in_halves (2 * length row) (2 * h.place) (omega arith))
    go true e = Memᴰ.cast ((λ i. record { place = h.place; after = e i }) ∙ sym (odd_half h.place)) (in_halves (2 * length row) (2 * h.place + 1) (omega arith))

module _ {row : List ℕ} (normal : Normal row) where
  -- Mates

  pub record Mate (h m : Half) : Type 0 where
    pub paired : is_paired row m.place ≡ true
    pub select : get_or row m.place 0 ≡ negate (get_or row h.place 0)
    pub same : output row m ≡ output row h
    pub not_inverses : side row m ≢ negate (side row h)

  pub mate_is : (h m : Half) → Memᴰ m (mates row h) → Mate h m
  unfolding mates is_mate is_of is_paired_at
  mate_is h m k =
      let a = (keep_has _ (all_halves row) m k).1 in
      let b = and_both (is_of row (negate (get_or row h.place 0)) (output row h) m) _ a in
      let c = and_both (is_paired_at row (negate (get_or row h.place 0)) m.place) _ b.0 in
      let d = and_both (is_paired row m.place) _ c.0 in
      record { paired = d.0; select = eqb-true _ _ d.1; same = eqb-true _ _ c.1; not_inverses = not_eqb _ _ b.1 }

  pub is-mate : (h m : Half) → Mate h m → Memᴰ m (mates row h)
  unfolding mates is_mate is_of is_paired_at
  is-mate h m k =
      has_keep _ (all_halves row) (in_all row m (place_inside row m.place k.paired))
      (both_and (both_and (both_and k.paired (eq-eqb _ _ k.select)) (eq-eqb _ _ k.same)) (eqb_not _ _ k.not_inverses))

module _ {cs : List (List ℕ)} {row : List ℕ} (normal : Normal row) (same : (c : List ℕ) → Present cs c ↔ Present (clauses_in row) c) where
  -- a half and a mate make an ITE
  pub mate_ite : (h m : Half) → is_paired row h.place ≡ true → Mate normal h m
      → IteGate cs (negate (output row h)) (negate (get_or row h.place 0)) (side row h) (side row m)
  unfolding output side
  mate_ite h m p k =
      ite_present (λ c. (same c).1)
      (sides_ite (half_side normal h.place p h.after) (rw (← k.same, ← k.select) (half_side normal m.place k.paired m.after)) k.not_inverses)

  -- every ITE is made so
  pub record Halved (l c t e : ℕ) : Type 0 where
    pub then_half : Half
    pub else_half : Half
    pub paired : is_paired row then_half.place ≡ true
    pub mate : Mate normal then_half else_half
    pub select : get_or row then_half.place 0 ≡ negate c
    pub out : output row then_half ≡ negate l
    pub then_side : side row then_half ≡ t
    pub else_side : side row else_half ≡ e

  pub ite_halved : (l c t e : ℕ) → IteGate cs l c t e → Halved l c t e
  unfolding output side
  ite_halved l c t e g =
      let s = ite_sides (ite_present (λ d. (same d).0) g) in
      let h = side_half normal l c t s.0 in
      let m = side_half normal l (negate c) e s.1 in
      record {
        then_half = record { place = h.place; after = h.after };
        else_half = record { place = m.place; after = m.after };
        paired = h.paired;
        mate = record {
          paired = m.paired;
          select = m.select ∙ ap negate (sym h.select);
          same = m.output ∙ sym h.output;
          not_inverses = rw (m.side, h.side) s.2;
        };
        select = h.select;
        out = h.output;
        then_side = h.side;
        else_side = m.side;
      }
