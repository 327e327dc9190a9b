-- Masks of signs. The ways to change an even number of a clause's signs are the masks with an even number of bits.
-- Assumes nothing.
use mathlib.Core.Path.{◌≡◌, refl, sym, ◌∙◌, ap, ap₂, subst, subst⁻¹}
use mathlib.Core.Logic.{◌⊎◌, inl, inr}
use mathlib.Core.Bool.{Bool, true, false, not, ◌||◌, false≢true, not-not}
use mathlib.Core.List.Memᴰ
use mathlib.Core.List.{List, [], ◌∷◌, map, Memᴰ}
use Prim.Native.Nat.{ℕ, suc, ◌+◌, ◌*◌, ◌/◌, ◌^◌, ◌≤◌, ◌<◌}
use native.Mathlib.Nat.{pow-succ'}
use native.Mathlib.Numerals.{add-one}
use native.Mathlib.Omega.{arith}
use lib.ListN.{length, get_or, drop, drop_of_length-le}
use lib.Seq.{drop-cons}
use Rattle.clauses.specs.Code.{negate}
use Rattle.clauses.specs.Lists.{all}
use Rattle.clauses.specs.Listing.{present}
use Rattle.clauses.specs.Sign.{plus, flip, is_inverse}
use Rattle.clauses.proofs.Lists.{mem_map, mem_of_map, all_have, have_all, or_right}
use Rattle.clauses.proofs.Signs.{inverse_of_odd, plain_of_even, plus_false, plus_assoc}
use Rattle.gates.specs.Listing.{signings}
use Rattle.gates.specs.Mask.{masked, mask_odd}

pub masked_length : (m : ℕ) (c : List ℕ) → length (masked m c) ≡ length c
unfolding masked
masked_length m [] = refl
masked_length m (l ∷ c) = ap suc (masked_length (m / 2) c)

-- Masks that change no sign, both of two, and all of three but one

pub masked_none : (c : List ℕ) → masked 0 c ≡ c
unfolding masked is_inverse
masked_none [] = refl
masked_none (l ∷ c) = ap (λ (k : List ℕ). l ∷ k) (masked_none c)

pub masked_two : (x y : ℕ) → masked 3 (x ∷ y ∷ []) ≡ negate x ∷ negate y ∷ []
unfolding masked is_inverse
masked_two x y = refl

module _ (x y z : ℕ) where
  pub masked_first : masked 6 (x ∷ y ∷ z ∷ []) ≡ x ∷ negate y ∷ negate z ∷ []
  unfolding masked is_inverse
  masked_first = refl

  pub masked_second : masked 5 (x ∷ y ∷ z ∷ []) ≡ negate x ∷ y ∷ negate z ∷ []
  unfolding masked is_inverse
  masked_second = refl

  pub masked_third : masked 3 (x ∷ y ∷ z ∷ []) ≡ negate x ∷ negate y ∷ z ∷ []
  unfolding masked is_inverse
  masked_third = refl

-- Masks and the enumerated signs

masked_signed : (ls : List ℕ) (m : ℕ) → Memᴰ (masked m ls) (signings ls (mask_odd m ls))
unfolding masked mask_odd signings
masked_signed [] m = Memᴰ.head refl
masked_signed (l ∷ ls) m = go (is_inverse m) (masked_signed ls (m / 2))
  where
    go : (b : Bool) → Memᴰ (masked (m / 2) ls) (signings ls (mask_odd (m / 2) ls))
        → Memᴰ (flip b l ∷ masked (m / 2) ls) (signings (l ∷ ls) (plus b (mask_odd (m / 2) ls)))
    go false ih = Memᴰ.append_left (map (λ d. negate l ∷ d) (signings ls (not (mask_odd (m / 2) ls)))) (mem_map (λ (d : List ℕ). l ∷ d) ih)
    go true ih =
        Memᴰ.append_right (map (λ d. l ∷ d) (signings ls (not (mask_odd (m / 2) ls))))
        (mem_map (λ (d : List ℕ). negate l ∷ d) (subst⁻¹ (λ (b : Bool). Memᴰ (masked (m / 2) ls) (signings ls b)) (not-not (mask_odd (m / 2) ls)) ih))

record Mask (ls : List ℕ) (b : Bool) (c : List ℕ) : Type 0 where
  mask : ℕ
  below : mask < 2 ^ length ls
  odd : mask_odd mask ls ≡ b
  makes : masked mask ls ≡ c

-- one bit more
mask_more : (l : ℕ) (ls : List ℕ) (b t : Bool) (c : List ℕ) → Mask ls b c → Mask (l ∷ ls) (plus t b) (flip t l ∷ c)
unfolding masked mask_odd
mask_more l ls b t c h = go t
  where
    m : ℕ
    m = h.mask

    bound : 2 ^ suc (length ls) ≡ 2 * 2 ^ length ls
    bound = pow-succ' 2 (length ls)

    go : (t : Bool) → Mask (l ∷ ls) (plus t b) (flip t l ∷ c)
    go false =
        let e : is_inverse (2 * m) ≡ false = plain_of_even (2 * m) (omega arith) in
        let q : 2 * m / 2 ≡ m = omega arith in
        record {
          mask = 2 * m;
          below = rw bound (omega (arith, h.below));
          odd = rw (e, q) h.odd;
          makes = rw (e, q) (ap (λ (d : List ℕ). l ∷ d) h.makes);
        }
    go true =
        let e : is_inverse (2 * m + 1) ≡ true = inverse_of_odd (2 * m + 1) (omega arith) in
        let q : (2 * m + 1) / 2 ≡ m = omega arith in
        record {
          mask = 2 * m + 1;
          below = rw bound (omega (arith, h.below));
          odd = rw (e, q) (ap not h.odd);
          makes = rw (e, q) (ap (λ (d : List ℕ). negate l ∷ d) h.makes);
        }

signed_mask : (ls : List ℕ) (b : Bool) (c : List ℕ) → Memᴰ c (signings ls b) → Mask ls b c
unfolding signings masked mask_odd
signed_mask [] false c (Memᴰ.tail x6) = elim x6 [ ]
signed_mask [] false c (Memᴰ.head e) = record { mask = 0; below = omega arith; odd = refl; makes = sym e }
signed_mask [] true c k = elim k [ ]
signed_mask (l ∷ ls) b c k = go (Memᴰ.append_cases (map (λ d. l ∷ d) (signings ls b)) k) (signed_mask ls)
  where
    go : Memᴰ c (map (λ d. l ∷ d) (signings ls b)) ⊎ Memᴰ c (map (λ d. negate l ∷ d) (signings ls (not b)))
        → ((e : Bool) (d : List ℕ) → Memᴰ d (signings ls e) → Mask ls e d) → Mask (l ∷ ls) b c
    go (inl m) ih =
        let o = mem_of_map (λ d. l ∷ d) (signings ls b) m in
        subst⁻¹ (Mask (l ∷ ls) b) o.is (mask_more l ls b false o.of (ih b o.of o.in_list))
    go (inr m) ih =
        let o = mem_of_map (λ d. negate l ∷ d) (signings ls (not b)) m in
        subst⁻¹ (Mask (l ∷ ls) b) o.is
        (subst (λ (e : Bool). Mask (l ∷ ls) e (negate l ∷ o.of)) (not-not b) (mask_more l ls (not b) true o.of (ih (not b) o.of o.in_list)))

module _ (cs : List (List ℕ)) (c : List ℕ) where
  -- the mask that changes nothing
  pub mask_none : present cs c ≡ true → (mask_odd 0 c || present cs (masked 0 c)) ≡ true
  mask_none h = or_right (mask_odd 0 c) (ap (present cs) (masked_none c) ∙ h)

  -- all masks pass
  pub masks_pass : ((m : ℕ) → m < 2 ^ length c → (mask_odd m c || present cs (masked m c)) ≡ true) → all (present cs) (signings c false) ≡ true
  masks_pass h =
      have_all (present cs) (signings c false) (λ d k.
      let p = signed_mask c false d k in
      ap (present cs) (sym p.makes) ∙ sym (ap (λ (b : Bool). b || present cs (masked p.mask c)) p.odd) ∙ h p.mask p.below)

  -- one does not
  pub mask_fails : (m : ℕ) → (mask_odd m c || present cs (masked m c)) ≡ false → all (present cs) (signings c false) ≡ false
  mask_fails m h = go (mask_odd m c) refl (present cs (masked m c)) refl (all (present cs) (signings c false)) refl
    where
      go : (a : Bool) → mask_odd m c ≡ a → (b : Bool) → present cs (masked m c) ≡ b → (t : Bool) → all (present cs) (signings c false) ≡ t → t ≡ false
      go a p b q false r = refl
      go true p b q true r = absurd (false≢true (sym h ∙ ap (λ (x : Bool). x || present cs (masked m c)) p))
      go false p true q true r = absurd (false≢true (sym h ∙ ap₂ ◌||◌ p q))
      go false p false q true r =
          absurd (false≢true (sym q ∙ all_have (present cs) (signings c false) r (masked m c) (subst (λ (b : Bool). Memᴰ (masked m c) (signings c b)) p (masked_signed c m))))

-- Signs that are changed one after another: those from place i on

module _ (c : List ℕ) (i m : ℕ) where
  pub masked_end : length c ≤ i → masked m (drop i c) ≡ []
  unfolding masked
  masked_end h = rw (drop_of_length-le c h)

  pub masked_on : i < length c → masked m (drop i c) ≡ flip (is_inverse m) (get_or c i 0) ∷ masked (m / 2) (drop (i + 1) c)
  unfolding masked
  masked_on h = rw (drop-cons c i 0 h, add-one)

  -- .. and whether all are an odd number, from whether those before are
  pub odd_end : (odd : Bool) → length c ≤ i → plus odd (mask_odd m (drop i c)) ≡ odd
  unfolding mask_odd
  odd_end odd h = rw (drop_of_length-le c h) (plus_false odd)

  pub odd_on : (odd : Bool) → i < length c → plus odd (mask_odd m (drop i c)) ≡ plus (plus odd (is_inverse m)) (mask_odd (m / 2) (drop (i + 1) c))
  unfolding mask_odd
  odd_on odd h = rw (drop-cons c i 0 h, add-one) (plus_assoc odd (is_inverse m) (mask_odd (m / 2) (drop (suc i) c)))
