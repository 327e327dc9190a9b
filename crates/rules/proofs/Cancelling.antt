-- Bags that cancel: only the parities of what leads them matter, so that order does not; and the computed parities.
-- Assumes nothing.
use mathlib.Core.Path.{◌≡◌, refl, sym, ◌∙◌, ap, ap₂, subst, subst⁻¹}
use mathlib.Core.Logic.{◌≢◌, ◌⊎◌, inl, inr}
use mathlib.Core.Bool.{Bool, true, false, not, false≢true, not-not}
use mathlib.Core.List.Memᴰ
use mathlib.Core.List.{List, [], ◌∷◌, ◌++◌, map, Memᴰ}
use Prim.Native.Nat.{ℕ, zero, suc, ◌*◌, ◌≤◌}
use native.Mathlib.Omega.{arith}
use native.Mathlib.Decide.{ℕ_discrete}
use native.Mathlib.Nat.{not-suc-le-zero, le_of_suc-le-suc}
use lib.ListN.{length}
use lib.Dec.{eqb}
use borrow.Author.Tests.{eq-eqb, ne_eqb, eqb-true}
use Rattle.clauses.specs.Code.{negate, net}
use Rattle.clauses.specs.Clause.{Mem}
use Rattle.clauses.specs.Lists.{each, picks}
use Rattle.clauses.proofs.Lists.{in_first, mem_map, mem_of_map, each_has, has_each}
use Rattle.clauses.proofs.Picks.{Picked, picked, pick_length, picks_are, are_picks}
use Rattle.clauses.specs.Sign.{plus, flip, is_inverse, parity}
use Rattle.clauses.proofs.Signs.{plus_false, plus_self, plus_cancel, plus_assoc, net_flip, plain_of_even, is_inverse_flip, code_split, same_net_flip, parity_pick}
use Rattle.rules.specs.Rule.{Cancels}
use Rattle.rules.specs.Compute.{parities}
use Rattle.rules.proofs.Leads.{Represents, lead_flip, lead_zero}

-- a literal is led by net w, or by an inverse
abbrev pub leads_to : (ℕ → ℕ) → ℕ → ℕ → Bool
leads_to f w x = eqb (net (f x)) w

abbrev pub inverse_led : (ℕ → ℕ) → ℕ → Bool
inverse_led f x = is_inverse (f x)

module _ (f : ℕ → ℕ) (G : ℕ → ℕ → Type 0) (r : Represents f G) where
  f_flip : (b : Bool) (c : ℕ) → f (flip b c) ≡ flip b (f c)
  f_flip = lead_flip f r.canonical

  constant_led : (b : Bool) {x : ℕ} → G x (flip b 0) → f x ≡ flip b 0
  constant_led b {x} g = r.complete x (flip b 0) g ∙ f_flip b 0 ∙ ap (flip b) (lead_zero f r.canonical)

  pair_led : (b : Bool) {x : ℕ} (y : ℕ) → G x (flip b y) → f x ≡ flip b (f y)
  pair_led b {x} y g = r.complete x (flip b y) g ∙ f_flip b y

  -- where a bag cancels, each net leads an even number of its literals,
  pub cancels_even : {xs : List ℕ} {p : Bool} → Cancels G xs p → (w : ℕ) → w ≢ 0 → parity (leads_to f w) xs ≡ false
  cancels_even Cancels.none w n = refl
  cancels_even (Cancels.constant {x = x} b g h) w n =
      ap₂ plus (ne_eqb (net (f x)) w (λ e. n (sym e ∙ ap net (constant_led b g) ∙ net_flip b 0))) (cancels_even h w n)
  cancels_even (Cancels.pair {x = x} {y = y} {ys = ys} b m g h) w n =
      ap₂ plus (ap (λ (z : ℕ). eqb z w) (ap net (pair_led b y g) ∙ net_flip b (f y)))
      (parity_pick (leads_to f w) m ∙ ap (plus (leads_to f w y)) (cancels_even h w n))
      ∙ ap (plus (leads_to f w y)) (plus_false (leads_to f w y)) ∙ plus_self (leads_to f w y)

  -- and the parity is that of the inverses among the leads
  pub cancels_sign : {xs : List ℕ} {p : Bool} → Cancels G xs p → parity (inverse_led f) xs ≡ p
  cancels_sign Cancels.none = refl
  cancels_sign (Cancels.constant {x = x} b g h) =
      ap₂ plus (ap is_inverse (constant_led b g) ∙ is_inverse_flip b 0 ∙ ap (plus b) (plain_of_even 0 refl) ∙ plus_false b) (cancels_sign h)
  cancels_sign (Cancels.pair {x = x} {y = y} {ys = ys} {p = p} b m g h) =
      ap₂ plus (ap is_inverse (pair_led b y g) ∙ is_inverse_flip b (f y)) (parity_pick (inverse_led f) m ∙ ap (plus (inverse_led f y)) (cancels_sign h))
      ∙ sym (plus_assoc b (inverse_led f y) (plus (inverse_led f y) p)) ∙ ap (plus b) (plus_cancel (inverse_led f y) p)

  -- a bit that is on an odd number of times is on somewhere
  pub somewhere : (h : ℕ → Bool) (xs : List ℕ) → parity h xs ≡ true → (y : ℕ) × Mem y xs × (h y ≡ true)
  somewhere h [] e = absurd (false≢true e)
  somewhere h (x ∷ xs) e = go (h x) refl (somewhere h xs)
    where
      go : (b : Bool) → h x ≡ b → (parity h xs ≡ true → (y : ℕ) × Mem y xs × (h y ≡ true)) → (y : ℕ) × Mem y (x ∷ xs) × (h y ≡ true)
      go true q ih = (x, in_first, q)
      go false q ih = let t = ih (sym (ap (λ (b : Bool). plus b (parity h xs)) q) ∙ e) in (t.0, Memᴰ.tail t.1, t.2)

  even_cancels_to : (n : ℕ) (xs : List ℕ) → length xs ≤ n → ((w : ℕ) → w ≢ 0 → parity (leads_to f w) xs ≡ false) → Cancels G xs (parity (inverse_led f) xs)
  even_cancels_to zero [] h e = Cancels.none
  even_cancels_to (suc n) [] h e = Cancels.none
  even_cancels_to zero (x ∷ xs) h e = absurd (not-suc-le-zero h)
  even_cancels_to (suc n) (x ∷ xs) h e = go (ℕ_discrete (net (f x)) 0) (even_cancels_to n)
    where
      go : Dec (net (f x) ≡ 0) → ((ys : List ℕ) → length ys ≤ n → ((w : ℕ) → w ≢ 0 → parity (leads_to f w) ys ≡ false) → Cancels G ys (parity (inverse_led f) ys))
          → Cancels G (x ∷ xs) (parity (inverse_led f) (x ∷ xs))
      go (yes q) ih =
          Cancels.constant (inverse_led f x)
          (r.sound x (flip (inverse_led f x) 0)
          (code_split (f x) ∙ ap (λ (z : ℕ). flip (is_inverse (f x)) (2 * z)) q
          ∙ sym (f_flip (inverse_led f x) 0 ∙ ap (flip (inverse_led f x)) (lead_zero f r.canonical))))
          (ih xs (le_of_suc-le-suc h) (λ w m. sym (ap (λ (b : Bool). plus b (parity (leads_to f w) xs)) (ne_eqb (net (f x)) w (λ z. m (sym z ∙ q)))) ∙ e w m))
      go (no m) ih = found (somewhere led xs odd)
        where
          led : ℕ → Bool
          led = leads_to f (net (f x))

          odd : parity led xs ≡ true
          odd = sym (not-not (parity led xs)) ∙ ap not (sym (ap (λ (b : Bool). plus b (parity led xs)) (eq-eqb (net (f x)) (net (f x)) refl)) ∙ e (net (f x)) m)

          found : (y : ℕ) × Mem y xs × (leads_to f (net (f x)) y ≡ true) → Cancels G (x ∷ xs) (parity (inverse_led f) (x ∷ xs))
          found t =
              subst⁻¹ (Cancels G (x ∷ xs)) sums
              (Cancels.pair b p.pick (r.sound x (flip b y) (same_net_flip (f x) (f y) (sym q) ∙ sym (f_flip b y)))
              (ih p.rest (shorter (pick_length p.pick) h) evens))
            where
              y : ℕ
              y = t.0

              q : net (f y) ≡ net (f x)
              q = eqb-true (net (f y)) (net (f x)) t.2

              p : Picked y xs
              p = picked xs t.1

              b : Bool
              b = plus (is_inverse (f x)) (is_inverse (f y))

              sums : parity (inverse_led f) (x ∷ xs) ≡ plus b (parity (inverse_led f) p.rest)
              sums = ap (plus (inverse_led f x)) (parity_pick (inverse_led f) p.pick) ∙ plus_assoc (inverse_led f x) (inverse_led f y) (parity (inverse_led f) p.rest)

              shorter : length xs ≡ suc (length p.rest) → suc (length xs) ≤ suc n → length p.rest ≤ n
              shorter u v = omega arith

              evens : (w : ℕ) → w ≢ 0 → parity (leads_to f w) p.rest ≡ false
              evens w n =
                  sym (plus_cancel (leads_to f w y) (parity (leads_to f w) p.rest))
                  ∙ ap₂ plus (ap (λ (z : ℕ). eqb z w) q) (sym (parity_pick (leads_to f w) p.pick)) ∙ e w n

  -- and where each net leads an even number of its literals, it cancels
  pub even_cancels : (xs : List ℕ) → ((w : ℕ) → w ≢ 0 → parity (leads_to f w) xs ≡ false) → Cancels G xs (parity (inverse_led f) xs)
  even_cancels xs e = even_cancels_to (length xs) xs (omega arith) e

  -- only the sums of bits over the bag matter
  pub cancels_same : (xs ys : List ℕ) {p : Bool} → ((h : ℕ → Bool) → parity h xs ≡ parity h ys) → Cancels G xs p → Cancels G ys p
  cancels_same xs ys s c =
      subst (Cancels G ys) (sym (s (inverse_led f)) ∙ cancels_sign c)
      (even_cancels ys (λ w n. sym (s (leads_to f w)) ∙ cancels_even c w n))

-- The computed parities

if_has : {A : Type 0} (b : Bool) (l : List A) {x : A} → Memᴰ x (elim b [ true ↦ l | false ↦ [] ]) → (b ≡ true) × Memᴰ x l
if_has true l k = (refl, k)
if_has false l k = elim k [ ]

has_if : {A : Type 0} (b : Bool) (l : List A) {x : A} → b ≡ true → Memᴰ x l → Memᴰ x (elim b [ true ↦ l | false ↦ [] ])
has_if true l e k = k
has_if false l e k = absurd (false≢true e)

module _ (j : ℕ → ℕ → Bool) (G : ℕ → ℕ → Type 0) where
  -- x joined to y, or to its inverse, and the rest
  abbrev equal_part : ℕ → ℕ → ℕ → List ℕ → List Bool
  equal_part n x y ys = elim (j x y) [ true ↦ parities j n ys | false ↦ [] ]

  abbrev inverse_part : ℕ → ℕ → ℕ → List ℕ → List Bool
  inverse_part n x y ys = elim (j x (negate y)) [ true ↦ map not (parities j n ys) | false ↦ [] ]

  abbrev part : ℕ → ℕ → ℕ → List ℕ → List Bool
  part n x y ys = equal_part n x y ys ++ inverse_part n x y ys

  record PartOf (n x y : ℕ) (ys : List ℕ) (p : Bool) : Type 0 where
    sign : Bool
    test : j x (flip sign y) ≡ true
    rest_parity : Bool
    listed : Memᴰ rest_parity (parities j n ys)
    sum : p ≡ plus sign rest_parity

  part_has : (n x y : ℕ) (ys : List ℕ) (p : Bool) → Memᴰ p (part n x y ys) → PartOf n x y ys p
  part_has n x y ys p k = go (Memᴰ.append_cases (equal_part n x y ys) k)
    where
      go : Memᴰ p (equal_part n x y ys) ⊎ Memᴰ p (inverse_part n x y ys) → PartOf n x y ys p
      go (inl m) =
          let t = if_has (j x y) (parities j n ys) m in
          record { sign = false; test = t.0; rest_parity = p; listed = t.1; sum = refl }
      go (inr m) =
          let t = if_has (j x (negate y)) (map not (parities j n ys)) m in
          let o = mem_of_map not (parities j n ys) t.1 in
          record { sign = true; test = t.0; rest_parity = o.of; listed = o.in_list; sum = o.is }

  has_part : (n x y : ℕ) (ys : List ℕ) (b q : Bool) → j x (flip b y) ≡ true → Memᴰ q (parities j n ys) → Memᴰ (plus b q) (part n x y ys)
  has_part n x y ys false q e k = Memᴰ.append_left (inverse_part n x y ys) (has_if (j x y) (parities j n ys) e k)
  has_part n x y ys true q e k = Memᴰ.append_right (equal_part n x y ys) (has_if (j x (negate y)) (map not (parities j n ys)) e (mem_map not k))

  module _ (tests : (a b : ℕ) → j a b ≡ true → G a b) where
    nil_parity : (p : Bool) → Memᴰ p (false ∷ []) → Cancels G [] p
    nil_parity p m = subst⁻¹ (Cancels G []) (Memᴰ.eq_of_singleton m) Cancels.none

    pub parities_are : (n : ℕ) (xs : List ℕ) (p : Bool) → Memᴰ p (parities j n xs) → Cancels G xs p
    unfolding parities
    parities_are zero [] p k = nil_parity p k
    parities_are zero (x ∷ xs) p k = elim k [ ]
    parities_are (suc n) [] p k = nil_parity p k
    parities_are (suc n) (x ∷ xs) p k = go (Memᴰ.append_cases (part n x 0 xs) k) (parities_are n)
      where
        go : Memᴰ p (part n x 0 xs) ⊎ Memᴰ p (each (picks xs) (λ q. part n x q.0 q.1))
            → ((ys : List ℕ) (q : Bool) → Memᴰ q (parities j n ys) → Cancels G ys q) → Cancels G (x ∷ xs) p
        go (inl m) ih =
            let t = part_has n x 0 xs p m in
            subst⁻¹ (Cancels G (x ∷ xs)) t.sum (Cancels.constant t.sign (tests x (flip t.sign 0) t.test) (ih xs t.rest_parity t.listed))
        go (inr m) ih =
            let s = each_has (picks xs) (λ q. part n x q.0 q.1) m in
            let t = part_has n x s.from_it.0 s.from_it.1 p s.gives in
            subst⁻¹ (Cancels G (x ∷ xs)) t.sum
            (Cancels.pair t.sign (picks_are xs s.from_it s.listed) (tests x (flip t.sign s.from_it.0) t.test) (ih s.from_it.1 t.rest_parity t.listed))

  module _ (tested : (a b : ℕ) → G a b → j a b ≡ true) where
    pub are_parities : (n : ℕ) {xs : List ℕ} {p : Bool} → Cancels G xs p → length xs ≤ n → Memᴰ p (parities j n xs)
    unfolding parities
    are_parities zero Cancels.none h = in_first
    are_parities zero (Cancels.constant b g r) h = absurd (not-suc-le-zero h)
    are_parities zero (Cancels.pair b m g r) h = absurd (not-suc-le-zero h)
    are_parities (suc n) Cancels.none h = in_first
    are_parities (suc n) (Cancels.constant {x = x} {xs = xs} {p = p} b g r) h =
        Memᴰ.append_left _ (has_part n x 0 xs b p (tested x (flip b 0) g) (are_parities n r (le_of_suc-le-suc h)))
    are_parities (suc n) (Cancels.pair {x = x} {y = y} {xs = xs} {ys = ys} {p = p} b m g r) h =
        Memᴰ.append_right (part n x 0 xs)
        (has_each (λ (q : ℕ × List ℕ). part n x q.0 q.1) (are_picks m)
        (has_part n x y ys b p (tested x (flip b y) g) (are_parities n r (shorter (pick_length m) h))))
      where
        shorter : {a b : ℕ} → a ≡ suc b → suc a ≤ suc n → b ≤ n
        shorter e k = omega arith
