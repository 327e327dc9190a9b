-- Laws of counting: the number is unique, and no more elements have one property than another to which they can be taken.
-- Assumes nothing.
use mathlib.Core.Path.{◌≡◌, refl, sym, ◌∙◌, subst, subst⁻¹}
use mathlib.Core.Logic.{◌↔◌, Equivalence}
use mathlib.Core.List.Memᴰ
use mathlib.Core.List.{List, [], ◌∷◌, map, Memᴰ}
use Prim.Native.Nat.{ℕ, ◌≤◌}
use native.Mathlib.Nat.{le_antisymm}
use lib.ListN.{length, length-map}
use Rattle.clauses.proofs.Lists.{in_first, mem_map, mem_of_map}
use Rattle.clauses.proofs.Distinct.{Distinct, pigeonhole}
use Rattle.clauses.proofs.Clauses.{same_refl, same_sym, same_trans}
use Rattle.gates.specs.Counted.{Unlike, none, more, Counted, SameWith}

module _ {A : Type 0} {Like : A → A → Type 0} (eqv : Equivalence Like) where
  unlike_distinct : {xs : List A} → Unlike Like xs → Distinct xs
  unlike_distinct none = Distinct.empty
  unlike_distinct (more {x = x} n u) = Distinct.more (λ k. n x k (eqv.refl x)) (unlike_distinct u)

  unlike_equal : {xs : List A} → Unlike Like xs → (x y : A) → Memᴰ x xs → Memᴰ y xs → Like x y → x ≡ y
  unlike_equal none x y x10 _ h = elim x10 [ ]
  unlike_equal (more n u) x y (Memᴰ.head p) (Memᴰ.head q) h = p ∙ sym q
  unlike_equal (more n u) x y (Memᴰ.head p) (Memᴰ.tail k) h = absurd (n y k (subst (λ (z : A). Like z y) p h))
  unlike_equal (more n u) x y (Memᴰ.tail k) (Memᴰ.head q) h = absurd (n x k (subst (λ (z : A). Like z x) q (eqv.symm x y h)))
  unlike_equal (more n u) x y (Memᴰ.tail k) (Memᴰ.tail m) h = unlike_equal u x y k m h

-- f takes what has P to what has Q, and only what is alike to what is alike: no more have P than Q
pub counted_le : {A B : Type 0} {P : A → Type 0} {Q : B → Type 0} {Like : A → A → Type 0} {Like' : B → B → Type 0} {n m : ℕ}
    → Equivalence Like → Equivalence Like' → (f : A → B) → ((x : A) → P x → Q (f x)) → ((x y : A) → P x → P y → Like' (f x) (f y) → Like x y)
    → Counted P Like n → Counted Q Like' m → n ≤ m
counted_le {A} {B} {Like' = Like'} eqv eqv' f to back c d =
    rw (← c.size, ← d.size)
    (pigeonhole (λ (x : A) (y : B). Like' (f x) y) c.list d.list (unlike_distinct eqv c.unlike) (λ x k. d.every (f x) (to x (c.have x k)))
    (λ x z y k m p q. unlike_equal eqv c.unlike x z k m (back x z (c.have x k) (c.have z m) (eqv'.trans (f x) y (f z) p (eqv'.symm (f z) y q)))))

-- the number is unique
pub counted_once : {A : Type 0} {P : A → Type 0} {Like : A → A → Type 0} {n m : ℕ} → Equivalence Like → Counted P Like n → Counted P Like m → n ≡ m
counted_once eqv c d =
    le_antisymm (counted_le eqv eqv (λ x. x) (λ x p. p) (λ x y p q h. h) c d) (counted_le eqv eqv (λ x. x) (λ x p. p) (λ x y p q h. h) d c)

pub counted_only : {A : Type 0} {P : A → Type 0} {Like : A → A → Type 0} {m : ℕ} → Equivalence Like → Counted P Like m → (n : ℕ) → Counted P Like n ↔ (n ≡ m)
counted_only {P = P} {Like = Like} eqv c n = (λ d. counted_once eqv d c, λ e. subst⁻¹ (Counted P Like) e c)

module _ {A B : Type 0} {Like : A → A → Type 0} (f : B → A) where
  map_unlike : (l : List B) → Distinct l → ((b c : B) → Memᴰ b l → Memᴰ c l → Like (f b) (f c) → b ≡ c) → Unlike Like (map f l)
  map_unlike [] d i = none
  map_unlike (b ∷ l) (Distinct.more n d) i =
      more
      (λ y k h.
      let o = mem_of_map f l k in
      n (Memᴰ.cast (i b o.of in_first (Memᴰ.tail o.in_list) (subst (Like (f b)) o.is h)) o.in_list))
      (map_unlike l d (λ b c k m. i b c (Memᴰ.tail k) (Memᴰ.tail m)))

  -- a list without repetition that names each element with P once counts them
  pub counted_by : {P : A → Type 0} (l : List B) → Distinct l → ((b : B) → Memᴰ b l → P (f b)) → ((b c : B) → Memᴰ b l → Memᴰ c l → Like (f b) (f c) → b ≡ c)
      → ((x : A) → P x → (b : B) × Memᴰ b l × Like x (f b)) → Counted P Like (length l)
  counted_by {P} l d h i e =
      record {
        list = map f l;
        size = length-map l f;
        have = λ x k. let o = mem_of_map f l k in subst P (sym o.is) (h o.of o.in_list);
        unlike = map_unlike l d i;
        every = λ x p. let t = e x p in (f t.0, mem_map f t.1, t.2);
      }

pub same_with : {B : Type 0} → Equivalence (SameWith {B = B})
same_with =
    record {
      refl = λ p. (same_refl p.0, refl);
      symm = λ p q h. (same_sym h.0, sym h.1);
      trans = λ p q r h k. (same_trans h.0 k.0, h.1 ∙ k.1);
    }
