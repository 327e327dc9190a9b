-- Laws of tests, and of the lists that are computed from a list: what passes, and what is in them. Laws come in pairs, as any-has and has-any:
-- the test or the list says so, and it does where it is so.
-- Assumes nothing.
use mathlib.Core.Path.{◌≡◌, refl, sym, ◌∙◌, ap, ap₂, subst, subst⁻¹}
use mathlib.Core.Logic.{◌≢◌, ◌⊎◌, inl, inr}
use mathlib.Core.Bool.{Bool, true, false, cond, not, ◌&&◌, ◌||◌, false≢true}
use mathlib.Core.List.Memᴰ
use mathlib.Core.List.{List, [], ◌∷◌, ◌++◌, map, append_assoc, Memᴰ}
use Prim.Native.Nat.{ℕ, zero, suc, ◌+◌, ◌≤◌, ◌<◌}
use native.Mathlib.Omega.{arith}
use native.Mathlib.Decide.{ℕ_discrete}
use borrow.Table.Steps.{cases}
use lib.ListN.{length, length-append}
use lib.Dec.{eqb}
use borrow.Author.Tests.{eq-eqb, ne_eqb, eqb-true, eqb-false}
use Rattle.clauses.specs.Clause.{Mem}
use Rattle.clauses.specs.Lists.{any, all, keep, each, also, only, from, same_list}

-- Tests put together

pub and_both : (a b : Bool) → (a && b) ≡ true → (a ≡ true) × (b ≡ true)
and_both true b e = (refl, e)
and_both false b e = absurd (false≢true e)

pub both_and : {a b : Bool} → a ≡ true → b ≡ true → (a && b) ≡ true
both_and p q = ap₂ ◌&&◌ p q

pub or_cases : (a b : Bool) → (a || b) ≡ true → (a ≡ true) ⊎ (b ≡ true)
or_cases true b e = inl refl
or_cases false b e = inr e

pub or_left : {a : Bool} (b : Bool) → a ≡ true → (a || b) ≡ true
or_left b p = ap (λ (x : Bool). x || b) p

pub or_right : (a : Bool) {b : Bool} → b ≡ true → (a || b) ≡ true
or_right true p = refl
or_right false p = p

pub not_is : (a : Bool) → not a ≡ true → a ≡ false
not_is false e = refl
not_is true e = absurd (false≢true e)

pub is_not : (a : Bool) → (a ≡ true → ⊥) → not a ≡ true
is_not true n = absurd (n refl)
is_not false n = refl

pub not_eqb : (a b : ℕ) → not (eqb a b) ≡ true → a ≢ b
not_eqb a b h e = eqb-false a b (not_is (eqb a b) h) e

pub eqb_not : (a b : ℕ) → a ≢ b → not (eqb a b) ≡ true
eqb_not a b n = ap not (ne_eqb a b n)

-- Elements

pub in_first : {A : Type 0} {x : A} {l : List A} → Memᴰ x (x ∷ l)
in_first = Memᴰ.head refl

pub in_second : {A : Type 0} {x y : A} {l : List A} → Memᴰ y (x ∷ y ∷ l)
in_second = Memᴰ.tail in_first

pub in_third : {A : Type 0} {x y z : A} {l : List A} → Memᴰ z (x ∷ y ∷ z ∷ l)
in_third = Memᴰ.tail in_second

-- Images

pub mem_map : {A B : Type 0} (f : A → B) {x : A} {c : List A} → Memᴰ x c → Memᴰ (f x) (map f c)
mem_map f (Memᴰ.head e) = Memᴰ.head (ap f e)
mem_map f (Memᴰ.tail h) = Memᴰ.tail (mem_map f h)

-- what is in an image is the image of something
pub record Origin {A B : Type 0} (f : A → B) (c : List A) (y : B) : Type 0 where
  pub of : A
  pub in_list : Memᴰ of c
  pub is : y ≡ f of

pub mem_of_map : {A B : Type 0} (f : A → B) {y : B} (c : List A) → Memᴰ y (map f c) → Origin f c y
mem_of_map {A = A} {B = B} f {y = y} [] x' = elim x' [ ]
mem_of_map f (x ∷ c) (Memᴰ.head e) = record { of = x; in_list = in_first; is = e }
mem_of_map f (x ∷ c) (Memᴰ.tail h) =
    let o = mem_of_map f c h in
    record { of = o.of; in_list = Memᴰ.tail o.in_list; is = o.is }

-- Tests of the elements

-- an element that passes
pub record Witness {A : Type 0} (f : A → Bool) (l : List A) : Type 0 where
  pub it : A
  pub listed : Memᴰ it l
  pub passes : f it ≡ true

module _ {A : Type 0} (f : A → Bool) where
  pub any_has : (l : List A) → any f l ≡ true → Witness f l
  unfolding any
  any_has [] h = absurd (false≢true h)
  any_has (x ∷ xs) h = go (f x) refl (any_has xs)
    where
      tail : Witness f xs → Witness f (x ∷ xs)
      tail w = record { it = w.it; listed = Memᴰ.tail w.listed; passes = w.passes }

      go : (b : Bool) → f x ≡ b → (any f xs ≡ true → Witness f xs) → Witness f (x ∷ xs)
      go true e ih = record { it = x; listed = in_first; passes = e }
      go false e ih = tail (ih (rw (e, any) at h))

  pub has_any : {x : A} (l : List A) → Memᴰ x l → f x ≡ true → any f l ≡ true
  unfolding any
  has_any {x = x} [] x3 h = elim x3 [ ]
  has_any (y ∷ ys) (Memᴰ.head e) h = rw (sym (ap f e) ∙ h, any)
  has_any {x} (y ∷ ys) (Memᴰ.tail k) h = go (f y) refl (has_any ys k h)
    where
      go : (b : Bool) → f y ≡ b → any f ys ≡ true → any f (y ∷ ys) ≡ true
      go true e ih = rw (e, any)
      go false e ih = rw (e, any) ih

  pub all_have : (l : List A) → all f l ≡ true → (x : A) → Memᴰ x l → f x ≡ true
  unfolding all
  all_have [] h x k = elim k [ ]
  all_have (y ∷ ys) h x k = go (f y) refl (all_have ys) k
    where
      go : (b : Bool) → f y ≡ b → (all f ys ≡ true → (x : A) → Memᴰ x ys → f x ≡ true) → Memᴰ x (y ∷ ys) → f x ≡ true
      go false e ih m = absurd (false≢true (rw (e, all) at h))
      go true e ih (Memᴰ.head q) = ap f q ∙ e
      go true e ih (Memᴰ.tail m) = ih (rw (e, all) at h) x m

  pub have_all : (l : List A) → ((x : A) → Memᴰ x l → f x ≡ true) → all f l ≡ true
  unfolding all
  have_all [] h = refl
  have_all (y ∷ ys) h = rw (h y in_first, all) (have_all ys (λ x k. h x (Memᴰ.tail k)))

  pub all_append : (k l : List A) → all f k ≡ true → all f l ≡ true → all f (k ++ l) ≡ true
  unfolding all
  all_append [] l h g = g
  all_append (x ∷ k) l h g = go (f x) refl (all_append k l)
    where
      go : (b : Bool) → f x ≡ b → (all f k ≡ true → all f l ≡ true → all f (k ++ l) ≡ true) → all f (x ∷ k ++ l) ≡ true
      go true e ih = rw (e, all) (ih (rw (e, all) at h) g)
      go false e ih = absurd (false≢true (rw (e, all) at h))

  pub keep_has : (l : List A) (x : A) → Memᴰ x (keep f l) → Memᴰ x l × (f x ≡ true)
  unfolding keep
  keep_has [] x k = elim k [ ]
  keep_has (y ∷ ys) x k = go (f y) refl (keep_has ys x)
    where
      go : (b : Bool) → f y ≡ b → (Memᴰ x (keep f ys) → Memᴰ x ys × (f x ≡ true)) → Memᴰ x (y ∷ ys) × (f x ≡ true)
      go false e ih = let t = ih (rw (e, keep) at k) in (Memᴰ.tail t.0, t.1)
      go true e ih = pick (rw (e, keep) at k)
        where
          pick : Memᴰ x (y ∷ keep f ys) → Memᴰ x (y ∷ ys) × (f x ≡ true)
          pick (Memᴰ.head q) = (Memᴰ.head q, ap f q ∙ e)
          pick (Memᴰ.tail m) = let t = ih m in (Memᴰ.tail t.0, t.1)

  pub has_keep : (l : List A) {x : A} → Memᴰ x l → f x ≡ true → Memᴰ x (keep f l)
  unfolding keep
  has_keep [] {x = x} x4 h = elim x4 [ ]
  has_keep (y ∷ ys) (Memᴰ.head q) h = rw (sym (ap f q) ∙ h, keep) (Memᴰ.head q)
  has_keep (y ∷ ys) {x} (Memᴰ.tail m) h = go (f y) refl (has_keep ys m h)
    where
      go : (b : Bool) → f y ≡ b → Memᴰ x (keep f ys) → Memᴰ x (keep f (y ∷ ys))
      go true e ih = rw (e, keep) (Memᴰ.tail ih)
      go false e ih = rw (e, keep) ih

pub keep_yes : {A : Type 0} (f : A → Bool) (x : A) (l : List A) → f x ≡ true → keep f (x ∷ l) ≡ x ∷ keep f l
unfolding keep
keep_yes f x l t = rw (t, keep)

pub keep_no : {A : Type 0} (f : A → Bool) (x : A) (l : List A) → f x ≡ false → keep f (x ∷ l) ≡ keep f l
unfolding keep
keep_no f x l t = rw (t, keep)

pub keep_one : {A : Type 0} (f : A → Bool) (x : A) (l : List A) → length (keep f (x ∷ l)) ≡ cond (f x) 1 0 + length (keep f l)
keep_one f x l = cases (f x) (λ t. rw (keep_yes f x l t, t) (omega arith)) (λ t. rw (keep_no f x l t, t) (omega arith))

pub keep_length : {A : Type 0} (f : A → Bool) (l : List A) → length (keep f l) ≤ length l
unfolding keep
keep_length f [] = omega arith
keep_length f (x ∷ l) =
    let ih : length (keep f l) ≤ length l = keep_length f l in
    cases (f x) (λ t. rw (keep_yes f x l t) (omega arith)) (λ t. rw (keep_no f x l t) (omega arith))

pub keep_all : {A : Type 0} (f : A → Bool) (l : List A) → ((x : A) → Memᴰ x l → f x ≡ true) → keep f l ≡ l
unfolding keep
keep_all f [] h = refl
keep_all f (x ∷ l) h = keep_yes f x l (h x in_first) ∙ ap (λ (k : List _). x ∷ k) (keep_all f l (λ y m. h y (Memᴰ.tail m)))

pub keep_append : {A : Type 0} (f : A → Bool) (a c : List A) → keep f (a ++ c) ≡ keep f a ++ keep f c
unfolding keep
keep_append f [] c = refl
keep_append f (x ∷ a) c = cases (f x) (λ t. rw (t, keep) (ap (λ (d : List _). x ∷ d) (keep_append f a c))) (λ t. rw (t, keep) (keep_append f a c))

pub keep_none : {A : Type 0} (f : A → Bool) (l : List A) → ((x : A) → Memᴰ x l → f x ≡ false) → keep f l ≡ []
unfolding keep
keep_none f [] h = refl
keep_none f (x ∷ l) h = rw (h x in_first, keep) (keep_none f l (λ y k. h y (Memᴰ.tail k)))

-- Lists made of each element

-- the element that y was made of
pub record Source {A B : Type 0} (l : List A) (f : A → List B) (y : B) : Type 0 where
  pub from_it : A
  pub listed : Memᴰ from_it l
  pub gives : Memᴰ y (f from_it)

pub each_has : {A B : Type 0} (l : List A) (f : A → List B) {y : B} → Memᴰ y (each l f) → Source l f y
unfolding each
each_has [] f k = elim k [ ]
each_has (x ∷ xs) f {y} k = go (Memᴰ.append_cases (f x) k) (each_has xs f)
  where
    go : Memᴰ y (f x) ⊎ Memᴰ y (each xs f) → (Memᴰ y (each xs f) → Source xs f y) → Source (x ∷ xs) f y
    go (inl m) ih = record { from_it = x; listed = in_first; gives = m }
    go (inr m) ih = let s = ih m in record { from_it = s.from_it; listed = Memᴰ.tail s.listed; gives = s.gives }

pub has_each : {A B : Type 0} {x : A} {l : List A} (f : A → List B) {y : B} → Memᴰ x l → Memᴰ y (f x) → Memᴰ y (each l f)
unfolding each
has_each {l = []} f x6 k = elim x6 [ ]
has_each {l = z ∷ l} f {y = y} (Memᴰ.head e) k = Memᴰ.append_left (each l f) (subst (λ t. Memᴰ y (f t)) e k)
has_each {l = z ∷ l} f (Memᴰ.tail m) k = Memᴰ.append_right (f z) (has_each f m k)

pub each_length : {A B : Type 0} (x : A) (l : List A) (f : A → List B) → length (each (x ∷ l) f) ≡ length (f x) + length (each l f)
unfolding each
each_length x l f = length-append (f x) (each l f)

pub each_append : {A B : Type 0} (xs ys : List A) (f : A → List B) → each (xs ++ ys) f ≡ each xs f ++ each ys f
unfolding each
each_append [] ys f = refl
each_append (x ∷ xs) ys f = ap (λ (l : List _). f x ++ l) (each_append xs ys f) ∙ sym (append_assoc (f x) (each xs f) (each ys f))

pub each_elim : {A B P : Type 0} (l : List A) (f : A → List B) {y : B} → Memᴰ y (each l f) → ((x : A) → Memᴰ x l → Memᴰ y (f x) → P) → P
each_elim l f m g = let s = each_has l f m in g s.from_it s.listed s.gives

pub also_cases : {A : Type 0} (xs ys : List A) {y : A} → Memᴰ y (also xs ys) → Memᴰ y xs ⊎ Memᴰ y ys
unfolding also
also_cases xs ys m = Memᴰ.append_cases xs m

pub also_left : {A : Type 0} {xs : List A} (ys : List A) {y : A} → Memᴰ y xs → Memᴰ y (also xs ys)
unfolding also
also_left ys m = Memᴰ.append_left ys m

pub also_right : {A : Type 0} (xs : List A) {ys : List A} {y : A} → Memᴰ y ys → Memᴰ y (also xs ys)
unfolding also
also_right xs m = Memᴰ.append_right xs m

pub only_has : {A : Type 0} (b : Bool) {l : List A} {x : A} → Memᴰ x (only b l) → (b ≡ true) × Memᴰ x l
unfolding only
only_has true k = (refl, k)
only_has false k = elim k [ ]

pub has_only : {A : Type 0} {b : Bool} {l : List A} {x : A} → b ≡ true → Memᴰ x l → Memᴰ x (only b l)
unfolding only
has_only {l = l} {x = x} e k = subst⁻¹ (λ (c : Bool). Memᴰ x (only c l)) e k

pub only_one : {A : Type 0} (b : Bool) (x : A) {y : A} → Memᴰ y (only b (x ∷ [])) → (b ≡ true) × (y ≡ x)
only_one b x m = let t = only_has b m in (t.0, Memᴰ.eq_of_singleton t.1)

-- Numbers from a on

pub from_in : (a n x : ℕ) → a ≤ x → x < a + n → Mem x (from a n)
unfolding from
from_in a zero x p q = absurd (never p q)
  where
    never : a ≤ x → x < a + 0 → ⊥
    never h k = omega arith
from_in a (suc n) x p q = go (ℕ_discrete x a) (from_in (suc a) n x)
  where
    go : Dec (x ≡ a) → (suc a ≤ x → x < suc a + n → Mem x (from (suc a) n)) → Mem x (a ∷ from (suc a) n)
    go (yes e) ih = Memᴰ.head e
    go (no m) ih = Memᴰ.tail (ih (omega arith) (omega arith))

pub from_low : (a n x : ℕ) → Mem x (from a n) → (a ≤ x) × (x < a + n)
unfolding from
from_low a zero x x3 = elim x3 [ ]
from_low a (suc n) x (Memᴰ.head e) = omega arith
from_low a (suc n) x (Memᴰ.tail k) = let t = from_low (suc a) n x k in omega arith

pub from_length : (a n : ℕ) → length (from a n) ≡ n
unfolding from
from_length a zero = refl
from_length a (suc n) = ap suc (from_length (suc a) n)

-- Equal lists

pub same_list_is : (a b : List ℕ) → same_list a b ≡ true → a ≡ b
unfolding same_list
same_list_is [] [] h = refl
same_list_is [] (y ∷ b) h = absurd (false≢true h)
same_list_is (x ∷ a) [] h = absurd (false≢true h)
same_list_is (x ∷ a) (y ∷ b) h = go (eqb x y) refl (same_list_is a b)
  where
    go : (t : Bool) → eqb x y ≡ t → (same_list a b ≡ true → a ≡ b) → x ∷ a ≡ y ∷ b
    go true e ih = ap₂ (λ (p : ℕ) (t : List ℕ). p ∷ t) (eqb-true x y e) (ih (rw (e, same_list) at h))
    go false e ih = absurd (false≢true (rw (e, same_list) at h))

pub is_same_list : (a : List ℕ) → same_list a a ≡ true
unfolding same_list
is_same_list [] = refl
is_same_list (x ∷ a) = rw (eq-eqb x x refl, same_list) (is_same_list a)
