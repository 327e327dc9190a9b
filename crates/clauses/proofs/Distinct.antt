-- Lists with no element twice, and counting by the pigeonhole.
-- Assumes nothing.
use mathlib.Core.Path.{◌≡◌, refl, sym, ◌∙◌, ap, subst, subst⁻¹}
use mathlib.Core.Logic.{◌≢◌, ◌⊎◌, inl, inr}
use mathlib.Core.Bool.{Bool, true, false}
use mathlib.Core.List.Memᴰ
use mathlib.Core.List.{List, [], ◌∷◌, ◌++◌, map, Memᴰ}
use Prim.Native.Nat.{ℕ, zero, suc, ◌≤◌, suc-le-suc}
use native.Mathlib.Omega.{arith}
use lib.ListN.{length}
use Rattle.clauses.specs.Lists.{keep, each, only, from}
use Rattle.clauses.proofs.Lists.{in_first, mem_of_map, keep_has, each_has, from_low}

pub data Distinct {A : Type 0} : List A → Type 0 where
  empty : Distinct []
  more : {x : A} {xs : List A} → ¬ Memᴰ x xs → Distinct xs → Distinct (x ∷ xs)

pub distinct_tail : {A : Type 0} {x : A} {xs : List A} → Distinct (x ∷ xs) → Distinct xs
distinct_tail (more n d) = d

pub append_distinct : {A : Type 0} (xs ys : List A) → Distinct xs → Distinct ys → ((z : A) → Memᴰ z xs → Memᴰ z ys → ⊥) → Distinct (xs ++ ys)
append_distinct [] ys d e n = e
append_distinct (x ∷ xs) ys (more m d) e n =
    more (λ k. go (Memᴰ.append_cases xs k)) (append_distinct xs ys d e (λ z k l. n z (Memᴰ.tail k) l))
  where
    go : Memᴰ x xs ⊎ Memᴰ x ys → ⊥
    go (inl k) = m k
    go (inr k) = n x in_first k

pub each_distinct : {A B : Type 0} (l : List A) (f : A → List B) → Distinct l → ((x : A) → Memᴰ x l → Distinct (f x))
    → ((x y : A) (z : B) → Memᴰ x l → Memᴰ y l → Memᴰ z (f x) → Memᴰ z (f y) → x ≡ y) → Distinct (each l f)
unfolding each
each_distinct [] f d h k = empty
each_distinct {A} {B} (x ∷ l) f (more n d) h k =
    append_distinct (f x) (each l f) (h x in_first)
    (each_distinct l f d (λ y i. h y (Memᴰ.tail i)) (λ y w z i j. k y w z (Memᴰ.tail i) (Memᴰ.tail j)))
    apart
  where
    apart : (z : B) → Memᴰ z (f x) → Memᴰ z (each l f) → ⊥
    apart z p q = let s = each_has l f q in n (Memᴰ.cast (k x s.from_it z in_first (Memᴰ.tail s.listed) p s.gives) s.listed)

pub only_distinct : {A : Type 0} (b : Bool) (l : List A) → Distinct l → Distinct (only b l)
unfolding only
only_distinct true l d = d
only_distinct false l d = empty

pub one_distinct : {A : Type 0} (x : A) → Distinct (x ∷ [])
one_distinct x = more (λ k. Memᴰ.not-nil k) empty

pub map_distinct : {A B : Type 0} (f : A → B) (xs : List A) → ((x y : A) → f x ≡ f y → x ≡ y) → Distinct xs → Distinct (map f xs)
map_distinct f [] i d = empty
map_distinct f (x ∷ xs) i (more n d) =
    more (λ k. let o = mem_of_map f xs k in n (Memᴰ.cast (i x o.of o.is) o.in_list)) (map_distinct f xs i d)

pub keep_distinct : {A : Type 0} (f : A → Bool) (xs : List A) → Distinct xs → Distinct (keep f xs)
unfolding keep
keep_distinct f [] d = d
keep_distinct f (x ∷ xs) (more n d) = go (f x) refl (keep_distinct f xs d)
  where
    go : (b : Bool) → f x ≡ b → Distinct (keep f xs) → Distinct (keep f (x ∷ xs))
    go true e ih = rw (e, keep) (more (λ k. n (keep_has f xs x k).0) ih)
    go false e ih = rw (e, keep) ih

pub from_distinct : (a n : ℕ) → Distinct (from a n)
unfolding from
from_distinct a zero = empty
from_distinct a (suc n) = more (λ k. never (from_low (suc a) n a k).0) (from_distinct (suc a) n)
  where
    never : suc a ≤ a → ⊥
    never h = omega arith

-- ys without y
record Removed {A : Type 0} (y : A) (ys : List A) : Type 0 where
  rest : List A
  size : length ys ≡ suc (length rest)
  keeps : (z : A) → z ≢ y → Memᴰ z ys → Memᴰ z rest

remove : {A : Type 0} {y : A} (ys : List A) → Memᴰ y ys → Removed y ys
remove {A = A} {y = y} [] x' = elim x' [ ]
remove {A} {y} (x ∷ xs) (Memᴰ.head e) = record { rest = xs; size = refl; keeps = go }
  where
    go : (z : A) → z ≢ y → Memᴰ z (x ∷ xs) → Memᴰ z xs
    go z n (Memᴰ.head q) = absurd (n (q ∙ sym e))
    go z n (Memᴰ.tail k) = k
remove {A} {y} (x ∷ xs) (Memᴰ.tail k) = go (remove xs k)
  where
    go : Removed y xs → Removed y (x ∷ xs)
    go r = record { rest = x ∷ r.rest; size = ap suc r.size; keeps = pick }
      where
        pick : (z : A) → z ≢ y → Memᴰ z (x ∷ xs) → Memᴰ z (x ∷ r.rest)
        pick z n (Memᴰ.head q) = Memᴰ.head q
        pick z n (Memᴰ.tail m) = Memᴰ.tail (r.keeps z n m)

-- Each of the xs, no two alike, has a partner among the ys, and no two have one in common: there are no more xs than ys.
pub pigeonhole : {A B : Type 0} (R : A → B → Type 0) (xs : List A) (ys : List B) → Distinct xs
    → ((x : A) → Memᴰ x xs → (y : B) × Memᴰ y ys × R x y)
    → ((x z : A) (y : B) → Memᴰ x xs → Memᴰ z xs → R x y → R z y → x ≡ z) → length xs ≤ length ys
pigeonhole R [] ys d t i = omega arith
pigeonhole {A} {B} R (x ∷ xs) ys (more n d) t i = go (t x in_first) (λ zs. pigeonhole R xs zs d)
  where
    go : (y : B) × Memᴰ y ys × R x y
        → ((zs : List B) → ((z : A) → Memᴰ z xs → (y : B) × Memᴰ y zs × R z y) → ((z w : A) (y : B) → Memᴰ z xs → Memᴰ w xs → R z y → R w y → z ≡ w) → length xs ≤ length zs)
        → suc (length xs) ≤ length ys
    go (y, m, r) ih =
        let e = remove ys m in
        subst⁻¹ (λ (k : ℕ). suc (length xs) ≤ k) e.size
        (suc-le-suc (ih e.rest (λ z k. pick z k (t z (Memᴰ.tail k))) (λ z w q k l. i z w q (Memᴰ.tail k) (Memᴰ.tail l))))
      where
        pick : (z : A) → Memᴰ z xs → (q : B) × Memᴰ q ys × R z q → (q : B) × Memᴰ q (remove ys m).rest × R z q
        pick z k (q, l, s) =
            (q, (remove ys m).keeps q (λ e. n (Memᴰ.cast (i x z y in_first (Memᴰ.tail k) r (subst (R z) e s)) k)) l, s)
