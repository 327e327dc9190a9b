-- One element taken out of a list, and lists that differ in their order.
-- Assumes nothing.
use mathlib.Core.Path.{◌≡◌, refl, sym, ◌∙◌, ap, subst, subst⁻¹}
use mathlib.Core.Logic.{◌≢◌}
use mathlib.Core.List.Memᴰ
use mathlib.Core.List.{List, [], ◌∷◌, map, Memᴰ}
use Prim.Native.Nat.{ℕ, suc}
use lib.ListN.{length}
use Rattle.clauses.specs.Clause.{Mem, Within, Same}
use Rattle.clauses.specs.Lists.{Pick, first, later, picks}
use Rattle.clauses.proofs.Lists.{in_first, mem_map, mem_of_map}
use Rattle.clauses.proofs.Distinct.{Distinct, empty, more, distinct_tail, map_distinct}
use Rattle.clauses.proofs.Clauses.{same_trans}

-- xs with x taken out
pub record Picked (x : ℕ) (xs : List ℕ) : Type 0 where
  pub rest : List ℕ
  pub pick : Pick x xs rest

pub picked : {x : ℕ} (xs : List ℕ) → Mem x xs → Picked x xs
picked {x = x} [] x'' = elim x'' [ ]
picked {x} (y ∷ ys) (Memᴰ.head e) = record { rest = ys; pick = subst (λ (z : ℕ). Pick x (z ∷ ys) ys) e first }
picked (y ∷ ys) (Memᴰ.tail k) = let p = picked ys k in record { rest = y ∷ p.rest; pick = later p.pick }

pub pick_in : {x : ℕ} {xs ys : List ℕ} → Pick x xs ys → Mem x xs
pick_in first = in_first
pick_in (later h) = Memᴰ.tail (pick_in h)

pub pick_rest : {x : ℕ} {xs ys : List ℕ} → Pick x xs ys → Within ys xs
pick_rest first z k = Memᴰ.tail k
pick_rest (later h) z (Memᴰ.head e) = Memᴰ.head e
pick_rest (later h) z (Memᴰ.tail k) = Memᴰ.tail (pick_rest h z k)

pick_whole : {x : ℕ} {xs ys : List ℕ} → Pick x xs ys → Within xs (x ∷ ys)
pick_whole first z k = k
pick_whole (later h) z (Memᴰ.head e) = Memᴰ.tail (Memᴰ.head e)
pick_whole {x} (later {y = y} {ys = ys} h) z (Memᴰ.tail k) = go (pick_whole h z k)
  where
    go : Mem z (x ∷ ys) → Mem z (x ∷ y ∷ ys)
    go (Memᴰ.head e) = Memᴰ.head e
    go (Memᴰ.tail m) = Memᴰ.tail (Memᴰ.tail m)

pub pick_same : {x : ℕ} {xs ys : List ℕ} → Pick x xs ys → Same xs (x ∷ ys)
pick_same {x} {xs} {ys} h = record { left = pick_whole h; right = back }
  where
    back : Within (x ∷ ys) xs
    back z (Memᴰ.head e) = Memᴰ.cast e (pick_in h)
    back z (Memᴰ.tail k) = pick_rest h z k

pub pick_distinct : {x : ℕ} {xs ys : List ℕ} → Pick x xs ys → Distinct xs → Distinct (x ∷ ys)
pick_distinct first d = d
pick_distinct {x} (later {y = y} {xs = xs} {ys = ys} h) (more n d) = go (pick_distinct h d)
  where
    go : Distinct (x ∷ ys) → Distinct (x ∷ y ∷ ys)
    go (more m e) = more out (more (λ k. n (pick_rest h y k)) e)
      where
        out : Mem x (y ∷ ys) → ⊥
        out (Memᴰ.head q) = n (Memᴰ.cast (sym q) (pick_in h))
        out (Memᴰ.tail k) = m k

pub pick_length : {y : ℕ} {xs ys : List ℕ} → Pick y xs ys → length xs ≡ suc (length ys)
pick_length first = refl
pick_length (later h) = ap suc (pick_length h)

pick_equal : {x x' : ℕ} {c ys zs : List ℕ} → Distinct c → Pick x c ys → Pick x' c zs → x ≡ x' → ys ≡ zs
pick_equal d first first e = refl
pick_equal (more n d) first (later k) e = absurd (n (Memᴰ.cast e (pick_in k)))
pick_equal (more n d) (later h) first e = absurd (n (Memᴰ.cast (sym e) (pick_in h)))
pick_equal (more n d) (later {y = y} h) (later k) e = ap (λ (t : List ℕ). y ∷ t) (pick_equal d h k e)

pub pick_unique : {x : ℕ} {c ys zs : List ℕ} → Distinct c → Pick x c ys → Pick x c zs → ys ≡ zs
pick_unique d h k = pick_equal d h k refl

pub in_rest : {x : ℕ} {c rest : List ℕ} → Pick x c rest → (y : ℕ) → Mem y c → y ≢ x → Mem y rest
in_rest {x} {c} {rest} k y m n = go ((pick_same k).left y m)
  where
    go : Mem y (x ∷ rest) → Mem y rest
    go (Memᴰ.head e) = absurd (n e)
    go (Memᴰ.tail q) = q

pub rest_other : {x : ℕ} {c rest : List ℕ} → Pick x c rest → Distinct c → (y : ℕ) → Mem y rest → y ≢ x
rest_other {x} {c} {rest} k d y m e = go (pick_distinct k d)
  where
    go : Distinct (x ∷ rest) → ⊥
    go (more n q) = n (Memᴰ.cast (sym e) m)

-- The computed picks

pub picks_are : (xs : List ℕ) (p : ℕ × List ℕ) → Memᴰ p (picks xs) → Pick p.0 xs p.1
unfolding picks
picks_are [] p x' = elim x' [ ]
picks_are (x ∷ xs) p (Memᴰ.head e) = subst⁻¹ (λ (q : ℕ × List ℕ). Pick q.0 (x ∷ xs) q.1) e first
picks_are (x ∷ xs) p (Memᴰ.tail k) =
    let o = mem_of_map (λ (q : ℕ × List ℕ). (q.0, x ∷ q.1)) (picks xs) k in
    subst⁻¹ (λ (q : ℕ × List ℕ). Pick q.0 (x ∷ xs) q.1) o.is (later (picks_are xs o.of o.in_list))

pub are_picks : {x : ℕ} {xs ys : List ℕ} → Pick x xs ys → Memᴰ {A = ℕ × List ℕ} (x, ys) (picks xs)
unfolding picks
are_picks first = in_first
are_picks (later {y = y} h) = Memᴰ.tail (mem_map (λ (q : ℕ × List ℕ). (q.0, y ∷ q.1)) (are_picks h))

pub picks_distinct : (c : List ℕ) → Distinct c → Distinct (picks c)
unfolding picks
picks_distinct [] d = empty
picks_distinct (x ∷ xs) (more n d) =
    more out (map_distinct (λ (p : ℕ × List ℕ). (p.0, x ∷ p.1)) (picks xs) once (picks_distinct xs d))
  where
    once : (p q : ℕ × List ℕ) → ◌≡◌ {A = ℕ × List ℕ} (p.0, x ∷ p.1) (q.0, x ∷ q.1) → p ≡ q
    once p q e =
        let a : x ∷ p.1 ≡ x ∷ q.1 = ap (λ (r : ℕ × List ℕ). r.1) e in
        let b : p.1 ≡ q.1 = cc in
        λ i. ((e i).0, b i)

    out : Memᴰ {A = ℕ × List ℕ} (x, xs) (map (λ (p : ℕ × List ℕ). (p.0, x ∷ p.1)) (picks xs)) → ⊥
    out k =
        let o = mem_of_map (λ (p : ℕ × List ℕ). (p.0, x ∷ p.1)) (picks xs) k in
        n (Memᴰ.cast (ap (λ (p : ℕ × List ℕ). p.0) o.is) (pick_in (picks_are xs o.of o.in_list)))

-- Other orders

pub same_tail : {x : ℕ} {xs ys : List ℕ} → Same (x ∷ xs) (x ∷ ys) → Distinct (x ∷ xs) → Distinct (x ∷ ys) → Same xs ys
same_tail {x} {xs} {ys} h (more n d) (more m e) = record { left = λ z k. go (h.left z (Memᴰ.tail k)) k; right = λ z k. back (h.right z (Memᴰ.tail k)) k }
  where
    go : {z : ℕ} → Mem z (x ∷ ys) → Mem z xs → Mem z ys
    go (Memᴰ.head q) k = absurd (n (Memᴰ.cast (sym q) k))
    go (Memᴰ.tail l) k = l

    back : {z : ℕ} → Mem z (x ∷ xs) → Mem z ys → Mem z xs
    back (Memᴰ.head q) k = absurd (m (Memᴰ.cast (sym q) k))
    back (Memᴰ.tail l) k = l

-- the same elements, in some order
pub data Perm : List ℕ → List ℕ → Type 0 where
  none : Perm [] []
  one : {x : ℕ} {xs ys zs : List ℕ} → Pick x ys zs → Perm xs zs → Perm (x ∷ xs) ys

pub perm_of_same : (xs ys : List ℕ) → Distinct xs → Distinct ys → Same xs ys → Perm xs ys
perm_of_same [] [] d e s = Perm.none
perm_of_same [] (y ∷ ys) d e s = elim (s.right y in_first) [ ]
perm_of_same (x ∷ xs) ys d e s =
    let p = picked ys (s.left x in_first) in
    let q = pick_distinct p.pick e in
    Perm.one p.pick (perm_of_same xs p.rest (distinct_tail d) (distinct_tail q) (same_tail (same_trans s (pick_same p.pick)) d q))

pub perm_length : {xs ys : List ℕ} → Perm xs ys → length xs ≡ length ys
perm_length Perm.none = refl
perm_length (Perm.one h p) = ap suc (perm_length p) ∙ sym (pick_length h)
