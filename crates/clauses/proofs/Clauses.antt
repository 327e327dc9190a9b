-- Clauses as sets: the computed tests say what they compute, and clause_sets has each clause that counts once.
-- Assumes nothing.
use mathlib.Core.Path.{◌≡◌, refl, sym, ◌∙◌, ap, subst, subst⁻¹}
use mathlib.Core.Logic.{◌⊎◌, inl, inr}
use mathlib.Core.Bool.{Bool, true, false, not, ◌&&◌, ◌||◌, true≢false}
use mathlib.Core.List.Memᴰ
use mathlib.Core.List.{List, [], ◌∷◌, Memᴰ}
use Prim.Native.Nat.{ℕ, ◌≤◌}
use native.Mathlib.Decide.{ℕ_discrete}
use native.Mathlib.Omega.{arith}
use lib.Dec.{eqb, leb}
use lib.ListN.{length}
use borrow.Author.Tests.{eq-eqb, eqb-true, leb-true}
use borrow.Table.Steps.{cases}
use Rattle.clauses.specs.Code.{negate, net}
use Rattle.clauses.specs.Clause.{Mem, Within, Same, Tautology, Present}
use Rattle.clauses.specs.Lists.{any, keep}
use Rattle.clauses.specs.Listing.{mem, within, same_set, tautology, present, literals, clause_sets, Fits, fits}
use Rattle.clauses.proofs.Lists.{and_both, both_and, or_cases, or_left, or_right, not_is, is_not, not_eqb, eqb_not, in_first, any_has, has_any, all_have, have_all, keep_has, has_keep, keep_length, keep_all}
use Rattle.clauses.proofs.Distinct.{Distinct, empty, more, keep_distinct}

-- Tests

pub mem_in : (x : ℕ) (c : List ℕ) → mem x c ≡ true → Mem x c
unfolding mem
mem_in x c h = let w = any_has (λ y. eqb x y) c h in Memᴰ.cast (eqb-true x w.it w.passes) w.listed

pub in_mem : {x : ℕ} (c : List ℕ) → Mem x c → mem x c ≡ true
unfolding mem
in_mem {x} c k = has_any (λ y. eqb x y) c k (eq-eqb x x refl)

pub within_is : (c d : List ℕ) → within c d ≡ true → Within c d
unfolding within
within_is c d h x k = mem_in x d (all_have (λ y. mem y d) c h x k)

pub is_within : (c d : List ℕ) → Within c d → within c d ≡ true
unfolding within
is_within c d h = have_all (λ y. mem y d) c (λ x k. in_mem d (h x k))

pub same_is : (c d : List ℕ) → same_set c d ≡ true → Same c d
unfolding same_set
same_is c d h =
    let t = and_both (within c d) (within d c) h in
    record { left = within_is c d t.0; right = within_is d c t.1 }

pub is_same : (c d : List ℕ) → Same c d → same_set c d ≡ true
unfolding same_set
is_same c d h = both_and (is_within c d h.left) (is_within d c h.right)

pub tautology_is : (c : List ℕ) → tautology c ≡ true → Tautology c
unfolding tautology
tautology_is c h = let w = any_has (λ x. mem (negate x) c) c h in record { lit = w.it; plain = w.listed; inverse = mem_in (negate w.it) c w.passes }

pub is_tautology : (c : List ℕ) → Tautology c → tautology c ≡ true
unfolding tautology
is_tautology c h = has_any (λ x. mem (negate x) c) c h.plain (in_mem c h.inverse)

pub present_is : (cs : List (List ℕ)) (c : List ℕ) → present cs c ≡ true → Present cs c
unfolding present
present_is cs c h =
    let w = any_has (λ d. same_set c d && not (tautology d)) cs h in
    let t = and_both (same_set c w.it) (not (tautology w.it)) w.passes in
    record { found = w.it; listed = w.listed; proper = λ k. true≢false (sym (is_tautology w.it k) ∙ not_is (tautology w.it) t.1); same = same_is c w.it t.0 }

pub is_present : (cs : List (List ℕ)) (c : List ℕ) → Present cs c → present cs c ≡ true
unfolding present
is_present cs c h =
    has_any (λ d. same_set c d && not (tautology d)) cs h.listed
    (both_and (is_same c h.found h.same) (is_not (tautology h.found) (λ e. h.proper (tautology_is h.found e))))

-- Equal sets

pub same_refl : (c : List ℕ) → Same c c
same_refl c = record { left = λ x k. k; right = λ x k. k }

pub same_sym : {c d : List ℕ} → Same c d → Same d c
same_sym h = record { left = h.right; right = h.left }

pub same_trans : {c d e : List ℕ} → Same c d → Same d e → Same c e
same_trans h k = record { left = λ x m. k.left x (h.left x m); right = λ x m. h.right x (k.right x m) }

same_tautology : {c d : List ℕ} → Same c d → Tautology d → Tautology c
same_tautology h t = record { lit = t.lit; plain = h.right t.lit t.plain; inverse = h.right (negate t.lit) t.inverse }

pub present_same : {cs : List (List ℕ)} {c d : List ℕ} → Same c d → Present cs d → Present cs c
present_same h k = record { found = k.found; listed = k.listed; proper = k.proper; same = same_trans h k.same }

-- both are present, or neither is
pub same_present : (cs : List (List ℕ)) (c d : List ℕ) → Same c d → present cs c ≡ present cs d
same_present cs c d s =
    cases (present cs d) (λ t. is_present cs c (present_same s (present_is cs d t)) ∙ sym t)
    (λ f. cases (present cs c) (λ t. absurd (true≢false (sym (is_present cs d (present_same (same_sym s) (present_is cs c t))) ∙ f))) (λ g. g ∙ sym f))

pub present_proper : {cs : List (List ℕ)} {c : List ℕ} → Present cs c → ¬ Tautology c
present_proper h t = h.proper (record { lit = t.lit; plain = h.same.left t.lit t.plain; inverse = h.same.left (negate t.lit) t.inverse })

-- Each literal once

pub literals_same : (c : List ℕ) → Same (literals c) c
unfolding literals
literals_same [] = same_refl []
literals_same (x ∷ c) = let s = literals_same c in record { left = left s; right = λ y m. right s y m (ℕ_discrete y x) }
  where
    left : Same (literals c) c → Within (x ∷ keep (λ y. not (eqb x y)) (literals c)) (x ∷ c)
    left s y (Memᴰ.head e) = Memᴰ.head e
    left s y (Memᴰ.tail m) = Memᴰ.tail (s.left y (keep_has (λ z. not (eqb x z)) (literals c) y m).0)

    right : Same (literals c) c → (y : ℕ) → Mem y (x ∷ c) → Dec (y ≡ x) → Mem y (x ∷ keep (λ z. not (eqb x z)) (literals c))
    right s y m (yes e) = Memᴰ.head e
    right s y (Memᴰ.head e) (no n) = absurd (n e)
    right s y (Memᴰ.tail m) (no n) = Memᴰ.tail (has_keep (λ z. not (eqb x z)) (literals c) (s.right y m) (eqb_not x y (λ e. n (sym e))))

pub literals_distinct : (c : List ℕ) → Distinct (literals c)
unfolding literals
literals_distinct [] = empty
literals_distinct (x ∷ c) =
    more (λ m. not_eqb x x (keep_has (λ z. not (eqb x z)) (literals c) x m).1 refl) (keep_distinct (λ z. not (eqb x z)) (literals c) (literals_distinct c))

pub literals_length : (c : List ℕ) → length (literals c) ≤ length c
unfolding literals
literals_length [] = omega arith
literals_length (x ∷ c) = omega (arith, keep_length (λ y. not (eqb x y)) (literals c), literals_length c)

-- nothing is left out where no literal is repeated
pub literals_once : {c : List ℕ} → Distinct c → literals c ≡ c
unfolding literals
literals_once empty = refl
literals_once (more {x = x} {xs = xs} n d) =
    ap (λ (l : List ℕ). x ∷ l) (ap (keep (λ y. not (eqb x y))) (literals_once d) ∙ keep_all (λ y. not (eqb x y)) xs (λ y m. eqb_not x y (λ e. n (Memᴰ.cast e m))))

-- Each clause once

-- the clause as it stands there
pub record Kept (cs : List (List ℕ)) (c : List ℕ) : Type 0 where
  pub it : List ℕ
  pub listed : Memᴰ it (clause_sets cs)
  pub same : Same c it

pub clause_sets_listed : (cs : List (List ℕ)) (d : List ℕ) → Memᴰ d (clause_sets cs) → Present cs d × Distinct d
unfolding clause_sets
clause_sets_listed [] d k = elim k [ ]
clause_sets_listed (c ∷ cs) d k = go (tautology c || any (λ e. same_set c e) cs) refl (clause_sets_listed cs d)
  where
    weaken : Present cs d × Distinct d → Present (c ∷ cs) d × Distinct d
    weaken h = (record { found = h.0.found; listed = Memᴰ.tail h.0.listed; proper = h.0.proper; same = h.0.same }, h.1)

    go : (b : Bool) → (tautology c || any (λ e. same_set c e) cs) ≡ b → (Memᴰ d (clause_sets cs) → Present cs d × Distinct d) → Present (c ∷ cs) d × Distinct d
    go true e ih = weaken (ih (rw (e, clause_sets) at k))
    go false e ih = pick (rw (e, clause_sets) at k)
      where
        pick : Memᴰ d (literals c ∷ clause_sets cs) → Present (c ∷ cs) d × Distinct d
        pick (Memᴰ.tail m) = weaken (ih m)
        pick (Memᴰ.head q) =
            subst⁻¹ (λ (x : List ℕ). Present (c ∷ cs) x × Distinct x) q (
              record {
                found = c;
                listed = in_first;
                proper = λ t. true≢false (sym (or_left (any (λ x. same_set c x) cs) (is_tautology c t)) ∙ e);
                same = literals_same c;
              },
              literals_distinct c,
            )

keeps : (ds : List (List ℕ)) (f : List ℕ) → Memᴰ f ds → ¬ Tautology f → Kept ds f
unfolding clause_sets
keeps [] f m n = elim m [ ]
keeps (x ∷ xs) f m n = go (tautology x || any (λ e. same_set x e) xs) refl m (keeps xs)
  where
    go : (b : Bool) → (tautology x || any (λ e. same_set x e) xs) ≡ b → Memᴰ f (x ∷ xs)
        → ((g : List ℕ) → Memᴰ g xs → ¬ Tautology g → Kept xs g) → Kept (x ∷ xs) f
    go true e (Memᴰ.tail k) ih = let t = ih f k n in record { it = t.it; listed = rw (e, clause_sets) t.listed; same = t.same }
    go true e (Memᴰ.head q) ih = pick (or_cases (tautology x) (any (λ e. same_set x e) xs) e)
      where
        pick : (tautology x ≡ true) ⊎ (any (λ e. same_set x e) xs ≡ true) → Kept (x ∷ xs) f
        pick (inl t) = absurd (n (subst⁻¹ Tautology q (tautology_is x t)))
        pick (inr t) =
            let w = any_has (λ e. same_set x e) xs t in
            let s : Same f w.it = subst⁻¹ (λ (y : List ℕ). Same y w.it) q (same_is x w.it w.passes) in
            let r = ih w.it w.listed (λ u. n (same_tautology s u)) in
            record { it = r.it; listed = rw (e, clause_sets) r.listed; same = same_trans s r.same }
    go false e (Memᴰ.tail k) ih = let t = ih f k n in record { it = t.it; listed = rw (e, clause_sets) (Memᴰ.tail t.listed); same = t.same }
    go false e (Memᴰ.head q) ih =
        record { it = literals x; listed = rw (e, clause_sets) in_first; same = subst⁻¹ (λ (y : List ℕ). Same y (literals x)) q (same_sym (literals_same x)) }

pub clause_sets_kept : {cs : List (List ℕ)} {c : List ℕ} → Present cs c → Kept cs c
clause_sets_kept {cs} h = let k = keeps cs h.found h.listed h.proper in record { it = k.it; listed = k.listed; same = same_trans h.same k.same }

stands_again : (x : List ℕ) (xs : List (List ℕ)) (z : List ℕ) → Memᴰ z (clause_sets xs) → Same (literals x) z → any (λ e. same_set x e) xs ≡ true
stands_again x xs z i s =
    let p = (clause_sets_listed xs z i).0 in
    has_any (λ e. same_set x e) xs p.listed (is_same x p.found (same_trans (same_sym (literals_same x)) (same_trans s p.same)))

-- a set of literals stands once among them
pub clause_sets_once : (cs : List (List ℕ)) (c d : List ℕ) → Memᴰ c (clause_sets cs) → Memᴰ d (clause_sets cs) → Same c d → c ≡ d
unfolding clause_sets
clause_sets_once [] c d k m s = absurd (Memᴰ.not-nil k)
clause_sets_once (x ∷ xs) c d k m s = go (tautology x || any (λ e. same_set x e) xs) refl (clause_sets_once xs c d)
  where
    go : (b : Bool) → (tautology x || any (λ e. same_set x e) xs) ≡ b → (Memᴰ c (clause_sets xs) → Memᴰ d (clause_sets xs) → Same c d → c ≡ d) → c ≡ d
    go true e ih = ih (rw (e, clause_sets) at k) (rw (e, clause_sets) at m) s
    go false e ih = pick (rw (e, clause_sets) at k) (rw (e, clause_sets) at m)
      where
        not_later : (y z : List ℕ) → y ≡ literals x → Memᴰ z (clause_sets xs) → Same y z → ⊥
        not_later y z q i t = true≢false (sym (or_right (tautology x) (stands_again x xs z i (subst (λ (w : List ℕ). Same w z) q t))) ∙ e)

        pick : Memᴰ c (literals x ∷ clause_sets xs) → Memᴰ d (literals x ∷ clause_sets xs) → c ≡ d
        pick (Memᴰ.head p) (Memᴰ.head q) = p ∙ sym q
        pick (Memᴰ.head p) (Memᴰ.tail q) = absurd (not_later c d p q s)
        pick (Memᴰ.tail p) (Memᴰ.head q) = absurd (not_later d c q p (same_sym s))
        pick (Memᴰ.tail p) (Memᴰ.tail q) = ih p q s

pub clause_sets_distinct : (cs : List (List ℕ)) → Distinct (clause_sets cs)
unfolding clause_sets
clause_sets_distinct [] = empty
clause_sets_distinct (x ∷ xs) = go (tautology x || any (λ e. same_set x e) xs) refl (clause_sets_distinct xs)
  where
    go : (b : Bool) → (tautology x || any (λ e. same_set x e) xs) ≡ b → Distinct (clause_sets xs) → Distinct (clause_sets (x ∷ xs))
    go true e ih = rw (e, clause_sets) ih
    go false e ih = rw (e, clause_sets) (more out ih)
      where
        out : Memᴰ (literals x) (clause_sets xs) → ⊥
        out i = true≢false (sym (or_right (tautology x) (stands_again x xs (literals x) i (same_refl (literals x)))) ∙ e)

-- Nets from 1 to V

pub fits_is : (v : ℕ) (cs : List (List ℕ)) → fits v cs ≡ true → Fits v cs
unfolding fits
fits_is v cs h c k x m =
    let t = and_both (leb 1 (net x)) (leb (net x) v) (all_have _ c (all_have _ cs h c k) x m) in
    (leb-true 1 (net x) t.0, leb-true (net x) v t.1)

pub fits_present : {v : ℕ} {cs : List (List ℕ)} → Fits v cs → {c : List ℕ} → Present cs c → (x : ℕ) → Mem x c → (1 ≤ net x) × (net x ≤ v)
fits_present fit h x m = fit h.found h.listed x (h.same.left x m)
