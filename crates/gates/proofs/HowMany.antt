-- How many places have a property, counted from one place to the next, and what they count.
-- Assumes nothing.
use mathlib.Core.Path.{◌≡◌, refl, sym, ◌∙◌, ap}
use mathlib.Core.Bool.{Bool, true, false}
use mathlib.Core.List.{List, [], ◌∷◌, ◌++◌}
use Prim.Native.Nat.{ℕ, zero, suc, ◌+◌, ◌≤◌, ◌<◌}
use native.Mathlib.Nat.{add-zero}
use native.Mathlib.Numerals.{add-one}
use native.Mathlib.Omega.{arith}
use lib.ListN.{length, length-append}
use Rattle.clauses.specs.Clause.{Mem}
use Rattle.clauses.specs.Lists.{keep, from}
use Rattle.clauses.proofs.Lists.{keep_length, keep_append, keep_has, has_keep, from_in, from_low, from_length}
use Rattle.clauses.proofs.Distinct.{keep_distinct, from_distinct}
use Rattle.gates.specs.Counted.{Counted}
use Rattle.gates.specs.Mark.{how_many}
use Rattle.gates.proofs.Counting.{counted_by}

from_snoc : (a n : ℕ) → from a (suc n) ≡ from a n ++ ((a + n) ∷ [])
unfolding from
from_snoc a zero = ap (λ (x : ℕ). x ∷ []) (sym (add-zero a))
from_snoc a (suc n) = let e : suc a + n ≡ a + suc n = omega arith in ap (λ (l : List ℕ). a ∷ l) (rw e at (from_snoc (suc a) n))

module _ (f : ℕ → Bool) where
  many_on : (n : ℕ) → how_many f (n + 1) ≡ how_many f n + length (keep f (n ∷ []))
  unfolding how_many
  many_on n =
      let z : 0 + n ≡ n = omega arith in
      ap (λ (k : ℕ). length (keep f (from 0 k))) (add-one n) ∙ ap (λ (l : List ℕ). length (keep f l)) (rw z at (from_snoc 0 n))
      ∙ ap length (keep_append f (from 0 n) (n ∷ [])) ∙ length-append (keep f (from 0 n)) (keep f (n ∷ []))

  pub many_none : how_many f 0 ≡ 0
  unfolding how_many from keep
  many_none = refl

  pub many_more : (n : ℕ) → f n ≡ true → how_many f (n + 1) ≡ how_many f n + 1
  unfolding keep
  many_more n e = many_on n ∙ rw (e, keep)

  pub many_same : (n : ℕ) → f n ≡ false → how_many f (n + 1) ≡ how_many f n
  unfolding keep
  many_same n e = many_on n ∙ rw (e, keep) (add-zero (how_many f n))

  pub many_le : (n : ℕ) → how_many f n ≤ n
  unfolding how_many
  many_le n = omega (arith, keep_length f (from 0 n), from_length 0 n)

-- places that name each element with P once count them
pub many_counted : {A : Type 0} {P : A → Type 0} {Like : A → A → Type 0} (g : ℕ → A) (f : ℕ → Bool) (n : ℕ) → ((p : ℕ) → p < n → f p ≡ true → P (g p))
    → ((p q : ℕ) → p < n → f p ≡ true → q < n → f q ≡ true → Like (g p) (g q) → p ≡ q) → ((x : A) → P x → (p : ℕ) × (p < n) × (f p ≡ true) × Like x (g p))
    → Counted P Like (how_many f n)
unfolding how_many
many_counted g f n have once every =
    counted_by g (keep f (from 0 n)) (keep_distinct f (from 0 n) (from_distinct 0 n)) (λ p k. have p (below p k) (passes p k))
    (λ p q k m s. once p q (below p k) (passes p k) (below q m) (passes q m) s)
    (λ x h. let t = every x h in (t.0, has_keep f (from 0 n) (from_in 0 n t.0 (omega arith) (omega (arith, t.1))) t.2, t.3))
  where
    below : (p : ℕ) → Mem p (keep f (from 0 n)) → p < n
    below p k = omega (arith, from_low 0 n p (keep_has f (from 0 n) p k).0)

    passes : (p : ℕ) → Mem p (keep f (from 0 n)) → f p ≡ true
    passes p k = (keep_has f (from 0 n) p k).1
