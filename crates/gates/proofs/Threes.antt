-- Clauses of three literals: their places, and their literals as a set.
-- Assumes nothing.
use mathlib.Core.Path.{◌≡◌, refl, ◌∙◌}
use mathlib.Core.Logic.{◌≢◌}
use mathlib.Core.Bool.{true}
use mathlib.Core.List.Memᴰ
use mathlib.Core.List.{List, [], ◌∷◌}
use Prim.Native.Nat.{ℕ, suc, ◌+◌, ◌-◌, ◌^◌, ◌≤◌, ◌<◌}
use native.Mathlib.Numerals.{add-one}
use native.Mathlib.Omega.{arith}
use native.Mathlib.Decide.{ℕ_discrete}
use borrow.Author.Tests.{eq-eqb, eqb-true, lt-ltb, ltb-true}
use lib.Dec.{ltb}
use lib.ListN.{length, get_or}
use Rattle.clauses.specs.Code.{negate}
use Rattle.clauses.specs.Clause.{Mem, Within, Same}
use Rattle.clauses.specs.Lists.{from}
use Rattle.clauses.specs.Row.{clause_at, Starts, start_of, around}
use Rattle.clauses.proofs.Lists.{and_both, both_and, in_first, in_second, in_third}
use Rattle.clauses.proofs.Clauses.{same_refl, same_sym}
use Rattle.clauses.proofs.Rows.{literal_some, clause_ended, clause_listed}
use Rattle.clauses.proofs.StartOf.{start_low, start_is, start_only}
use Rattle.clauses.proofs.Around.{around_in, around_last, around_next}
use Rattle.gates.specs.Ites.{in_three}
use Rattle.gates.specs.Mask.{masked}
use Rattle.gates.proofs.Masks.{masked_first, masked_second, masked_third}

-- Sets of three literals

pub within_three : (a b c : ℕ) (d : List ℕ) → Mem a d → Mem b d → Mem c d → Within (a ∷ b ∷ c ∷ []) d
within_three a b c d i j k x (Memᴰ.head e) = Memᴰ.cast e i
within_three a b c d i j k x (Memᴰ.tail (Memᴰ.head e)) = Memᴰ.cast e j
within_three a b c d i j k x (Memᴰ.tail (Memᴰ.tail (Memᴰ.head e))) = Memᴰ.cast e k
within_three a b c d i j k x (Memᴰ.tail (Memᴰ.tail (Memᴰ.tail m))) = absurd (Memᴰ.not-nil m)

module _ (a b c : ℕ) where
  pub swap : Same (a ∷ b ∷ c ∷ []) (a ∷ c ∷ b ∷ [])
  swap = record { left = within_three a b c _ in_first in_third in_second; right = within_three a c b _ in_first in_third in_second }

  rotate : Same (a ∷ b ∷ c ∷ []) (b ∷ c ∷ a ∷ [])
  rotate = record { left = within_three a b c _ in_third in_first in_second; right = within_three b c a _ in_second in_third in_first }

module _ (row : List ℕ) where
  -- Clauses of three literals

  pub record Three (b : ℕ) : Type 0 where
    pub inside : b + 3 < length row
    pub size : length (clause_at row b) ≡ 3

  pub start_in_three : (b p : ℕ) → Starts row b → Three b → b ≤ p → p < b + 3 → start_of row p ≡ b
  start_in_three b p s t l u = start_only row b p s l (omega (arith, t.size)) (omega (arith, t.inside))

  clause_three : (b : ℕ) → Three b → clause_at row b ≡ get_or row b 0 ∷ get_or row (b + 1) 0 ∷ get_or row (b + 2) 0 ∷ []
  unfolding from
  clause_three b t = let z : b + 2 ≡ suc (suc b) = omega arith in rw (add-one, z) (clause_listed row 3 b t.size)

  -- the literal at p and the inverses of the other two, by the mask of their places
  pub masked_others : (b p : ℕ) → Three b → b ≤ p → p < b + 3
      → Same (get_or row p 0 ∷ negate (get_or row (around b p) 0) ∷ negate (get_or row (around b (around b p)) 0) ∷ []) (masked (7 - 2 ^ (p - b)) (clause_at row b))
  masked_others b p t l h = rw (clause_three b t) (go (ℕ_discrete p b) (ℕ_discrete p (b + 1)))
    where
      x : ℕ
      x = get_or row b 0

      y : ℕ
      y = get_or row (b + 1) 0

      z : ℕ
      z = get_or row (b + 2) 0

      around_one : around b (b + 1) ≡ b + 2
      around_one = around_next b (b + 1) (omega arith) ∙ omega arith

      go : Dec (p ≡ b) → Dec (p ≡ b + 1) → Same (get_or row p 0 ∷ negate (get_or row (around b p) 0) ∷ negate (get_or row (around b (around b p)) 0) ∷ []) (masked (7 - 2 ^ (p - b)) (x ∷ y ∷ z ∷ []))
      go (yes e) d = let k : p - b ≡ 0 = omega arith in rw (k, masked_first x y z, e, around_next b b (omega arith), around_one) (same_refl _)
      go (no m) (yes e) = let k : p - b ≡ 1 = omega arith in rw (k, masked_second x y z, e, around_one, around_last b (b + 2) refl) (same_sym (rotate _ _ _))
      go (no m) (no n) = let e : p ≡ b + 2 = omega arith in let k : p - b ≡ 2 = omega arith in rw (k, masked_third x y z, e, around_last b (b + 2) refl, around_next b b (omega arith)) (rotate _ _ _)

  -- a place of such a clause
  pub record InThree (p : ℕ) : Type 0 where
    pub low : start_of row p ≤ p
    pub high : p < start_of row p + 3
    pub clause : Three (start_of row p)

  pub in_three_is : (p : ℕ) → in_three row p ≡ true → InThree p
  unfolding in_three
  in_three_is p h =
      let a = and_both (ltb p (start_of row p + 3)) _ h in
      let d = and_both (ltb (start_of row p + 3) (length row)) _ a.1 in
      record { low = start_low row p; high = ltb-true _ _ a.0; clause = record { inside = ltb-true _ _ d.0; size = eqb-true _ _ d.1 } }

  pub is_in_three : (b p : ℕ) → start_of row p ≡ b → p < b + 3 → Three b → in_three row p ≡ true
  unfolding in_three
  is_in_three b p e l t = rw e (both_and (lt-ltb _ _ l) (both_and (lt-ltb _ _ t.inside) (eq-eqb _ _ t.size)))

  -- the next place, told by the 0 behind the clause
  pub next_last : (p : ℕ) → InThree p → get_or row (p + 1) 0 ≡ 0 → p ≡ start_of row p + 2
  next_last p t z = go (ℕ_discrete p (start_of row p + 2))
    where
      go : Dec (p ≡ start_of row p + 2) → p ≡ start_of row p + 2
      go (yes e) = e
      go (no n) = absurd (literal_some row (start_of row p) (p + 1) (omega (arith, t.low)) (omega (arith, t.high, t.clause.size)) z)

  pub next_inner : (p : ℕ) → InThree p → get_or row (p + 1) 0 ≢ 0 → p ≢ start_of row p + 2
  next_inner p t n e = let q : p + 1 ≡ start_of row p + length (clause_at row (start_of row p)) = omega (arith, t.clause.size) in n (rw q (clause_ended row (start_of row p)))

  pub start_around : (p : ℕ) → InThree p → start_of row (around (start_of row p) p) ≡ start_of row p
  start_around p t =
      let r = around_in (start_of row p) p t.low t.high in
      start_in_three (start_of row p) _ (start_is row p (omega (arith, t.high, t.clause.inside))) t.clause r.0 r.1
