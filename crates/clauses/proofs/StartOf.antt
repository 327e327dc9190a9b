-- Each place of a row of codes is a literal's or the end of one clause.
-- Assumes nothing.
use mathlib.Core.Path.{◌≡◌, refl}
use mathlib.Core.Logic.{◌≢◌, inl, inr}
use mathlib.Core.Bool.{Bool, true, false}
use mathlib.Core.List.{List}
use Prim.Native.Nat.{ℕ, zero, suc, ◌+◌, ◌-◌, ◌≤◌, ◌<◌}
use native.Mathlib.Omega.{arith}
use native.Mathlib.Decide.{ℕ_discrete, dec_lt}
use lib.Dec.{eqb}
use lib.ListN.{length, get_or}
use borrow.Author.Tests.{eqb-true, eqb-false}
use Rattle.clauses.specs.Row.{clause_at, Starts, LiteralAt, start_of}
use Rattle.clauses.proofs.Rows.{literal_some, clause_ended, starts_apart}

-- where the clause ends that has the place p
abbrev end_of : List ℕ → ℕ → ℕ
end_of row p = start_of row p + length (clause_at row (start_of row p))

module _ (row : List ℕ) where
  pub start_low : (p : ℕ) → start_of row p ≤ p
  unfolding start_of
  start_low zero = omega arith
  start_low (suc p) = go (eqb (get_or row p 0) 0) refl (start_low p)
    where
      go : (t : Bool) → eqb (get_or row p 0) 0 ≡ t → start_of row p ≤ p → start_of row (suc p) ≤ suc p
      go true e ih = rw (e, start_of) (omega arith)
      go false e ih = rw (e, start_of) (omega arith)

  start_run : (p q : ℕ) → start_of row p ≤ q → q < p → get_or row q 0 ≢ 0
  unfolding start_of
  start_run zero q l h = absurd (omega arith)
  start_run (suc p) q l h = go (eqb (get_or row p 0) 0) refl (ℕ_discrete q p) (start_run p q)
    where
      go : (t : Bool) → eqb (get_or row p 0) 0 ≡ t → Dec (q ≡ p) → (start_of row p ≤ q → q < p → get_or row q 0 ≢ 0) → get_or row q 0 ≢ 0
      go true e d ih = absurd (omega (arith, rw (e, start_of) at l))
      go false e (yes i) ih = rw i (eqb-false (get_or row p 0) 0 e)
      go false e (no n) ih = ih (rw (e, start_of) at l) (omega arith)

  pub start_is : (p : ℕ) → p < length row → Starts row (start_of row p)
  unfolding start_of
  start_is zero h = record { inside = h; behind = inl refl }
  start_is (suc p) h = go (eqb (get_or row p 0) 0) refl (start_is p)
    where
      go : (t : Bool) → eqb (get_or row p 0) 0 ≡ t → (p < length row → Starts row (start_of row p)) → Starts row (start_of row (suc p))
      go true e ih = let s : suc p - 1 ≡ p = omega arith in rw (e, start_of) (record { inside = h; behind = inr (rw s (eqb-true (get_or row p 0) 0 e)) })
      go false e ih = rw (e, start_of) (ih (omega arith))

  -- the end of the clause is not before p
  start_reaches : (p : ℕ) → p ≤ end_of row p
  start_reaches p = go (dec_lt (end_of row p) p)
    where
      go : Dec (end_of row p < p) → p ≤ end_of row p
      go (yes h) = absurd (start_run p (end_of row p) (omega arith) h (clause_ended row (start_of row p)))
      go (no n) = omega arith

  pub literal_start : (p : ℕ) → p < length row → get_or row p 0 ≢ 0 → LiteralAt row (start_of row p) p
  literal_start p h n =
      record { start = start_is p h; low = start_low p; high = go (ℕ_discrete p (end_of row p)) (start_reaches p) }
    where
      go : Dec (p ≡ end_of row p) → p ≤ end_of row p → p < end_of row p
      go (yes e) k = absurd (n (rw e (clause_ended row (start_of row p))))
      go (no m) k = omega arith

  pub end_start : (p : ℕ) → get_or row p 0 ≡ 0 → start_of row p + length (clause_at row (start_of row p)) ≡ p
  end_start p e = go (dec_lt p (end_of row p)) (start_reaches p)
    where
      go : Dec (p < end_of row p) → p ≤ end_of row p → end_of row p ≡ p
      go (yes h) k = absurd (literal_some row (start_of row p) p (start_low p) h e)
      go (no n) k = omega arith

  -- no other clause has the place
  pub start_only : (b p : ℕ) → Starts row b → b ≤ p → p ≤ b + length (clause_at row b) → p < length row → start_of row p ≡ b
  start_only b p s l h i = go (dec_lt b (start_of row p)) (dec_lt (start_of row p) b)
    where
      go : Dec (b < start_of row p) → Dec (start_of row p < b) → start_of row p ≡ b
      go (yes k) d = absurd (omega (arith, start_low p, starts_apart row b (start_of row p) (start_is p i) k))
      go (no m) (yes k) = absurd (omega (arith, start_reaches p, starts_apart row (start_of row p) b s k))
      go (no m) (no n) = omega arith
