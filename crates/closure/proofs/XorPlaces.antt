-- A clause of a row without the literal at one place.
-- Assumes nothing.
use mathlib.Core.Path.{◌≡◌, refl, sym, ◌∙◌, ap, ap₂, subst}
use mathlib.Core.Logic.{◌≢◌}
use mathlib.Core.Bool.{Bool}
use mathlib.Core.List.Memᴰ
use mathlib.Core.List.{List, [], ◌∷◌}
use Prim.Native.Nat.{ℕ, zero, suc, ◌+◌, ◌≤◌, ◌<◌}
use native.Mathlib.Omega.{arith}
use native.Mathlib.Decide.{ℕ_discrete, dec_lt}
use lib.ListN.{length, get_or, take}
use lib.Seq.{take-suc, take-length}
use borrow.Author.Tests.{eq-eqb, ne_eqb}
use Rattle.clauses.specs.Clause.{Mem}
use Rattle.clauses.specs.Sign.{plus, parity}
use Rattle.clauses.specs.Row.{clause_at, LiteralAt}
use Rattle.clauses.proofs.Signs.{plus_false, plus_comm, plus_swap, parity_append}
use Rattle.clauses.proofs.Rows.{clause-at}
use Rattle.closure.specs.Xors.{others}

module _ (row : List ℕ) (p b : ℕ) where
  pub others_skip : (n : ℕ) → b + n ≡ p → others row p b (suc n) ≡ others row p b n
  unfolding others
  others_skip n e = rw (eq-eqb (b + n) p e)

  pub others_more : (n : ℕ) → b + n ≢ p → others row p b (suc n) ≡ get_or row (b + n) 0 ∷ others row p b n
  unfolding others
  others_more n e = rw (ne_eqb (b + n) p e)

  -- each is at one of the n places
  pub others_at : (n x : ℕ) → Mem x (others row p b n) → (i : ℕ) × (i < n) × (x ≡ get_or row (b + i) 0)
  unfolding others
  others_at zero x m = elim m [ ]
  others_at (suc n) x m = go (ℕ_discrete (b + n) p) (others_at n x)
    where
      up : (i : ℕ) × (i < n) × (x ≡ get_or row (b + i) 0) → (i : ℕ) × (i < suc n) × (x ≡ get_or row (b + i) 0)
      up t = let l : t.0 < n = t.1 in (t.0, omega arith, t.2)

      go : Dec (b + n ≡ p) → (Mem x (others row p b n) → (i : ℕ) × (i < n) × (x ≡ get_or row (b + i) 0)) → (i : ℕ) × (i < suc n) × (x ≡ get_or row (b + i) 0)
      go (yes e) ih = up (ih (subst (Mem x) (others_skip n e) m))
      go (no e) ih = cases (subst (Mem x) (others_more n e) m)
        where
          cases : Mem x (get_or row (b + n) 0 ∷ others row p b n) → (i : ℕ) × (i < suc n) × (x ≡ get_or row (b + i) 0)
          cases (Memᴰ.head q) = (n, omega arith, q)
          cases (Memᴰ.tail k) = up (ih k)

  others_length : (n : ℕ) → length (others row p b n) ≤ n
  unfolding others
  others_length zero = omega arith
  others_length (suc n) = go (ℕ_discrete (b + n) p) (others_length n)
    where
      go : Dec (b + n ≡ p) → length (others row p b n) ≤ n → length (others row p b (suc n)) ≤ suc n
      go (yes e) ih = rw (others_skip n e) (omega arith)
      go (no e) ih = rw (others_more n e) (omega arith)

  others_fewer : (n : ℕ) → b ≤ p → p < b + n → suc (length (others row p b n)) ≤ n
  unfolding others
  others_fewer zero l h = absurd (omega arith)
  others_fewer (suc n) l h = go (ℕ_discrete (b + n) p) (others_fewer n l)
    where
      go : Dec (b + n ≡ p) → (p < b + n → suc (length (others row p b n)) ≤ n) → suc (length (others row p b (suc n))) ≤ suc n
      go (yes e) ih = rw (others_skip n e) (omega (arith, others_length n))
      go (no e) ih = rw (others_more n e) (omega (arith, ih (omega arith)))

  -- before the last of m places, one of which is p, there are at most m - 2
  pub others_few : (n m : ℕ) → b ≤ p → p < b + m → n < m → b + n ≢ p → length (others row p b n) + 2 ≤ m
  others_few n m l h k e = go (dec_lt p (b + n))
    where
      go : Dec (p < b + n) → length (others row p b n) + 2 ≤ m
      go (yes q) = omega (arith, others_fewer n l q)
      go (no q) = omega (arith, others_length n)

  -- Sums over the places
  module _ (h : ℕ → Bool) (c : List ℕ) (entries : (i : ℕ) → i < length c → get_or c i 0 ≡ get_or row (b + i) 0) where
    one_more : (m : ℕ) → m < length c → parity h (take (suc m) c) ≡ plus (h (get_or row (b + m) 0)) (parity h (take m c))
    one_more m l =
        ap (parity h) (take-suc c m 0 l) ∙ parity_append h (take m c) (get_or c m 0 ∷ [])
        ∙ ap (plus (parity h (take m c))) (plus_false (h (get_or c m 0)) ∙ ap h (entries m l))
        ∙ plus_comm (parity h (take m c)) (h (get_or row (b + m) 0))

    sum_before : (m : ℕ) → m ≤ length c → b + m ≤ p → parity h (take m c) ≡ parity h (others row p b m)
    unfolding others
    sum_before zero l q = refl
    sum_before (suc m) l q =
        one_more m l ∙ ap (plus (h (get_or row (b + m) 0))) (sum_before m (omega arith) (omega arith))
        ∙ ap (parity h) (sym (others_more m (λ e. omega arith)))

    sum_after : (m : ℕ) → m ≤ length c → b ≤ p → p < b + m → parity h (take m c) ≡ plus (h (get_or row p 0)) (parity h (others row p b m))
    unfolding others
    sum_after zero l low q = absurd (omega arith)
    sum_after (suc m) l low q = go (ℕ_discrete (b + m) p) (sum_after m (omega arith) low)
      where
        go : Dec (b + m ≡ p) → (p < b + m → parity h (take m c) ≡ plus (h (get_or row p 0)) (parity h (others row p b m)))
            → parity h (take (suc m) c) ≡ plus (h (get_or row p 0)) (parity h (others row p b (suc m)))
        go (yes e) ih =
            one_more m l
            ∙ ap₂ plus (ap (λ (i : ℕ). h (get_or row i 0)) e) (sum_before m (omega arith) (omega arith) ∙ ap (parity h) (sym (others_skip m e)))
        go (no e) ih =
            one_more m l ∙ ap (plus (h (get_or row (b + m) 0))) (ih (omega arith))
            ∙ plus_swap (h (get_or row (b + m) 0)) (h (get_or row p 0)) (parity h (others row p b m))
            ∙ ap (λ (l : List ℕ). plus (h (get_or row p 0)) (parity h l)) (sym (others_more m e))

-- the sum of a clause is that of one literal and the others
pub others_parity : {row : List ℕ} {b p : ℕ} → LiteralAt row b p → (h : ℕ → Bool)
    → parity h (clause_at row b) ≡ plus (h (get_or row p 0)) (parity h (others row p b (length (clause_at row b))))
others_parity {row} {b} {p} l h =
    ap (parity h) (sym (take-length (clause_at row b)))
    ∙ sum_after row p b h (clause_at row b) (clause-at row b) (length (clause_at row b)) (omega arith) l.low l.high
