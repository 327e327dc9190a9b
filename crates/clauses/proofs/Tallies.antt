-- The tally of a row is that of its entries added one by one.
-- Assumes nothing.
use mathlib.Core.Path.{◌≡◌, refl, ap, ◌∙◌}
use mathlib.Core.Bool.{Bool, true, false, cond, not, ◌&&◌}
use mathlib.Core.List.{List, [], ◌∷◌, ◌++◌, map, append_assoc, append-nil}
use Prim.Native.Nat.{ℕ, suc, ◌+◌, ◌≤◌, ◌<◌}
use native.Mathlib.Numerals.{add-one}
use native.Mathlib.Omega.{arith}
use lib.Dec.{eqb, leb, ltb, eqb-suc-suc, eqb-zero-suc}
use lib.IntN.{ℤ, pos, nat_abs}
use lib.ListN.{length, get_or, take, length-append}
use lib.Seq.{take-suc, take_all, length-take-le}
use borrow.Author.Tests.{lt-ltb, le-ltb, leb-true, leb-false}
use mir.Val.{bool_byte}
use Rattle.clauses.specs.Refusal.{first_over, zeros, is_ended}
use Rattle.clauses.specs.Tally.{start, step, tallied, tally_of}
use Rattle.clauses.specs.declared.tally.EntryTally.{EntryTally}
use Rattle.clauses.proofs.Signed.{magnitude_back}
use Rattle.clauses.proofs.Walks.{stepped}

-- one more where the test passed
pub counted : (b : Bool) (n : ℕ) → n + bool_byte b ≡ cond b (n + 1) n
counted true n = refl
counted false n = omega arith

suc_cond : (b : Bool) (n : ℕ) → suc (cond b (n + 1) n) ≡ cond b (suc n + 1) (suc n)
suc_cond true n = omega arith
suc_cond false n = refl

ltb_leb : (m n : ℕ) (b : Bool) → leb m n ≡ b → ltb n m ≡ not b
ltb_leb m n true h = le-ltb n m (leb-true m n h)
ltb_leb m n false h = lt-ltb n m (leb-false m n h)

module _ (z : ℤ) where
  zeros_snoc : (row : List ℤ) → zeros (row ++ (z ∷ [])) ≡ cond (eqb (nat_abs z) 0) (zeros row + 1) (zeros row)
  unfolding zeros
  zeros_snoc [] = refl
  zeros_snoc (y ∷ row) = rw (zeros_snoc row) (more (eqb (nat_abs z) 0) (eqb (nat_abs y) 0) (zeros row))
    where
      more : (a b : Bool) (n : ℕ) → cond b (suc (cond a (n + 1) n)) (cond a (n + 1) n) ≡ cond a (cond b (suc n) n + 1) (cond b (suc n) n)
      more a true n = suc_cond a n
      more a false n = refl

  ended_snoc : (row : List ℤ) → is_ended (row ++ (z ∷ [])) ≡ eqb (nat_abs z) 0
  unfolding is_ended
  ended_snoc [] = refl
  ended_snoc (y ∷ []) = refl
  ended_snoc (y ∷ x ∷ row) = ended_snoc (x ∷ row)

  module _ (v : ℕ) where
    over_snoc : (row : List ℤ) → first_over v (row ++ (z ∷ [])) ≡ cond (eqb (first_over v row) (length row) && leb (nat_abs z) v) (first_over v row + 1) (first_over v row)
    unfolding first_over
    over_snoc [] = rw (ltb_leb (nat_abs z) v _ refl) (last (leb (nat_abs z) v))
      where
        last : (b : Bool) → ◌≡◌ {A = ℕ} (cond (not b) 0 1) (cond b 1 0)
        last true = refl
        last false = refl
    over_snoc (y ∷ row) = rw (over_snoc row) (more (ltb v (nat_abs y)) (leb (nat_abs z) v) (first_over v row) (length row))
      where
        more : (b q : Bool) (f n : ℕ) → cond b 0 (suc (cond (eqb f n && q) (f + 1) f)) ≡ cond (eqb (cond b 0 (suc f)) (suc n) && q) (cond b 0 (suc f) + 1) (cond b 0 (suc f))
        more true q f n = rw (eqb-zero-suc n)
        more false q f n = rw eqb-suc-suc (suc_cond (eqb f n && q) f)

    -- one entry more
    tally_snoc : (row : List ℤ) → step v (tally_of v row) (nat_abs z) ≡ tally_of v (row ++ (z ∷ []))
    unfolding step tally_of
    tally_snoc row = rw (length-append, over_snoc, zeros_snoc, ended_snoc)

module _ (v : ℕ) where
  -- more entries
  pub tally_append : (rest row : List ℤ) → tallied v (tally_of v row) (map nat_abs rest) ≡ tally_of v (row ++ rest)
  unfolding tallied
  tally_append [] row = rw append-nil
  tally_append (z ∷ rest) row =
      ap (λ (t : EntryTally). tallied v t (map nat_abs rest)) (tally_snoc z v row)
      ∙ tally_append rest (row ++ (z ∷ []))
      ∙ ap (tally_of v) (append_assoc row (z ∷ []) rest)

  -- all entries
  pub tally_all : (row : List ℤ) → tallied v start (map nat_abs row) ≡ tally_of v row
  unfolding tally_of first_over zeros is_ended
  tally_all row = tally_append row []

zeros_length : (row : List ℤ) → zeros row ≤ length row
unfolding zeros
zeros_length [] = omega arith
zeros_length (z ∷ row) = let h : zeros row ≤ length row = zeros_length row in more (eqb (nat_abs z) 0) h
  where
    more : (b : Bool) → zeros row ≤ length row → cond b (suc (zeros row)) (zeros row) ≤ suc (length row)
    more true h = omega arith
    more false h = omega arith

pub tally_zeros : (v : ℕ) (row : List ℤ) → (tally_of v row).zeros ≤ (tally_of v row).entries
unfolding tally_of
tally_zeros v row = zeros_length row

-- the first entries of a row
module _ (v : ℕ) (row : List ℤ) where
  pub tally_none : start ≡ tally_of v (take 0 row)
  unfolding tally_of first_over zeros is_ended
  tally_none = refl

  pub tally_next : (i : ℕ) → i < length row → step v (tally_of v (take i row)) (nat_abs (get_or row i (pos 0))) ≡ tally_of v (take (i + 1) row)
  tally_next i h = rw (add-one, take-suc row i (pos 0)) (tally_snoc (get_or row i (pos 0)) v (take i row))

  pub tally_entries : (i : ℕ) → i ≤ length row → (tally_of v (take i row)).entries ≡ i
  unfolding tally_of
  tally_entries i h = length-take-le i row h

  pub tally_full : (i : ℕ) → length row ≤ i → tally_of v (take i row) ≡ tally_of v row
  tally_full i h = rw take_all

-- the tally of a row, entry by entry
pub ruleset row_tallies = (stepped, tally_none, tally_zeros, tally_entries, tally_next, tally_full, magnitude_back)
