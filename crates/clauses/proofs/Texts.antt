-- The parts of a clause list's text.
-- Assumes nothing.
use mathlib.Core.Path.{◌≡◌, refl, ap, sym, ◌∙◌}
use mathlib.Core.Bool.{Bool, true, false, cond, false≢true}
use mathlib.Core.List.{List, [], ◌∷◌, ◌++◌, append_assoc, append-nil}
use Prim.Native.Nat.{ℕ, suc, ◌+◌, ◌*◌, ◌≤◌, ◌<◌}
use native.Mathlib.Numerals.{add-one}
use native.Mathlib.Omega.{arith}
use lib.Dec.{eqb}
use lib.IntN.{ℤ, pos, negsuc, nat_abs}
use mir.Val.{bool_byte}
use Rattle.std.specs.Int.{is_negative}
use lib.ListN.{length, get_or, take, drop, length-append, take-append-drop}
use lib.Seq.{take-suc}
use borrow.Author.Tests.{ne_eqb}
use Rattle.clauses.specs.Bytes.{space, lf, minus, nought}
use Rattle.clauses.specs.Number.{decimal, signed_decimal}
use Rattle.clauses.specs.Printing.{header_text, entry_text, row_text, list_text}
use Rattle.clauses.proofs.Decimals.{decimal_length}
use Rattle.clauses.proofs.Walks.{stepped}
use Rattle.clauses.proofs.Writes.{wrote_then}
use Rattle.clauses.proofs.Signed.{not_negative, magnitude_back, read_back, sign_back, zero_back}

module _ (v c : ℕ) where
  pub header_length : length (header_text v c) ≡ length (decimal v) + length (decimal c) + 8
  unfolding header_text
  header_length = simp length-append (omega arith)

  -- the header as it is put: `p cnf `, V and a space, C and LF
  pub header_parts : (112 ∷ space ∷ 99 ∷ 110 ∷ 102 ∷ space ∷ []) ++ (decimal v ++ (space ∷ [])) ++ (decimal c ++ (lf ∷ [])) ≡ header_text v c
  unfolding header_text
  header_parts = simp append_assoc

-- An entry

pub signed_plain : (z : ℤ) → is_negative z ≡ false → signed_decimal z ≡ decimal (nat_abs z)
unfolding signed_decimal
signed_plain (pos n) h = refl
signed_plain (negsuc n) h = let e : ◌≡◌ {A = ℕ} 0 1 = cc in absurd (omega arith)

pub signed_minus : (z : ℤ) → is_negative z ≡ true → signed_decimal z ≡ minus ∷ decimal (nat_abs z)
unfolding signed_decimal
signed_minus (pos n) h = absurd (false≢true (sym (not_negative n) ∙ h))
signed_minus (negsuc n) h = refl

pub signed_length : (z : ℤ) → length (decimal (nat_abs z)) + bool_byte (is_negative z) ≡ length (signed_decimal z)
unfolding signed_decimal
signed_length (pos n) = rw (not_negative n) (omega arith)
signed_length (negsuc n) = omega arith

pub entry_zero : (z : ℤ) → z ≡ pos 0 → entry_text z ≡ nought ∷ lf ∷ []
unfolding entry_text
entry_zero z e = rw e

pub entry_literal : (z : ℤ) → (z ≡ pos 0 → ⊥) → entry_text z ≡ signed_decimal z ++ (space ∷ [])
unfolding entry_text
entry_literal (pos n) h = rw (ne_eqb n 0 (λ e. h (ap pos e)))
entry_literal (negsuc n) h = rw (ne_eqb (suc n) 0 (λ e. omega arith))

pub entry_literal_length : (z : ℤ) → (z ≡ pos 0 → ⊥) → length (entry_text z) ≡ length (signed_decimal z) + 1
entry_literal_length z h = rw (entry_literal z h) (length-append (signed_decimal z) (space ∷ []))

pub number_length : (z : ℤ) → length (signed_decimal z) ≤ 21
unfolding signed_decimal
number_length (pos n) = omega (arith, decimal_length n)
number_length (negsuc n) = omega (arith, decimal_length (suc n))

pub entry_length : (z : ℤ) → length (entry_text z) ≤ 22
unfolding entry_text
entry_length z = more (eqb (nat_abs z) 0)
  where
    more : (b : Bool) → length (cond b (nought ∷ lf ∷ []) (signed_decimal z ++ (space ∷ []))) ≤ 22
    more true = omega arith
    more false = simp length-append (omega (arith, number_length z))

pub row_length : (row : List ℤ) → length (row_text row) ≤ 22 * length row
unfolding row_text
row_length [] = omega arith
row_length (z ∷ row) = simp length-append (omega (arith, entry_length z, row_length row))

row_append : (row rest : List ℤ) → row_text (row ++ rest) ≡ row_text row ++ row_text rest
unfolding row_text
row_append [] rest = refl
row_append (z ∷ row) rest = ap (λ (l : List ℕ). entry_text z ++ l) (row_append row rest) ∙ sym (append_assoc (entry_text z) (row_text row) (row_text rest))

-- of no entries there is no text
pub row_none : (row : List ℤ) → row_text (take 0 row) ≡ []
unfolding row_text
row_none row = refl

module _ (row : List ℤ) (i : ℕ) (h : i < length row) where
  -- one entry more
  pub row_next : row_text (take (i + 1) row) ≡ row_text (take i row) ++ entry_text (get_or row i (pos 0))
  unfolding row_text
  row_next =
      rw (add-one, take-suc row i (pos 0) h)
      (row_append (take i row) (get_or row i (pos 0) ∷ []) ∙ rw append-nil)

  pub row_next_length : length (row_text (take (i + 1) row)) ≡ length (row_text (take i row)) + length (entry_text (get_or row i (pos 0)))
  row_next_length = rw row_next (length-append (row_text (take i row)) (entry_text (get_or row i (pos 0))))

  -- the text so far and the next entry's are no longer than the whole
  pub row_room : length (row_text (take i row)) + length (entry_text (get_or row i (pos 0))) ≤ length (row_text row)
  row_room =
      omega (
        arith,
        row_next_length,
        ap (λ (l : List ℤ). length (row_text l)) (take-append-drop (i + 1) row),
        ap length (row_append (take (i + 1) row) (drop (i + 1) row)),
        length-append (row_text (take (i + 1) row)) (row_text (drop (i + 1) row)),
      )

pub list_length : (v c : ℕ) (row : List ℤ) → length (list_text v c row) ≡ length (header_text v c) + length (row_text row)
unfolding list_text
list_length v c row = length-append (header_text v c) (row_text row)

-- the length of a number
pub ruleset number_lengths = (number_length, signed_length, magnitude_back, sign_back)

-- .. of an entry
pub ruleset entry_lengths = (number_length, entry_zero, entry_literal_length, read_back, zero_back)

-- .. of a row, entry by entry
pub ruleset row_lengths = (stepped, row_length, row_none, row_next_length, row_room, read_back)

-- .. of a list
pub ruleset list_lengths = (decimal_length, header_length, row_length, list_length)

-- a number, written
pub ruleset numbers = (signed_minus, signed_plain, magnitude_back, sign_back, wrote_then)

-- an entry, written
pub ruleset entries = (entry_zero, entry_literal, entry_literal_length, read_back, zero_back)
