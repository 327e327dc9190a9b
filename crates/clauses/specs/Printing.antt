-- The DIMACS text of a clause list.
-- Assumes nothing.
use Rattle.std.specs.Prelude.{cond, List, [], ◌∷◌, ◌++◌, ℕ, eqb, ℤ, nat_abs, length, drop, Result, Ok, Err}
use Rattle.clauses.specs.Bytes.{space, lf, nought}
use Rattle.clauses.specs.Number.{decimal, signed_decimal}
use Rattle.clauses.specs.Refusal.{Test, decide, size_tests, entry_tests, buffer_too_short}
use Rattle.clauses.specs.declared.refusal.Refusal.{Refusal}

-- 'Printing writes the header with single spaces and LF'
unfoldable pub header_text : ℕ → ℕ → List ℕ
header_text v c = (112 ∷ space ∷ 99 ∷ 110 ∷ 102 ∷ space ∷ []) ++ (decimal v ++ (space ∷ (decimal c ++ (lf ∷ []))))

-- 'then each clause on its own line: every entry followed by one space, then `0` and LF'
unfoldable pub entry_text : ℤ → List ℕ
entry_text z = cond (eqb (nat_abs z) 0) (nought ∷ lf ∷ []) (signed_decimal z ++ (space ∷ []))

unfoldable pub row_text : List ℤ → List ℕ
row_text [] = []
row_text (z ∷ row) = entry_text z ++ row_text row

unfoldable pub list_text : ℕ → ℕ → List ℤ → List ℕ
list_text v c row = header_text v c ++ row_text row

-- what printing answers, and what the lent text buffer then holds
pub record Outcome : Type 0 where
  pub result : Result ℕ Refusal
  pub buffer : List ℕ

-- 'Everything lent keeps its contents.'
unfoldable pub refused : List ℕ → Refusal → Outcome
refused buffer r = record { result = Err r; buffer = buffer }

-- 'printing .. answer[s] the bytes written; what was lent past that keeps its contents'
unfoldable pub written : List ℕ → List ℕ → Outcome
written buffer text = record { result = Ok (length text); buffer = text ++ drop (length text) buffer }

-- 'printing 5 to 7 and 10 to 13', of V, C, a literal row and a lent text buffer
unfoldable pub printing_tests : ℕ → ℕ → List ℤ → List ℕ → List Test
printing_tests v c row buffer =
    size_tests v c row ++ (entry_tests v c row ++ (buffer_too_short (length buffer) (list_text v c row) ∷ []))

unfoldable pub printing : ℕ → ℕ → List ℤ → List ℕ → Outcome
printing v c row buffer = decide (refused buffer) (written buffer (list_text v c row)) (printing_tests v c row buffer)
