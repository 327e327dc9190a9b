-- What the sheet's entry point answers to a clause list, and what the lent rows and the buffer then hold.
-- Assumes nothing.
use Rattle.std.specs.Prelude.{Result, Ok, Err, List, [], ◌∷◌, ◌++◌, ℕ, ltb, ℤ, length, drop}
use Rattle.clauses.specs.Clause.{clauses_of}
use Rattle.clauses.specs.Refusal.{Test, decide}
use Rattle.clauses.specs.declared.refusal.Refusal.{Refusal}
use Rattle.clauses.specs.declared.refusal.Refusal.TheVariants.{BufferTooShort}
use Rattle.rules.specs.Answer.{Answer}
use Rattle.rules.specs.Compute.{answer}
use Rattle.closure.specs.Closing.{accepted, list_tests, too_many_rounds}
use Rattle.sheet.specs.Sheet.{sheet_text}

-- bytes that the buffer of a sheet must have
abbrev pub min_buffer : ℕ
min_buffer = 16384

-- 13. 'The lent text buffer is shorter .. than 16,384 bytes for a sheet'
abbrev pub sheet_buffer_too_short : List ℕ → Test
sheet_buffer_too_short text = record { holds = ltb (length text) min_buffer; refusal = BufferTooShort }

-- what it answers, and what the lent lead row, work row and text buffer then hold
pub record Outcome : Type 0 where
  pub result : Result ℕ Refusal
  pub leads : List ℕ
  pub work : List ℕ
  pub text : List ℕ

-- 'Everything lent keeps its contents.'
unfoldable pub refused : List ℕ → List ℕ → List ℕ → Refusal → Outcome
refused leads work text r = record { result = Err r; leads = leads; work = work; text = text }

-- 'printing and the sheet answer the bytes written; what was lent past that keeps its contents'; the rows are as closing leaves them
unfoldable pub written : ℕ → List ℕ → List ℕ → List ℕ → Answer → Outcome
written v leads work text a =
    record {
      result = Ok (length (sheet_text v a));
      leads = (accepted v leads work a).leads;
      work = (accepted v leads work a).work;
      text = sheet_text v a ++ drop (length (sheet_text v a)) text;
    }

-- 'the sheet 5 to 14: it is handed the clause list, a round limit and rows, never finished leads'
unfoldable pub writing_tests : ℕ → ℕ → List ℤ → ℕ → List ℕ → List ℕ → List ℕ → List Test
writing_tests v c row limit leads work text =
    list_tests v c row (length leads) (length work) ++ (sheet_buffer_too_short text ∷ too_many_rounds v (answer v (clauses_of row) limit) ∷ [])

unfoldable pub writing : ℕ → ℕ → List ℤ → ℕ → List ℕ → List ℕ → List ℕ → Outcome
writing v c row limit leads work text =
    decide (refused leads work text) (written v leads work text (answer v (clauses_of row) limit)) (writing_tests v c row limit leads work text)
