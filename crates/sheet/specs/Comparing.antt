-- What the programs answer to a text: the sheet of its list under round limit V + 1.
-- Assumes nothing.
use Rattle.std.specs.Prelude.{Result, Ok, Err, List, ℕ, ◌+◌, ℤ, pos, take, replicate}
use Rattle.clauses.specs.declared.reading.ListSize.{ListSize}
use Rattle.clauses.specs.declared.refusal.Refusal.{Refusal}
use Rattle.clauses.specs.Reading.{reading}
use Rattle.aiger.specs.Reading as Aiger
use Rattle.closure.specs.Closing.{max_work}
use Rattle.sheet.specs.Writing.{writing}

-- what it answers, and what the lent buffer then holds
pub record Outcome : Type 0 where
  pub result : Result ℕ Refusal
  pub text : List ℕ

-- a literal row with room for the numbers of any DIMACS text of at most 65,536 bytes
abbrev pub empty_row : List ℤ
empty_row = replicate 32763 (pos 0)

-- the sheet of what was read, under round limit V + 1, or why it is turned away
unfoldable pub sheet_of : Result ListSize Refusal → List ℤ → List ℕ → Outcome
sheet_of (Err r) row text = record { result = Err r; text = text }
sheet_of (Ok s) row text =
    let o = writing s.nets s.clauses (take s.entries row) (s.nets + 1) (replicate 1024 0) (replicate max_work 0) text in
    record { result = o.result; text = o.text }

-- 'The program reads DIMACS text from standard input, uses round limit V + 1 and prints the sheet'
unfoldable pub comparing : List ℕ → List ℕ → Outcome
comparing input text = sheet_of (reading input empty_row).result (reading input empty_row).row text

-- a literal row with room for the entries that any AIGER text of at most 65,536 bytes makes
abbrev pub empty_aiger_row : List ℤ
empty_aiger_row = replicate 109222 (pos 0)

-- 'a second program reads it from standard input and prints the sheet': an AIGER file
unfoldable pub comparing_aiger : List ℕ → List ℕ → Outcome
comparing_aiger input text = sheet_of (Aiger.reading input empty_aiger_row).result (Aiger.reading input empty_aiger_row).row text
