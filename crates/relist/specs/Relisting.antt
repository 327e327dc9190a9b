-- What the program prints: the text of the list that it reads, or why it is turned away.
-- Assumes nothing.
use Rattle.std.specs.Prelude.{Result, Ok, Err, List, ℕ, ℤ, pos, take, replicate}
use Rattle.clauses.specs.Printing.{printing}
use Rattle.clauses.specs.Reading.{reading}
use Rattle.clauses.specs.Refusal.{refusal_text}
use Rattle.clauses.specs.declared.reading.ListSize.{ListSize}
use Rattle.clauses.specs.declared.refusal.Refusal.{Refusal}

-- the bytes that printing put at a buffer's start, or the refusal
abbrev pub answer_text : Result ℕ Refusal → List ℕ → List ℕ
answer_text (Err r) buffer = refusal_text r
answer_text (Ok n) buffer = take n buffer

-- a list printed by way of a buffer of 65,536 bytes
unfoldable pub list_printed : ℕ → ℕ → List ℤ → List ℕ
list_printed v c row = answer_text (printing v c row (replicate 65536 0)).result (printing v c row (replicate 65536 0)).buffer

-- the list that reading has put at the start of a row
abbrev pub reading_printed : Result ListSize Refusal → List ℤ → List ℕ
reading_printed (Err r) row = refusal_text r
reading_printed (Ok s) row = list_printed s.nets s.clauses (take s.entries row)

-- a text, by way of a row that has room for the numbers of any text that is not too long
unfoldable pub relisted : List ℕ → List ℕ
relisted text = reading_printed (reading text (replicate 32763 (pos 0))).result (reading text (replicate 32763 (pos 0))).row
