-- What the programs print of a text: its sheet, or why it is turned away.
-- Assumes nothing.
use Rattle.std.specs.Prelude.{Result, Ok, Err, List, ℕ, take, replicate}
use Rattle.clauses.specs.Refusal.{refusal_text}
use Rattle.clauses.specs.declared.refusal.Refusal.{Refusal}
use Rattle.sheet.specs.Comparing.{comparing, comparing_aiger}

-- the bytes that were written to a buffer's start, or the refusal
abbrev pub answer_text : Result ℕ Refusal → List ℕ → List ℕ
answer_text (Err r) text = refusal_text r
answer_text (Ok n) text = take n text

-- of a DIMACS text, by way of a buffer of 16,384 bytes
unfoldable pub printed : List ℕ → List ℕ
printed input = answer_text (comparing input (replicate 16384 0)).result (comparing input (replicate 16384 0)).text

-- of an AIGER text
unfoldable pub printed_aiger : List ℕ → List ℕ
printed_aiger input = answer_text (comparing_aiger input (replicate 16384 0)).result (comparing_aiger input (replicate 16384 0)).text
