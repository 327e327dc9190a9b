-- What an AIGER text reads as: the tests in document 02's order, and the clauses of its circuit.
-- Assumes nothing.
use Rattle.std.specs.Prelude.{Option, Some, None, ◌≡◌, Bool, true, false, cond, List, [], ◌∷◌, ℕ, ◌+◌, eqb, ltb, ℤ, length}
use Rattle.clauses.specs.Refusal.{Test, decide, text_too_long}
use Rattle.clauses.specs.declared.header.Sizes.{Sizes}
use Rattle.clauses.specs.Reading.{Outcome, refused, accepted, numbers_tests}
use Rattle.clauses.specs.declared.refusal.Refusal.{Refusal}
use Rattle.clauses.specs.declared.refusal.Refusal.TheVariants.{AigerHeader, LatchesOrOutputs, AigerLine, AndOutput}
use Rattle.aiger.specs.declared.header.Header.{Header}
use Rattle.aiger.specs.Circuit.{Circuit, circuit_clauses, literal_row}
use Rattle.aiger.specs.Line.{header_of, Lines, said, faulty, circuit_lines, bad_output}

-- a test that holds where there is a place, and gives it
unfoldable pub is_placed : Option ℕ → Bool
is_placed None = false
is_placed (Some p) = true

unfoldable pub placed : Option ℕ → ℕ
placed None = 0
placed (Some p) = p

abbrev pub place_test : (ℕ → Refusal) → Option ℕ → Test
place_test refusal o = record { holds = is_placed o; refusal = refusal (placed o) }

-- 15. 'header malformed or M under I + L + A' (place: the line's start, which is the text's)
unfoldable pub is_header_bad : Option Header → Bool
is_header_bad None = true
is_header_bad (Some h) = ltb h.nets (h.inputs + h.latches + h.ands)

abbrev pub header_bad : Option Header → Test
header_bad o = record { holds = is_header_bad o; refusal = AigerHeader }

-- 16. 'latches or an output count other than 1' (place: the count's)
unfoldable pub bad_count : Header → Option ℕ
bad_count h = cond (eqb h.latches 0) (cond (eqb h.outputs 1) None (Some h.outputs_at)) (Some h.latches_at)

-- 17. 'a missing or malformed line, a literal over 2M + 1, or an input that is odd, 0 or listed before' (place: 'the first such line's start .. ; the text's
-- length if missing')
unfoldable pub faulty_at : Lines Circuit → Option ℕ
faulty_at (said k q) = None
faulty_at (faulty p) = Some p

-- the header and the circuit, where the tests before do not hold
unfoldable pub the_header : Option Header → Header
the_header None = record { nets = 0; inputs = 0; latches = 0; outputs = 0; ands = 0; latches_at = 0; outputs_at = 0; lines = 0 }
the_header (Some h) = h

unfoldable pub the_circuit : Lines Circuit → Circuit
the_circuit (said k q) = k
the_circuit (faulty p) = record { nets = 0; inputs = []; output = 0; ands = [] }

-- V is M, and C the number of clauses made
unfoldable pub sizes_of : Circuit → Sizes
sizes_of k = record { nets = k.nets; clauses = length (circuit_clauses k) }

-- the entries made
unfoldable pub entries_of : Circuit → List ℤ
entries_of k = literal_row (circuit_clauses k)

-- 18. 'an AND output that is odd, 0, an input or set before' (place: the output's); and the tests 4 to 7 and 10 to 12 of document 01, which 'count the
-- entries made'
unfoldable pub circuit_tests : List ℤ → Circuit → List Test
circuit_tests row k = place_test AndOutput (bad_output k.inputs k.ands) ∷ numbers_tests row (sizes_of k) (entries_of k)

unfoldable pub line_tests : List ℤ → Lines Circuit → List Test
line_tests row ls = place_test AigerLine (faulty_at ls) ∷ circuit_tests row (the_circuit ls)

-- the lines of a text
unfoldable pub lines_of : List ℕ → Lines Circuit
lines_of text = circuit_lines (the_header (header_of text)) text

-- 'in this order after 1, in place of 2 and 3'
unfoldable pub reading_tests : List ℕ → List ℤ → List Test
reading_tests text row =
    text_too_long text ∷ header_bad (header_of text) ∷ place_test LatchesOrOutputs (bad_count (the_header (header_of text))) ∷ line_tests row (lines_of text)

-- the circuit of a text
unfoldable pub circuit_of : List ℕ → Circuit
circuit_of text = the_circuit (lines_of text)

-- a well-formed file: the header is sound, there are no latches and one output, every line is as it should be, and every AND sets a net that nothing
-- before it is or sets; how large it is does not matter
pub record WellFormed (text : List ℕ) : Type 0 where
  pub header : is_header_bad (header_of text) ≡ false
  pub counts : bad_count (the_header (header_of text)) ≡ None
  pub lines : faulty_at (lines_of text) ≡ None
  pub outputs : bad_output (circuit_of text).inputs (circuit_of text).ands ≡ None

unfoldable pub reading : List ℕ → List ℤ → Outcome
reading text row =
    decide (refused row) (accepted row (sizes_of (circuit_of text)) (entries_of (circuit_of text))) (reading_tests text row)
