-- The tests of reading have document 02's numbers, in its order: 15 to 18 'after 1, in place of 2 and 3', then 4 to 7 and 10 to 12 of document 01; 'The
-- place is 0 unless stated'.
-- Assumes nothing.
use mathlib.Core.Path.{◌≡◌, refl}
use mathlib.Core.List.{List, [], ◌∷◌}
use Prim.Native.Nat.{ℕ}
use lib.IntN.{ℤ}
use Rattle.clauses.specs.Reading.{numbers_tests}
use Rattle.clauses.specs.Refusal.{numbered, first_over}
use Rattle.aiger.specs.Line.{header_of, bad_output}
use Rattle.aiger.specs.Reading.{placed, bad_count, faulty_at, the_header, sizes_of, entries_of, circuit_tests, line_tests, lines_of, reading_tests, circuit_of}

pub reading_numbered : (text : List ℕ) (row : List ℤ)
    → numbered (reading_tests text row)
    ≡ (1, 0) ∷ (15, 0) ∷ (16, placed (bad_count (the_header (header_of text)))) ∷ (17, placed (faulty_at (lines_of text)))
    ∷ (18, placed (bad_output (circuit_of text).inputs (circuit_of text).ands)) ∷ (4, 0) ∷ (5, 0) ∷ (6, 0) ∷ (7, 0)
    ∷ (10, first_over (circuit_of text).nets (entries_of (circuit_of text))) ∷ (11, 0) ∷ (12, 0) ∷ []
unfolding numbered reading_tests line_tests circuit_tests numbers_tests sizes_of circuit_of
reading_numbered text row = refl
