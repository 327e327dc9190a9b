-- The tests of reading and printing have document 01's numbers, in its order: 'Reading tests 1 to 7 and 10 to 12, printing 5 to 7 and 10 to 13', and
-- 'The place is 0 unless stated'.
-- Assumes nothing.
use mathlib.Core.Path.{◌≡◌, refl}
use mathlib.Core.List.{List, [], ◌∷◌}
use Prim.Native.Nat.{ℕ}
use lib.IntN.{ℤ}
use Rattle.clauses.specs.Reading.{malformed_at, bad_word_at, sizes_of, body_of, entries_of, heading_of, numbers_tests, body_tests, reading_tests}
use Rattle.clauses.specs.Printing.{printing_tests}
use Rattle.clauses.specs.Refusal.{numbered, first_over}

pub reading_numbered : (text : List ℕ) (row : List ℤ)
    → numbered (reading_tests text row)
    ≡ (1, 0) ∷ (2, malformed_at (heading_of text)) ∷ (3, bad_word_at (body_of (heading_of text))) ∷ (4, 0) ∷ (5, 0) ∷ (6, 0) ∷ (7, 0)
    ∷ (10, first_over (sizes_of (heading_of text)).nets (entries_of (body_of (heading_of text)))) ∷ (11, 0) ∷ (12, 0) ∷ []
unfolding numbered reading_tests body_tests numbers_tests
reading_numbered text row = refl

pub printing_numbered : (v c : ℕ) (row : List ℤ) (buffer : List ℕ)
    → numbered (printing_tests v c row buffer) ≡ (5, 0) ∷ (6, 0) ∷ (7, 0) ∷ (10, first_over v row) ∷ (11, 0) ∷ (12, 0) ∷ (13, 0) ∷ []
unfolding numbered printing_tests
printing_numbered v c row buffer = refl
