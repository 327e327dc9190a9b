-- What reading answers.
-- Assumes nothing.
use mathlib.Core.Path.{◌≡◌, refl, sym, ◌∙◌, ap}
use mathlib.Core.Logic.{◌↔◌}
use mathlib.Core.Bool.{Bool, false}
use mathlib.Core.List.{List, ◌++◌}
use Rattle.std.specs.Prelude.{Option, Some, None, Ok}
use Prim.Native.Nat.{ℕ, ◌≤◌}
use native.Mathlib.Omega.{arith}
use borrow.Author.Tests.{ltb-false, le-ltb}
use lib.IntN.{ℤ}
use lib.ListN.{length, take, drop, length-append}
use lib.Seq.{take_at}
use Rattle.clauses.specs.Assignment.{Assignment, Satisfies}
use Rattle.clauses.specs.Clause.{clauses_of}
use Rattle.clauses.specs.Limit.{max_text, max_nets}
use Rattle.clauses.specs.Reading.{Outcome, refused, accepted, numbers_tests}
use Rattle.clauses.specs.Refusal.{decide, size_tests, entry_tests}
use Rattle.clauses.specs.Scanning.{read_numbers}
use Rattle.clauses.specs.declared.reading.ListSize.{ListSize}
use Rattle.clauses.proofs.Deciding.{NoneHolds, decide_accepted, decide_none_holds}
use Rattle.aiger.specs.Circuit.{Runs, circuit_clauses}
use Rattle.aiger.specs.Reading.{is_placed, sizes_of, entries_of, circuit_tests, line_tests, reading_tests, circuit_of, WellFormed, reading}
use Rattle.aiger.proofs.CircuitTruth.{circuit_true}

not_placed : (o : Option ℕ) → is_placed o ≡ false → o ≡ None
unfolding is_placed
not_placed None e = refl
not_placed (Some p) e = absurd cc

-- of a well-formed file that is not too long, tests 4 to 7 and 10 to 12 decide
pub well_formed_reads : (text : List ℕ) (row : List ℤ) → length text ≤ max_text → WellFormed text
    → reading text row ≡ read_numbers row (sizes_of (circuit_of text)) (entries_of (circuit_of text))
unfolding reading read_numbers reading_tests line_tests circuit_tests circuit_of is_placed decide
well_formed_reads text row h w = rw (le-ltb max_text (length text) h, w.header, w.counts, w.lines, w.outputs)

module _ (text : List ℕ) (row : List ℤ) (s : ListSize) (e : (reading text row).result ≡ Ok s) where
  -- a text that reading accepts passes all tests
  pub accepted_none_holds : NoneHolds (reading_tests text row)
  unfolding reading refused
  accepted_none_holds =
      decide_none_holds (refused row) _ (λ o. o.result ≡ Ok s) (λ r h. cc) (reading_tests text row) e

  pub accepted_well_formed : WellFormed text
  unfolding reading_tests line_tests circuit_tests circuit_of
  accepted_well_formed =
      record {
        header = accepted_none_holds.1.0;
        counts = not_placed _ accepted_none_holds.1.1.0;
        lines = not_placed _ accepted_none_holds.1.1.1.0;
        outputs = not_placed _ accepted_none_holds.1.1.1.1.0;
      }

  reading_accepted : reading text row ≡ accepted row (sizes_of (circuit_of text)) (entries_of (circuit_of text))
  unfolding reading
  reading_accepted = decide_accepted (refused row) _ (reading_tests text row) accepted_none_holds

  size_accepted : (accepted row (sizes_of (circuit_of text)) (entries_of (circuit_of text))).result ≡ Ok s
  size_accepted = sym (ap (λ (o : Outcome). o.result) reading_accepted) ∙ e

  row_accepted : (reading text row).row ≡ entries_of (circuit_of text) ++ drop (length (entries_of (circuit_of text))) row
  unfolding accepted
  row_accepted = ap (λ (o : Outcome). o.row) reading_accepted

  entries_accepted : length (entries_of (circuit_of text)) ≡ s.entries
  unfolding accepted
  entries_accepted = let h = size_accepted in cc

  nets_accepted : (circuit_of text).nets ≡ s.nets
  unfolding accepted sizes_of
  nets_accepted = let h = size_accepted in cc

  clauses_accepted : length (circuit_clauses (circuit_of text)) ≡ s.clauses
  unfolding accepted sizes_of
  clauses_accepted = let h = size_accepted in cc

  pub read_accepted : (s.nets ≡ (circuit_of text).nets) × (s.clauses ≡ length (circuit_clauses (circuit_of text)))
      × (take s.entries (reading text row).row ≡ entries_of (circuit_of text))
  read_accepted = (sym nets_accepted, sym clauses_accepted, rw row_accepted (take_at (entries_of (circuit_of text)) _ s.entries entries_accepted))

  -- an assignment satisfies the clauses that reading gives exactly when it obeys every AND line and makes the output true
  pub read_true : (value : ℕ → Bool) → Assignment value → Satisfies value (clauses_of (take s.entries (reading text row).row)) ↔ Runs value (circuit_of text)
  read_true value asg = rw read_accepted.2 (circuit_true value asg (circuit_of text))

  -- tests 5 to 7 and 10 to 12 do not hold of the list that reading gives
  pub read_tests : let listed = take s.entries (reading text row).row in NoneHolds (size_tests s.nets s.clauses listed ++ entry_tests s.nets s.clauses listed)
  unfolding reading_tests line_tests circuit_tests numbers_tests sizes_of circuit_of
  read_tests = rw (read_accepted.0, read_accepted.1, read_accepted.2) accepted_none_holds.1.1.1.1.1.1

-- the entries that reading counts lie within the row, and V within its limit
pub read_within : (row : List ℤ) (text : List ℕ) (s : ListSize) → (reading text row).result ≡ Ok s → (s.entries ≤ length (reading text row).row) × (s.nets ≤ max_nets)
unfolding reading_tests line_tests circuit_tests numbers_tests sizes_of circuit_of
read_within row text s e = (
  rw (row_accepted text row s e, length-append) (omega (arith, entries_accepted text row s e)),
  omega (arith, nets_accepted text row s e, ltb-false max_nets (circuit_of text).nets (accepted_none_holds text row s e).1.1.1.1.1.1.0),
)
