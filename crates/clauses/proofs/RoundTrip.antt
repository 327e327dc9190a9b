-- The round trip: the text of a list that printing accepts reads as that list.
-- Assumes nothing.
use mathlib.Core.Path.{◌≡◌, ◌∙◌}
use mathlib.Core.Bool.{Bool, true, false, ◌||◌, true≢false}
use mathlib.Core.List.{List, [], ◌∷◌, ◌++◌}
use Prim.Native.Nat.{ℕ, ◌+◌, ◌≤◌, ◌<◌}
use native.Mathlib.Omega.{arith}
use borrow.Author.Tests.{lt-ltb, le-ltb, ltb-true, ltb-false}
use borrow.Table.Steps.{cases}
use lib.Dec.{ltb}
use lib.IntN.{ℤ}
use lib.ListN.{length, take, drop}
use lib.Seq.{take-append_seam}
use Rattle.std.specs.Prelude.{Ok, Err}
use Rattle.clauses.specs.Limit.{max_text, max_nets, max_clauses}
use Rattle.clauses.specs.Printing as Printing
use Rattle.clauses.specs.Printing.{list_text, printing_tests, printing, written}
use Rattle.clauses.specs.Reading as Reading
use Rattle.clauses.specs.Reading.{numbers_tests, reading, accepted}
use Rattle.clauses.specs.Scanning.{read_numbers}
use Rattle.clauses.specs.Refusal.{Test, row_too_short, size_tests, entry_tests, buffer_too_short, first_over}
use Rattle.clauses.specs.declared.refusal.Refusal.{Refusal}
use Rattle.clauses.specs.declared.refusal.Refusal.TheVariants.{RowTooShort}
use Rattle.clauses.proofs.Deciding.{NoneHolds, none_holds_append, decide_accepted, decide_first, decide_none_holds}
use Rattle.clauses.proofs.ReadingTests.{body_numbers, heading_sized}
use Rattle.clauses.proofs.PrintedText.{headline, heading_printed, body_printed}

-- tests 5 to 7 and 10 to 12, which reading and printing share
abbrev shared : ℕ → ℕ → List ℤ → List Test
shared v c row = size_tests v c row ++ entry_tests v c row

second_false : (s t : Bool) → (s || t) ≡ false → t ≡ false
second_false true t e = absurd (true≢false e)
second_false false t e = e

-- printing accepts the list and writes n bytes
module _ (v c : ℕ) (row : List ℤ) (buffer : List ℕ) (n : ℕ) (accepts : (printing v c row buffer).result ≡ Ok n) where
  none_holds : NoneHolds (printing_tests v c row buffer)
  unfolding printing printing_tests Printing.refused
  none_holds =
      decide_none_holds (Printing.refused buffer) (written buffer (list_text v c row)) (λ o. o.result ≡ Ok n)
      (λ r e. let z : ◌≡◌ {A = ℕ} 0 1 = cc in omega arith) (printing_tests v c row buffer) accepts

  -- the tests of the list and the test of the buffer, none of which holds
  both : NoneHolds (shared v c row) × NoneHolds (buffer_too_short (length buffer) (list_text v c row) ∷ [])
  unfolding printing_tests
  both = none_holds_append (shared v c row) (buffer_too_short (length buffer) (list_text v c row) ∷ []) none_holds

  text_fits : ltb max_text (length (list_text v c row)) ≡ false
  text_fits = second_false (ltb (length buffer) (length (list_text v c row))) (ltb max_text (length (list_text v c row))) both.1.0

  prints : printing v c row buffer ≡ written buffer (list_text v c row)
  unfolding printing printing_tests
  prints =
      decide_accepted (Printing.refused buffer) (written buffer (list_text v c row)) (printing_tests v c row buffer) none_holds

  -- the buffer's first n bytes are the list's text
  pub printed_text : take n (printing v c row buffer).buffer ≡ list_text v c row
  unfolding written
  printed_text =
      let long : length (list_text v c row) ≡ n = cc prints in
      rw (prints, ← long) (take-append_seam (list_text v c row) (drop (length (list_text v c row)) buffer))

  -- the text passes tests 1 to 3, and its numbers are the row
  reads_numbers : (lent : List ℤ) → reading (list_text v c row) lent ≡ read_numbers lent (record { nets = v; clauses = c }) row
  reads_numbers lent =
      let few-nets : v ≤ max_nets = ltb-false max_nets v both.0.0 in
      let few-clauses : c ≤ max_clauses = ltb-false max_clauses c both.0.1.0 in
      let within : length row ≤ first_over v row = ltb-false (first_over v row) (length row) both.0.1.1.1.0 in
      heading_sized (list_text v c row) lent (ltb-false max_text _ text_fits) _ _ (heading_printed v c (omega arith) (omega arith) (length (list_text v c row)) row)
      ∙ body_numbers lent _ _ row (body_printed v (omega arith) row within (0 + length (headline v c) + 1))

  -- read back from its text into a row with room for it, the list gives that V, that C and that row
  pub round_trip : (lent : List ℤ) → length row ≤ length lent → reading (list_text v c row) lent ≡ record { result = Ok (record { nets = v; clauses = c; entries = length row }); row = row ++ drop (length row) lent }
  unfolding read_numbers numbers_tests accepted
  round_trip lent room =
      reads_numbers lent
      ∙ decide_accepted (Reading.refused lent) (accepted lent (record { nets = v; clauses = c }) row)
      (row_too_short (length lent) row ∷ shared v c row)
      (le-ltb (length lent) (length row) room, both.0)

  -- and into a row that is too short it is turned away for that
  pub round_trip_room : (lent : List ℤ) → length lent < length row → reading (list_text v c row) lent ≡ record { result = Err RowTooShort; row = lent }
  unfolding read_numbers numbers_tests Reading.refused
  round_trip_room lent short = reads_numbers lent ∙ decide_first (Reading.refused lent) _ (row_too_short (length lent) row) _ (lt-ltb (length lent) (length row) short)

  -- reading a printed text refuses for no other reason than the row's room
  pub round_trip_refused : (lent : List ℤ) (r : Refusal) → (reading (list_text v c row) lent).result ≡ Err r → (r ≡ RowTooShort) × (length lent < length row)
  round_trip_refused lent r e =
      cases (ltb (length lent) (length row))
      (λ t. let short : length lent < length row = ltb-true (length lent) (length row) t in
      (cc (round_trip_room lent short), short))
      (λ t. let z : ◌≡◌ {A = ℕ} 0 1 = cc (round_trip lent (ltb-false (length lent) (length row) t)) in absurd (omega arith))
