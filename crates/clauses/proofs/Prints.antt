-- What printing answers where each of its tests is the first that holds, and where none holds.
-- Assumes nothing.
use mathlib.Core.Path.{◌≡◌, refl, ap, ◌∙◌}
use mathlib.Core.List.{List, [], ◌∷◌}
use Prim.Native.Nat.{ℕ, ◌≤◌, ◌<◌}
use native.Mathlib.Omega.{arith}
use lib.IntN.{ℤ}
use lib.ListN.{length}
use borrow.Author.Tests.{lt-ltb, le-ltb}
use Rattle.std.specs.Prelude.{Result, Ok, Err}
use Rattle.clauses.specs.Limit.{max_text}
use Rattle.clauses.specs.Refusal.{decide, buffer_too_short}
use Rattle.clauses.specs.Tally.{tally_of}
use Rattle.clauses.specs.Check.{check_sizes, check_entries}
use Rattle.clauses.specs.Writing.{Wrote}
use Rattle.clauses.specs.Printing.{Outcome, list_text, printing_tests, printing, refused, written}
use Rattle.clauses.specs.declared.refusal.Refusal.{Refusal}
use Rattle.clauses.specs.declared.refusal.Refusal.TheVariants.{BufferTooShort}
use Rattle.std.proofs.lemmas.Result.{err_from_is_err_and}
use Rattle.clauses.proofs.Tests.{sizes_within, sizes_passed, sizes_refused, entries_passed, entries_refused}
use Rattle.clauses.proofs.Writes.{wrote_start}

-- the answer and the buffer's content are those of the outcome
abbrev Answer : Outcome → Result ℕ Refusal → List ℕ → Type 0
Answer o answer after = (answer ≡ o.result) × (after ≡ o.buffer)

refusal : (o : Outcome) (buffer : List ℕ) (r : Refusal) → o ≡ refused buffer r → Answer o (Err r) buffer
unfolding refused
refusal o buffer r e = rw e (refl, refl)

module _ (v c : ℕ) (row : List ℤ) (buffer : List ℕ) where
  abbrev text : List ℕ
  text = list_text v c row

  abbrev outcome : Outcome
  outcome = printing v c row buffer

  abbrev done : Outcome
  done = written buffer text

  pub print_sizes : (r : Refusal) → check_sizes v c (length row) ≡ Err r → Answer outcome (Err r) buffer
  unfolding printing printing_tests
  print_sizes r h = refusal outcome buffer r (sizes_refused (refused buffer) done v c row _ r h)

  module _ (sizes : check_sizes v c (length row) ≡ Ok tt) where
    pub print_entries : (r : Refusal) → check_entries c (tally_of v row) ≡ Err r → Answer outcome (Err r) buffer
    unfolding printing printing_tests
    print_entries r h =
        refusal outcome buffer r
        (sizes_passed (refused buffer) done v c row _ sizes ∙ entries_refused (refused buffer) done v c row _ r h)

    module _ (entries : check_entries c (tally_of v row) ≡ Ok tt) where
      last_test : outcome ≡ decide (refused buffer) done (buffer_too_short (length buffer) text ∷ [])
      unfolding printing printing_tests
      last_test = sizes_passed (refused buffer) done v c row _ sizes ∙ entries_passed (refused buffer) done v c row _ entries

      pub print_short : length buffer < length text → Answer outcome (Err BufferTooShort) buffer
      unfolding decide
      print_short h = refusal outcome buffer BufferTooShort (last_test ∙ rw (lt-ltb _ _ h))

      module _ (room : length text ≤ length buffer) where
        pub print_long : max_text < length text → Answer outcome (Err BufferTooShort) buffer
        unfolding decide
        print_long h = refusal outcome buffer BufferTooShort (last_test ∙ rw (le-ltb _ _ room, lt-ltb _ _ h))

        pub print_written : length text ≤ max_text → (after : List ℕ) (n : ℕ) → Wrote buffer 0 text after n → Answer outcome (Ok n) after
        unfolding decide written
        print_written h after n w =
            rw (last_test, le-ltb _ _ room, le-ltb _ _ h) (ap Ok (omega (arith, w.end)), wrote_start w room)

-- what printing answers, test by test
pub ruleset prints = (print_sizes, print_entries, print_short, print_long, print_written, sizes_within, err_from_is_err_and)
