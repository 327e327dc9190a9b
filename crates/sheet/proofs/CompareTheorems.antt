-- The theorems about the programs' way, from a text to its sheet: which refusals they can give, that the list is never left unfinished, and what the sheet of
-- a circuit says of it.
-- Assumes nothing.
use Rattle.std.specs.Prelude.{Result, Ok, Err}
use mathlib.Core.Path.{◌≡◌, refl, sym, ◌∙◌, ap, subst}
use mathlib.Core.Logic.{◌≢◌}
use mathlib.Core.Bool.{Bool, true}
use mathlib.Core.List.Memᴰ
use mathlib.Core.List.{List, [], ◌∷◌, ◌++◌}
use Prim.Native.Nat.{ℕ, suc, ◌+◌, ◌*◌, ◌≤◌, ◌<◌}
use native.Mathlib.Omega.{arith}
use borrow.Author.Tests.{le-ltb}
use lib.IntN.{ℤ, pos}
use lib.ListN.{length, get_or, take, drop, replicate, length-replicate}
use lib.Seq.{take-append_seam}
use Rattle.clauses.specs.Assignment.{Assignment, Satisfies}
use Rattle.clauses.specs.Clause.{clauses_of}
use Rattle.clauses.specs.Lists.{any, all}
use Rattle.clauses.specs.Listing.{mem, Fits}
use Rattle.clauses.specs.Limit.{max_nets}
use Rattle.clauses.specs.Refusal.{number_of, Test, numbered, first_over, size_tests, entry_tests}
use Rattle.clauses.specs.Reading.{reading}
use Rattle.clauses.specs.declared.refusal.Refusal.{Refusal}
use Rattle.clauses.specs.declared.reading.ListSize.{ListSize}
use Rattle.clauses.proofs.Answers.{read_within}
use Rattle.clauses.proofs.Clauses.{mem_in, in_mem}
use Rattle.clauses.proofs.Deciding.{NoneHolds, none_holds_append, is_among, none_among, decide_among, decide_none_holds, decide_accepted}
use Rattle.clauses.proofs.Lists.{or_left, have_all, all_append}
use Rattle.clauses.proofs.ReadingRefusals.{reading_numbers, reading_refusals}
use Rattle.clauses.proofs.Tests.{decide_append}
use Rattle.aiger.specs.Circuit.{Circuit}
use Rattle.aiger.specs.Reading as Aiger
use Rattle.aiger.specs.Reading.{circuit_of, WellFormed}
use Rattle.aiger.proofs.ReadingAnswers as AigerAnswers
use Rattle.aiger.proofs.ReadingRefusals as AigerRefusals
use Rattle.rules.specs.declared.Verdict.TheVariants.{Contradiction, Unfinished}
use Rattle.rules.specs.Answer.{Answer}
use Rattle.rules.specs.Compute.{answer}
use Rattle.closure.specs.Closing as Closing
use Rattle.closure.specs.Closing.{max_work, leads_too_short, work_too_short, list_tests, too_many_rounds, summary, accepted, closing, Answers}
use Rattle.closure.proofs.ClosingTests.{none_holds_fits, closing_parts, never_too_many, never_unfinished, rounds_accepted}
use Rattle.closure.proofs.ClosingTheorems.{accepted_answers, answers_is, closing_true, closing_contradiction}
use Rattle.sheet.specs.Sheet.{sheet_text}
use Rattle.sheet.specs.Writing.{Outcome, sheet_buffer_too_short, refused, written, writing_tests, writing}
use Rattle.sheet.specs.CircuitSheet.{CircuitSheet}
use Rattle.sheet.specs.Comparing.{empty_row, empty_aiger_row, sheet_of, comparing, comparing_aiger}

-- 'the sheet 5 to 14': document 01's numbers and places, in its order.
pub writing_numbered : (v c : ℕ) (row : List ℤ) (limit : ℕ) (leads work text : List ℕ)
    → numbered (writing_tests v c row limit leads work text)
    ≡ (5, 0) ∷ (6, 0) ∷ (7, 0) ∷ (8, 0) ∷ (9, 0) ∷ (10, first_over v row) ∷ (11, 0) ∷ (12, 0) ∷ (13, 0) ∷ (14, 0) ∷ []
unfolding numbered writing_tests
writing_numbered v c row limit leads work text = refl

-- The sheet of a list of at most 1,024 nets, with the rows that the programs lend

module _ (v c : ℕ) (row : List ℤ) (text : List ℕ) (few : v ≤ max_nets) where
  abbrev leads : List ℕ
  leads = replicate 1024 0

  abbrev work : List ℕ
  work = replicate max_work 0

  abbrev a : Answer
  a = answer v (clauses_of row) (v + 1)

  abbrev Last : List Test
  Last = sheet_buffer_too_short text ∷ too_many_rounds v a ∷ []

  abbrev First : List Test
  First = list_tests v c row (length leads) (length work)

  -- it refuses only with these numbers, if tests 5 to 7 and 10 to 12 do
  module _ (ns : List ℕ) where
    -- a refusal has one of these numbers
    Among : Outcome → Type 0
    Among o = (r : Refusal) → o.result ≡ Err r → mem (number_of r) ns ≡ true

    refused_among : (r : Refusal) → mem (number_of r) ns ≡ true → Among (refused leads work text r)
    unfolding Among refused
    refused_among r h s e = let same : r ≡ s = cc in rw (← same) h

    written_among : Among (written v leads work text a)
    unfolding Among written
    written_among r e = absurd cc

    module _ (sizes : all (is_among ns) (size_tests v c row) ≡ true) (entries : all (is_among ns) (entry_tests v c row) ≡ true) (buffer : mem 13 ns ≡ true) where
      list_among : all (is_among ns) First ≡ true
      list_among =
          all_append (is_among ns) (size_tests v c row) (leads_too_short v (length leads) ∷ work_too_short (length work) ∷ entry_tests v c row) sizes
          (all_append (is_among ns) (leads_too_short v (length leads) ∷ work_too_short (length work) ∷ []) (entry_tests v c row)
          (none_among ns (leads_too_short v (length leads) ∷ work_too_short (length work) ∷ [])
          (le-ltb (length leads) v (omega (arith, length-replicate {A = ℕ} 1024 0)), (le-ltb (length work) max_work (omega (arith, length-replicate {A = ℕ} max_work 0)), tt))) entries)

      last_among : Fits v (clauses_of row) → all (is_among ns) Last ≡ true
      unfolding is_among
      last_among fit =
          all_append (is_among ns) (sheet_buffer_too_short text ∷ []) (too_many_rounds v a ∷ []) one
          (none_among ns (too_many_rounds v a ∷ []) (le-ltb (v + 1) a.rounds (never_too_many v row (v + 1) leads work fit), tt))
        where
          one : all (is_among ns) (sheet_buffer_too_short text ∷ []) ≡ true
          one = have_all (is_among ns) (sheet_buffer_too_short text ∷ []) (λ t i. ap (is_among ns) (Memᴰ.eq_of_singleton i) ∙ or_left _ buffer)

      writing_among : Among (writing v c row (v + 1) leads work text)
      unfolding writing writing_tests
      writing_among =
          rw (decide_append (refused leads work text) (written v leads work text a) First Last)
          (decide_among (refused leads work text) _ Among ns refused_among First list_among (λ n.
          decide_among (refused leads work text) (written v leads work text a) Among ns refused_among Last
          (last_among (none_holds_fits v c row (length leads) (length work) n)) (λ m. written_among)))

  -- a sheet is written: it is the list's, and the list is finished
  module _ (n : ℕ) (h : (writing v c row (v + 1) leads work text).result ≡ Ok n) where
    none_holds : NoneHolds (writing_tests v c row (v + 1) leads work text)
    unfolding writing refused
    none_holds =
        decide_none_holds (refused leads work text) (written v leads work text a) (λ (o : Outcome). o.result ≡ Ok n)
        (λ r e. cc) (writing_tests v c row (v + 1) leads work text) h

    none_listed : NoneHolds First
    unfolding writing_tests
    none_listed = (none_holds_append First Last none_holds).0

    fits : Fits v (clauses_of row)
    fits = none_holds_fits v c row (length leads) (length work) none_listed

    is_written : writing v c row (v + 1) leads work text ≡ written v leads work text a
    unfolding writing
    is_written = decide_accepted (refused leads work text) (written v leads work text a) (writing_tests v c row (v + 1) leads work text) none_holds

    writing_finished : (take n (writing v c row (v + 1) leads work text).text ≡ sheet_text v a) × (a.verdict ≢ Unfinished)
    unfolding written
    writing_finished =
        let same : Ok (length (sheet_text v a)) ≡ Ok n = sym (ap (λ (o : Outcome). o.result) is_written) ∙ h in
        let long : length (sheet_text v a) ≡ n = cc in
        (rw (is_written, ← long) (take-append_seam (sheet_text v a) (drop (length (sheet_text v a)) text)), never_unfinished v row (v + 1) leads work fits (omega arith))

    -- closing accepts the list, and answers so
    closes : (closing v c row (v + 1) leads work).result ≡ Ok (summary a)
    unfolding accepted
    closes =
        ap (λ (o : Closing.Outcome). o.result)
        (closing_parts v c row (v + 1) leads work
        ∙ decide_accepted (Closing.refused leads work) _ First none_listed
        ∙ rounds_accepted v row (v + 1) leads work fits)

    answers : Answers v c row (v + 1) leads work a
    answers =
        let t = accepted_answers v c row (v + 1) leads work (summary a) closes in
        subst (Answers v c row (v + 1) leads work) (answers_is v c row (v + 1) leads work t.0 t.1) t.1

    -- every assignment that satisfies the clauses gives each net its lead's value, and there is none where there is a contradiction
    writing_true : ((value : ℕ → Bool) → Assignment value → Satisfies value (clauses_of row) → (i : ℕ) → i < v → value (2 * suc i) ≡ value (get_or a.leads i 0))
        × (a.verdict ≡ Contradiction → (value : ℕ → Bool) → Assignment value → ¬ Satisfies value (clauses_of row))
    writing_true = (closing_true v c row (v + 1) leads work a answers, closing_contradiction v c row (v + 1) leads work a answers)

-- what reading can give, and too short a buffer
abbrev pub compare_numbers : List ℕ
compare_numbers = reading_numbers ++ (13 ∷ [])

abbrev pub compare_aiger_numbers : List ℕ
compare_aiger_numbers = AigerRefusals.reading_numbers ++ (13 ∷ [])

-- The program for DIMACS text never answers 4, 8, 9 or 14.
pub comparing_refusals : (input text : List ℕ) (r : Refusal) → (comparing input text).result ≡ Err r → mem (number_of r) compare_numbers ≡ true
unfolding comparing sheet_of Among all any mem is_among
comparing_refusals input text r = go (reading input empty_row).result refl
  where
    go : (x : Result ListSize Refusal) → (reading input empty_row).result ≡ x → (sheet_of x (reading input empty_row).row text).result ≡ Err r → mem (number_of r) compare_numbers ≡ true
    go (Err q) e h =
        let same : q ≡ r = cc in
        in_mem compare_numbers (Memᴰ.append_left (13 ∷ []) (mem_in (number_of r) reading_numbers (rw same at (reading_refusals input empty_row (rw (length-replicate {A = ℤ} 32763 (pos 0)) (omega arith)) q e))))
    go (Ok s) e h =
        writing_among s.nets s.clauses (take s.entries (reading input empty_row).row) text (read_within empty_row input s e).1 compare_numbers refl refl refl r h

-- That for AIGER text never answers 4, 6 to 12 or 14.
pub comparing_aiger_refusals : (input text : List ℕ) (r : Refusal) → (comparing_aiger input text).result ≡ Err r → mem (number_of r) compare_aiger_numbers ≡ true
unfolding comparing_aiger sheet_of Among any mem
comparing_aiger_refusals input text r = go (Aiger.reading input empty_aiger_row).result refl
  where
    go : (x : Result ListSize Refusal) → (Aiger.reading input empty_aiger_row).result ≡ x → (sheet_of x (Aiger.reading input empty_aiger_row).row text).result ≡ Err r
        → mem (number_of r) compare_aiger_numbers ≡ true
    go (Err q) e h =
        let same : q ≡ r = cc in
        in_mem compare_aiger_numbers (Memᴰ.append_left (13 ∷ []) (mem_in (number_of r) AigerRefusals.reading_numbers (rw same at (AigerRefusals.reading_refusals_room input empty_aiger_row (rw (length-replicate {A = ℤ} 109222 (pos 0)) (omega arith)) q e))))
    go (Ok s) e h =
        let row = take s.entries (Aiger.reading input empty_aiger_row).row in
        let none = none_holds_append (size_tests s.nets s.clauses row) (entry_tests s.nets s.clauses row) (AigerAnswers.read_tests input empty_aiger_row s e) in
        writing_among s.nets s.clauses row text (AigerAnswers.read_within empty_aiger_row input s e).1 compare_aiger_numbers
        (none_among compare_aiger_numbers (size_tests s.nets s.clauses row) none.0) (none_among compare_aiger_numbers (entry_tests s.nets s.clauses row) none.1) refl r h

-- A sheet that is written is that of the text's list under round limit V + 1, which is never unfinished.
pub comparing_finished : (input text : List ℕ) (n : ℕ) → (comparing input text).result ≡ Ok n
    → (s : ListSize) × ((reading input empty_row).result ≡ Ok s)
    × let a = answer s.nets (clauses_of (take s.entries (reading input empty_row).row)) (s.nets + 1) in
    (take n (comparing input text).text ≡ sheet_text s.nets a) × (a.verdict ≢ Unfinished)
unfolding comparing sheet_of
comparing_finished input text n = go (reading input empty_row).result refl
  where
    go : (x : Result ListSize Refusal) → (reading input empty_row).result ≡ x → (sheet_of x (reading input empty_row).row text).result ≡ Ok n
        → (s : ListSize) × (x ≡ Ok s)
        × let a = answer s.nets (clauses_of (take s.entries (reading input empty_row).row)) (s.nets + 1) in
        (take n (sheet_of x (reading input empty_row).row text).text ≡ sheet_text s.nets a) × (a.verdict ≢ Unfinished)
    go (Err q) e h = absurd cc
    go (Ok s) e h =
        (s, refl, writing_finished s.nets s.clauses (take s.entries (reading input empty_row).row) text (read_within empty_row input s e).1 n h)

-- The sheet of an AIGER text, which is a well-formed file, is that of its circuit.
pub comparing-aiger : (input text : List ℕ) (n : ℕ) → (comparing_aiger input text).result ≡ Ok n
    → WellFormed input × CircuitSheet (circuit_of input) (take n (comparing_aiger input text).text)
unfolding comparing_aiger sheet_of
comparing-aiger input text n = go (Aiger.reading input empty_aiger_row).result refl
  where
    k : Circuit
    k = circuit_of input

    go : (x : Result ListSize Refusal) → (Aiger.reading input empty_aiger_row).result ≡ x → (sheet_of x (Aiger.reading input empty_aiger_row).row text).result ≡ Ok n
        → WellFormed input × CircuitSheet k (take n (sheet_of x (Aiger.reading input empty_aiger_row).row text).text)
    go (Err q) e h = absurd cc
    go (Ok s) e h =
        let read = AigerAnswers.read_accepted input empty_aiger_row s e in
        let few = (AigerAnswers.read_within empty_aiger_row input s e).1 in
        let row = take s.entries (Aiger.reading input empty_aiger_row).row in
        let done = writing_finished s.nets s.clauses row text few n h in
        let truth = writing_true s.nets s.clauses row text few n h in
        let runs = AigerAnswers.read_true input empty_aiger_row s e in (
          AigerAnswers.accepted_well_formed input empty_aiger_row s e,
          record {
            answer_is = answer s.nets (clauses_of row) (s.nets + 1);
            of_clauses = rw (read.0, read.2);
            sheet_is = rw (← read.0) done.0;
            finished = done.1;
            true_leads = λ value asg run i l. truth.0 value asg ((runs value asg).1 run) i (rw read.0 l);
            none_runs = λ c value asg run. truth.1 c value asg ((runs value asg).1 run);
          },
        )
