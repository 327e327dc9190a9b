-- Which refusals reading can give: never 6, 7 or 10 to 12, since M is at least the number of AND lines, so that where it is not over 1,024 there are few
-- clauses; and never 4 where the row has room for the entries of any text.
-- Assumes nothing.
use mathlib.Core.Path.{◌≡◌, refl}
use mathlib.Core.Bool.{true, false}
use mathlib.Core.List.{List, [], ◌∷◌}
use Rattle.std.specs.Prelude.{Option, Some, None, Err}
use Prim.Native.Nat.{ℕ, ◌+◌, ◌*◌, ◌≤◌}
use native.Mathlib.Omega.{arith}
use borrow.Author.Tests.{ltb-true, ltb-false, le-ltb}
use borrow.Table.Steps.{cases}
use lib.Dec.{ltb}
use lib.IntN.{ℤ}
use lib.ListN.{length}
use Rattle.clauses.specs.Limit.{max_text, max_nets, max_clauses, max_entries}
use Rattle.clauses.specs.Lists.{any, all}
use Rattle.clauses.specs.Listing.{mem}
use Rattle.clauses.specs.Refusal.{number_of, Test, decide, text_too_long, row_too_short, too_many_nets, too_many_clauses, too_many_entries, entry_tests}
use Rattle.clauses.specs.Reading.{Outcome, refused, accepted, numbers_tests}
use Rattle.clauses.specs.declared.refusal.Refusal.{Refusal}
use Rattle.clauses.specs.declared.refusal.Refusal.TheVariants.{TextTooLong, TooManyNets, LatchesOrOutputs, AigerLine, AndOutput}
use Rattle.clauses.proofs.Deciding.{NoneHolds, is_among, decide_first, decide_accepted, decide_among}
use Rattle.clauses.proofs.Tests.{decide_append}
use Rattle.clauses.proofs.ReadingRefusals.{Among, refused_among, accepted_among}
use Rattle.aiger.specs.declared.header.Header.{Header}
use Rattle.aiger.specs.Circuit.{Circuit, circuit_clauses}
use Rattle.aiger.specs.Line.{header_of, Lines, said, faulty, circuit_lines, bad_output}
use Rattle.aiger.specs.Reading.{place_test, is_header_bad, header_bad, bad_count, faulty_at, the_header, the_circuit, sizes_of, entries_of, circuit_tests, line_tests, lines_of, reading_tests, circuit_of, reading}
use Rattle.aiger.proofs.Entries.{LiteralsWithin, circuit_few, clauses_few, circuit-tests}
use Rattle.aiger.proofs.CircuitLines.{circuit_read}
use Rattle.aiger.proofs.ReadingLines.{text_long}

-- what reading can give, but for the row's room
abbrev pub reading_numbers : List ℕ
reading_numbers = 1 ∷ 15 ∷ 16 ∷ 17 ∷ 18 ∷ 5 ∷ []

-- the circuit of any lines, also of those that are not as they should be
module _ (h : Header) (text : List ℕ) where
  lines_read : (ls : Lines Circuit) → circuit_lines h text ≡ ls → LiteralsWithin (the_circuit ls) × (6 * length (the_circuit ls).ands ≤ length text)
  unfolding the_circuit
  lines_read (said k q) e = let r = circuit_read h text k q e in (r.0, r.3)
  lines_read (faulty p) e = (record { output_within = omega arith; ands_within = λ g i. elim i [ ] }, omega arith)

  lines_few : h.ands ≤ h.nets → (ls : Lines Circuit) → circuit_lines h text ≡ ls → length (the_circuit ls).ands ≤ (the_circuit ls).nets
  unfolding the_circuit
  lines_few few (said k q) e = let r = circuit_read h text k q e in omega (arith, r.1, r.2)
  lines_few few (faulty p) e = omega arith

-- a header that test 15 passes has nets for all AND lines
header_few : (o : Option Header) → is_header_bad o ≡ false → (the_header o).ands ≤ (the_header o).nets
unfolding is_header_bad the_header
header_few None e = omega arith
header_few (Some h) e = omega (arith, ltb-false h.nets (h.inputs + h.latches + h.ands) e)

module _ (text : List ℕ) (row : List ℤ) where
  abbrev k : Circuit
  k = circuit_of text

  circuit-of : LiteralsWithin k × (6 * length k.ands ≤ length text)
  unfolding circuit_of lines_of
  circuit-of = lines_read _ text (lines_of text) refl

  -- the tests before the one of M, that one, and those behind it
  First : List Test
  First =
      text_too_long text ∷ header_bad (header_of text) ∷ place_test LatchesOrOutputs (bad_count (the_header (header_of text))) ∷ place_test AigerLine (faulty_at (lines_of text))
      ∷ place_test AndOutput (bad_output k.inputs k.ands) ∷ row_too_short (length row) (entries_of k) ∷ []

  Last : List Test
  Last = too_many_clauses (length (circuit_clauses k)) ∷ too_many_entries (entries_of k) ∷ entry_tests k.nets (length (circuit_clauses k)) (entries_of k)

  abbrev Accepted : Outcome
  Accepted = accepted row (sizes_of k) (entries_of k)

  parts : reading text row ≡ decide (refused row) (decide (refused row) Accepted (too_many_nets k.nets ∷ Last)) First
  unfolding reading reading_tests line_tests circuit_tests numbers_tests sizes_of circuit_of First Last
  parts = decide_append (refused row) Accepted First (too_many_nets k.nets ∷ Last)

  -- a circuit of at most 1,024 nets has as many AND lines at most
  last_fails : k.nets ≤ max_nets → length k.ands ≤ k.nets → NoneHolds Last
  unfolding Last
  last_fails m n =
      (le-ltb max_clauses (length (circuit_clauses k)) (omega (arith, clauses_few k)), (le-ltb max_entries (length (entries_of k)) (omega (arith, circuit_few k)), circuit-tests k circuit-of.0))

  module _ (ns : List ℕ) (nets : mem 5 ns ≡ true) (first : all (is_among ns) First ≡ true) where
    behind_nets : NoneHolds First → Among ns (decide (refused row) Accepted (too_many_nets k.nets ∷ Last))
    unfolding First lines_of circuit_of
    behind_nets n =
        cases (ltb max_nets k.nets)
        (λ t. rw (decide_first (refused row) Accepted (too_many_nets k.nets) Last t) (refused_among ns row TooManyNets nets))
        (λ t. rw
        (decide_accepted (refused row) Accepted (too_many_nets k.nets ∷ Last)
        (t, last_fails (ltb-false max_nets k.nets t) (lines_few _ text (header_few (header_of text) n.1.0) (lines_of text) refl)))
        (accepted_among ns row _ _))

    refusals_among : Among ns (reading text row)
    refusals_among = rw parts (decide_among (refused row) _ (Among ns) ns (refused_among ns row) First first behind_nets)

  -- with any row, and with one that has room for the entries of any text
  pub reading_refusals : (r : Refusal) → (reading text row).result ≡ Err r → mem (number_of r) (4 ∷ reading_numbers) ≡ true
  unfolding Among all any mem is_among First
  reading_refusals = refusals_among (4 ∷ reading_numbers) refl refl

  pub reading_refusals_room : 109222 ≤ length row → (r : Refusal) → (reading text row).result ≡ Err r → mem (number_of r) reading_numbers ≡ true
  unfolding Among all any mem is_among First
  reading_refusals_room room =
      cases (ltb max_text (length text)) (λ t. rw (← text_long text row (ltb-true max_text (length text) t)) (refused_among reading_numbers row TextTooLong refl))
      (λ t. let few = circuit-of.1 in
      let short = ltb-false max_text (length text) t in
      let room_for : length (entries_of k) ≤ length row = omega (arith, circuit_few k) in
      refusals_among reading_numbers refl (rw (le-ltb _ _ room_for)))
