-- What reading comes to, by what the functions say of the lines.
-- Assumes nothing.
use mathlib.Core.Path.{◌≡◌, refl, sym, ◌∙◌, ap, subst⁻¹}
use mathlib.Core.Logic.{◌≢◌}
use mathlib.Core.Bool.{true, false}
use mathlib.Core.List.{List, [], ◌∷◌, ◌++◌}
use Rattle.std.specs.Prelude.{Option, Some, None, Result, Ok, Err}
use Prim.Native.Nat.{ℕ, ◌+◌, ◌*◌, ◌≤◌, ◌<◌}
use native.Mathlib.Omega.{arith}
use borrow.Author.Tests.{eq-eqb, ne_eqb, lt-ltb, le-ltb}
use lib.IntN.{ℤ}
use lib.ListN.{length}
use lib.Seq.{sets}
use Rattle.clauses.specs.Bytes.{space, lf}
use Rattle.clauses.specs.Limit.{max_text}
use Rattle.clauses.specs.Reading.{Outcome, refused, accepted}
use Rattle.clauses.specs.Refusal.{decide, zeros}
use Rattle.clauses.specs.Scanning.{Keeps, read_numbers}
use Rattle.clauses.specs.Tally.{start, tally_of}
use Rattle.clauses.specs.declared.refusal.Refusal.{Refusal}
use Rattle.clauses.specs.declared.refusal.Refusal.TheVariants.{TextTooLong, AigerHeader, LatchesOrOutputs, AigerLine, AndOutput}
use Rattle.clauses.specs.declared.tally.EntryTally.{EntryTally}
use Rattle.clauses.proofs.Scans.{sets_keep}
use Rattle.clauses.proofs.Tallies.{tally_zeros}
use Rattle.aiger.specs.declared.header.Header.{Header}
use Rattle.aiger.specs.declared.line.Field.{Field}
use Rattle.aiger.specs.declared.ands.And.{And}
use Rattle.aiger.specs.Circuit.{Circuit, circuit_clauses}
use Rattle.clauses.specs.Reading.{after}
use Rattle.aiger.specs.Line.{field_at, header_of, literal_at, Lines, said, faulty, input_lines, and_lines, circuit_from, output_lines, circuit_lines, bad_output}
use Rattle.aiger.specs.Reading.{place_test, header_bad, is_placed, placed, is_header_bad, bad_count, faulty_at, the_header, the_circuit, sizes_of, entries_of, circuit_tests, line_tests, lines_of, reading_tests, circuit_of, reading}
use Rattle.aiger.specs.declared.clause.MadeEntries.{MadeEntries}
use Rattle.aiger.specs.Scanning.{clause_entries, and_entries, Room, Put, or_set, ands_result, AndsRead, read_lines}
use Rattle.aiger.proofs.AndLines.{tally_length}
use Rattle.aiger.proofs.CircuitLines.{and_lines_few}
use Rattle.aiger.proofs.Entries.{made_zeros, circuit_made, circuit_entries, and_entries_few, circuit_few}
use Rattle.std.proofs.lemmas.Option.{option_and_then_some}
use Rattle.aiger.proofs.Fields.{field_read}
use Rattle.aiger.proofs.Stores.{put_then, put_start}

-- What reading comes to

module _ (row : List ℤ) where
  pub lines_faulty : (ls : Lines Circuit) (p : ℕ) → ls ≡ faulty p → refused row (AigerLine p) ≡ read_lines row ls
  unfolding read_lines line_tests faulty_at is_placed placed decide
  lines_faulty ls p e = rw e

  module _ (k : Circuit) (q : ℕ) where
    lines_set : (p : ℕ) → bad_output k.inputs k.ands ≡ Some p → refused row (AndOutput p) ≡ read_lines row (said k q)
    unfolding read_lines line_tests circuit_tests faulty_at the_circuit is_placed placed decide
    lines_set p e = rw e

    lines_made : bad_output k.inputs k.ands ≡ None → read_numbers row (sizes_of k) (entries_of k) ≡ read_lines row (said k q)
    unfolding read_lines read_numbers line_tests circuit_tests faulty_at the_circuit is_placed placed decide
    lines_made e = rw e

-- What the scan of AND lines tells of them

module _ (m : ℕ) (before : List ℕ) where
  pub record MadeOf (ls : Lines (List And)) (es : List ℤ) : Type 0 where
    pub gates : List And
    pub end : ℕ
    pub lines_are : ls ≡ said gates end
    pub none_set : bad_output before gates ≡ None
    pub entries_are : es ≡ and_entries gates

  told_made : (ls : Lines (List And)) (es : List ℤ) → ands_result before [] ls ≡ Ok es → MadeOf ls es
  unfolding ands_result or_set
  told_made (faulty p) es e = absurd cc
  told_made (said gs q) es e = go (bad_output before gs) refl
    where
      go : (o : Option ℕ) → bad_output before gs ≡ o → MadeOf (said gs q) es
      go None b =
          let k = rw b at e in
          let same : and_entries gs ≡ es = cc in
          record { gates = gs; end = q; lines_are = refl; none_set = b; entries_are = sym same }
      go (Some p) b = let k = rw b at e in absurd cc

  -- a line is faulty, or an output is not new
  told_stopped : (row : List ℤ) (output : ℕ) (ls : Lines (List And)) (r : Refusal) → ands_result before [] ls ≡ Err r
      → refused row r ≡ read_lines row (circuit_from m before output ls)
  unfolding ands_result or_set circuit_from
  told_stopped row output (faulty p) r e = let same : AigerLine p ≡ r = cc in rw (← same) (lines_faulty row (faulty p) p refl)
  told_stopped row output (said gs q) r e = go (bad_output before gs) refl
    where
      circuit : Circuit
      circuit = record { nets = m; inputs = before; output = output; ands = gs }

      go : (o : Option ℕ) → bad_output before gs ≡ o → refused row r ≡ read_lines row (said circuit q)
      go None b = let k = rw b at e in absurd cc
      go (Some p) b =
          let k = rw b at e in
          let same : AndOutput p ≡ r = cc in
          rw (← same) (lines_set row circuit q p b)

-- The AND lines, behind the input lines and the output line

module _ (row : List ℤ) (m : ℕ) (before : List ℕ) (output : ℕ) (ls : Lines (List And)) (none-made e : MadeEntries) (scan : Result (Unit {0}) Refusal)
    (a : AndsRead (ands_result before [] ls) none-made scan e) where
  abbrev Circuits : Lines Circuit
  Circuits = circuit_from m before output ls

  pub ands_stopped : (r : Refusal) → scan ≡ Err r → refused row r ≡ read_lines row Circuits
  ands_stopped r q = go (ands_result before [] ls) refl
    where
      go : (x : Result (List ℤ) Refusal) → ands_result before [] ls ≡ x → refused row r ≡ read_lines row Circuits
      go (Err p) w = let k = rw w at a in let same : p ≡ r = cc in told_stopped m before row output ls r (w ∙ ap Err same)
      go (Ok es) w = let k = (rw w at a).0 in absurd cc

  module _ (text : List ℕ) (count from : ℕ) (lines_are : ls ≡ and_lines m text count from) (inside : from ≤ length text) (short : length text ≤ max_text)
      (z : none-made.tally ≡ start) (v : none-made.nets ≡ m) (q : scan ≡ Ok tt) where
    -- the entries that the AND lines make
    record Told : Type 0 where
      es : List ℤ
      of_lines : MadeOf m before ls es
      put : Put none-made es e

    told : Told
    told = go (ands_result before [] ls) refl
      where
        go : (x : Result (List ℤ) Refusal) → ands_result before [] ls ≡ x → Told
        go (Err p) w = let k = rw w at a in absurd cc
        go (Ok es) w = record { es = es; of_lines = told_made m before ls es w; put = (rw w at a).1 }

    abbrev gates : List And
    gates = told.of_lines.gates

    gates_few : from + 6 * length gates ≤ length text
    gates_few = (and_lines_few m text count from gates told.of_lines.end (sym lines_are ∙ told.of_lines.lines_are) inside).1

    -- there is room for the output's clause
    pub made_room : Room e.tally 2
    made_room =
        let t = (put_start told.put z).0 in
        let size : e.tally.entries ≡ length told.es = ap (λ (w : EntryTally). w.entries) t ∙ tally_length none-made.nets told.es in
        record {
          zeros_few = rw t (tally_zeros none-made.nets told.es);
          entries_few = omega (arith, size, ap length told.of_lines.entries_are, and_entries_few gates, gates_few);
        }

    module _ (f : MadeEntries) (s : Put e (clause_entries (output ∷ [])) f) where
      circuit : Circuit
      circuit = record { nets = m; inputs = before; output = output; ands = gates }

      all : (f.tally ≡ tally_of m (entries_of circuit)) × (f.row ≡ sets none-made.row 0 (entries_of circuit))
      unfolding circuit
      all =
          let p = put_start (put_then told.put s) z in
          let same : told.es ++ clause_entries (output ∷ []) ≡ entries_of circuit = ap (λ (l : List ℤ). l ++ clause_entries (output ∷ [])) told.of_lines.entries_are ∙ sym (circuit_entries circuit) in
          (p.0 ∙ ap (λ (w : ℕ). tally_of w (told.es ++ clause_entries (output ∷ []))) v ∙ ap (tally_of m) same, p.1 ∙ ap (sets none-made.row 0) same)

      zeros_are : f.tally.zeros ≡ length (circuit_clauses circuit)
      unfolding tally_of circuit_clauses
      zeros_are = ap (λ (w : EntryTally). w.zeros) all.0 ∙ ap zeros (circuit_made circuit) ∙ made_zeros _

      pub made_clauses_few : f.tally.zeros < 4294967296
      unfolding circuit
      made_clauses_few =
          let zeros_few : f.tally.zeros ≤ f.tally.entries = rw all.0 (tally_zeros m (entries_of circuit)) in
          omega (arith, zeros_few, ap (λ (w : EntryTally). w.entries) all.0, tally_length m (entries_of circuit), circuit_few circuit, gates_few)

      -- tests 4 to 7 and 10 to 12 decide
      pub ands_made : (o : Outcome) → ((numbers : List ℤ) → Keeps f.row numbers → f.tally ≡ tally_of m numbers → o ≡ read_numbers row (record { nets = m; clauses = f.tally.zeros }) numbers)
          → o ≡ read_lines row Circuits
      unfolding circuit_from sizes_of circuit
      ands_made o h =
          h (entries_of circuit) (rw all.1 (sets_keep none-made.row (entries_of circuit))) all.0
          ∙ ap (λ (c : ℕ). read_numbers row (record { nets = m; clauses = c }) (entries_of circuit)) zeros_are
          ∙ lines_made row circuit told.of_lines.end told.of_lines.none_set
          ∙ ap (λ (l : Lines (List And)). read_lines row (circuit_from m before output l)) (sym told.of_lines.lines_are)

-- The lines behind the header

module _ (row : List ℤ) (h : Header) (text : List ℕ) where
  abbrev inputs : Lines (List ℕ)
  inputs = input_lines h.nets text h.inputs [] h.lines

  pub inputs_faulty : (p : ℕ) → inputs ≡ faulty p → refused row (AigerLine p) ≡ read_lines row (circuit_lines h text)
  unfolding circuit_lines output_lines
  inputs_faulty p e = lines_faulty row (circuit_lines h text) p (rw e)

  module _ (is : List ℕ) (at : ℕ) (e : inputs ≡ said is at) where
    pub output_faulty : literal_at h.nets lf text at ≡ None → refused row (AigerLine at) ≡ read_lines row (circuit_lines h text)
    unfolding circuit_lines output_lines
    output_faulty n = lines_faulty row (circuit_lines h text) at (rw (e, output_lines, n))

    pub output_there : (x : Field) → literal_at h.nets lf text at ≡ Some x
        → read_lines row (circuit_from h.nets is x.value (and_lines h.nets text h.ands x.next)) ≡ read_lines row (circuit_lines h text)
    unfolding circuit_lines output_lines
    output_there x n = rw (e, output_lines, n)

-- The whole text

-- the second line of a text with a header starts within it
pub header_within : (text : List ℕ) (h : Header) → header_of text ≡ Some h → h.lines ≤ length text
unfolding header_of the_header
header_within text h e =
    option_and_then_some _ (after (97 ∷ 97 ∷ 103 ∷ space ∷ []) text) h e (λ r q0 e0.
    option_and_then_some _ (field_at space text 4) h e0 (λ m q1 e1.
    option_and_then_some _ (field_at space text m.next) h e1 (λ i q2 e2.
    option_and_then_some _ (field_at space text i.next) h e2 (λ l q3 e3.
    option_and_then_some _ (field_at space text l.next) h e3 (λ o q4 e4.
    option_and_then_some _ (field_at lf text o.next) h e4 (λ a q5 e5.
    let same : a.next ≡ h.lines = ap {B = ℕ} (λ (x : Option Header). (the_header x).lines) e5 in
    omega (arith, same, (field_read lf text o.next (omega arith) a q5).within)))))))

module _ (text : List ℕ) (row : List ℤ) where
  pub text_long : max_text < length text → refused row TextTooLong ≡ reading text row
  unfolding reading reading_tests decide
  text_long h = rw (lt-ltb _ _ h)

  module _ (short : length text ≤ max_text) where
    pub header_missing : header_of text ≡ None → refused row AigerHeader ≡ reading text row
    unfolding reading reading_tests is_header_bad decide
    header_missing e = rw (le-ltb _ _ short, e)

    module _ (h : Header) (e : header_of text ≡ Some h) where
      pub header-bad : is_header_bad (Some h) ≡ true → refused row AigerHeader ≡ reading text row
      unfolding reading reading_tests decide
      header-bad b = rw (le-ltb _ _ short, e, b)

      module _ (fine : is_header_bad (Some h) ≡ false) where
        pub latches_there : h.latches ≢ 0 → refused row (LatchesOrOutputs h.latches_at) ≡ reading text row
        unfolding reading reading_tests bad_count the_header is_placed placed decide
        latches_there n = rw (le-ltb _ _ short, e, fine, ne_eqb _ _ n)

        module _ (none-there : h.latches ≡ 0) where
          pub outputs_wrong : h.outputs ≢ 1 → refused row (LatchesOrOutputs h.outputs_at) ≡ reading text row
          unfolding reading reading_tests bad_count the_header is_placed placed decide
          outputs_wrong n = rw (le-ltb _ _ short, e, fine, eq-eqb _ _ none-there, ne_eqb _ _ n)

          lines_from : h.outputs ≡ 1 → (o : Option Header) → o ≡ Some h
              → read_lines row (circuit_lines h text)
              ≡ decide (refused row)
              (accepted row (sizes_of (the_circuit (circuit_lines (the_header o) text))) (entries_of (the_circuit (circuit_lines (the_header o) text))))
              (header_bad o ∷ place_test LatchesOrOutputs (bad_count (the_header o)) ∷ line_tests row (circuit_lines (the_header o) text))
          unfolding bad_count the_header read_lines is_placed placed decide
          lines_from u o k =
              subst⁻¹
              (λ (o : Option Header). read_lines row (circuit_lines h text)
              ≡ decide (refused row)
              (accepted row (sizes_of (the_circuit (circuit_lines (the_header o) text))) (entries_of (the_circuit (circuit_lines (the_header o) text))))
              (header_bad o ∷ place_test LatchesOrOutputs (bad_count (the_header o)) ∷ line_tests row (circuit_lines (the_header o) text)))
              k (rw (fine, eq-eqb _ _ none-there, eq-eqb _ _ u))

          pub lines_decide : h.outputs ≡ 1 → read_lines row (circuit_lines h text) ≡ reading text row
          unfolding reading reading_tests circuit_of lines_of decide
          lines_decide o = rw (le-ltb _ _ short) (lines_from o (header_of text) e)
