-- The lines of an AIGER text: 'Lines hold document 01's unsigned numbers, one space between, and end in LF'.
-- Assumes nothing.
use Rattle.std.specs.Prelude.{Option, Some, None, Bool, cond, not, ◌&&◌, List, [], ◌∷◌, ◌++◌, ℕ, zero, suc, ◌+◌, ◌*◌, ◌%◌, eqb, leb, length, get_or, drop}
use Rattle.clauses.specs.Bytes.{space, lf, is_digit, front}
use Rattle.clauses.specs.Listing.{mem}
use Rattle.clauses.specs.Number.{unsigned}
use Rattle.clauses.specs.Reading.{after, then}
use Rattle.aiger.specs.declared.ands.And.{And}
use Rattle.aiger.specs.declared.ands.AndLine.{AndLine}
use Rattle.aiger.specs.declared.header.Header.{Header}
use Rattle.aiger.specs.declared.line.Field.{Field}
use Rattle.aiger.specs.Circuit.{Circuit}

-- the digits at place p as a number, if the byte `end` follows them: a space, or LF behind a line's last number
unfoldable pub field_at : ℕ → List ℕ → ℕ → Option Field
field_at end text p =
    then (unsigned (front is_digit (drop p text))) (λ n.
    cond (eqb (get_or text (p + length (front is_digit (drop p text))) 0) end)
    (Some (record { value = n; next = p + length (front is_digit (drop p text)) + 1 })) None)

-- The header

-- 'aag M I L O A', the text's first line: the numbers, the places of L and O, and the place of the second line
unfoldable pub header_of : List ℕ → Option Header
header_of text =
    then (after (97 ∷ 97 ∷ 103 ∷ space ∷ []) text) (λ rest.
    then (field_at space text 4) (λ m.
    then (field_at space text m.next) (λ i.
    then (field_at space text i.next) (λ l.
    then (field_at space text l.next) (λ o.
    then (field_at lf text o.next) (λ a.
    Some (record {
      nets = m.value;
      inputs = i.value;
      latches = l.value;
      outputs = o.value;
      ands = a.value;
      latches_at = i.next;
      outputs_at = l.next;
      lines = a.next;
    })))))))

-- The lines behind it

-- a number that is a literal of a circuit with M nets: not 'over 2M + 1'
unfoldable pub literal_at : ℕ → ℕ → List ℕ → ℕ → Option Field
literal_at m end text p = then (field_at end text p) (λ f. cond (leb f.value (2 * m + 1)) (Some f) None)

-- a literal that is not 'odd, 0' or one of those before it
unfoldable pub is_new : List ℕ → ℕ → Bool
is_new before x = eqb (x % 2) 0 && (not (eqb x 0) && not (mem x before))

-- an input line, behind those of the inputs before it: not 'odd, 0 or listed before'
unfoldable pub input_at : ℕ → List ℕ → List ℕ → ℕ → Option Field
input_at m before text p = then (literal_at m lf text p) (λ f. cond (is_new before f.value) (Some f) None)

-- an AND line `l a b`
unfoldable pub and_at : ℕ → List ℕ → ℕ → Option AndLine
and_at m text p =
    then (literal_at m space text p) (λ l.
    then (literal_at m space text l.next) (λ a.
    then (literal_at m lf text a.next) (λ b.
    Some (record { gate = record { place = p; output = l.value; left = a.value; right = b.value }; next = b.next }))))

-- what lines say, and the place behind them; or the start of the first that is missing, malformed or not as it should be. Where a line is missing
-- that is the text's length.
pub data Lines (A : Type 0) : Type 0 where
  said : A → ℕ → Lines A
  faulty : ℕ → Lines A

-- n input lines from place p on, behind those of the inputs before
unfoldable pub input_lines : ℕ → List ℕ → ℕ → List ℕ → ℕ → Lines (List ℕ)
input_lines m text zero before p = said before p
input_lines m text (suc n) before p =
    elim (input_at m before text p) [ None ↦ faulty p | Some f ↦ input_lines m text n (before ++ (f.value ∷ [])) f.next ]

unfoldable pub prepend : {A : Type 0} → A → Lines (List A) → Lines (List A)
prepend x (said xs q) = said (x ∷ xs) q
prepend x (faulty q) = faulty q

-- n AND lines from place p on
unfoldable pub and_lines : ℕ → List ℕ → ℕ → ℕ → Lines (List And)
and_lines m text zero p = said [] p
and_lines m text (suc n) p = elim (and_at m text p) [ None ↦ faulty p | Some g ↦ prepend g.gate (and_lines m text n g.next) ]

-- the AND lines, behind the input lines and the output line
unfoldable pub circuit_from : ℕ → List ℕ → ℕ → Lines (List And) → Lines Circuit
circuit_from m is o (said gs q) = said (record { nets = m; inputs = is; output = o; ands = gs }) q
circuit_from m is o (faulty q) = faulty q

-- the output line and the AND lines, behind the input lines
unfoldable pub output_lines : Header → List ℕ → Lines (List ℕ) → Lines Circuit
output_lines h text (faulty q) = faulty q
output_lines h text (said is p) =
    elim (literal_at h.nets lf text p) [ None ↦ faulty p | Some o ↦ circuit_from h.nets is o.value (and_lines h.nets text h.ands o.next) ]

-- all lines behind the header; 'what follows the AND lines is skipped'
unfoldable pub circuit_lines : Header → List ℕ → Lines Circuit
circuit_lines h text = output_lines h text (input_lines h.nets text h.inputs [] h.lines)

-- the first AND line whose output is 'odd, 0, an input or set before'; before it stand the inputs and the outputs of the lines in front
unfoldable pub bad_output : List ℕ → List And → Option ℕ
bad_output before [] = None
bad_output before (g ∷ gs) = cond (is_new before g.output) (bad_output (before ++ (g.output ∷ [])) gs) (Some g.place)
