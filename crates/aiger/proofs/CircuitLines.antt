-- What the lines of a circuit are like once they are read.
-- Assumes nothing.
use mathlib.Core.Path.{◌≡◌, refl, sym}
use mathlib.Core.List.{List, [], ◌∷◌, Memᴰ}
use Rattle.std.specs.Prelude.{Option, Some, None}
use Prim.Native.Nat.{ℕ, zero, suc, ◌+◌, ◌*◌, ◌≤◌, ◌<◌}
use native.Mathlib.Omega.{arith}
use lib.ListN.{length}
use Rattle.clauses.specs.Bytes.{space, lf}
use Rattle.aiger.specs.declared.ands.And.{And}
use Rattle.aiger.specs.declared.header.Header.{Header}
use Rattle.aiger.specs.Circuit.{Circuit}
use Rattle.aiger.specs.declared.line.Field.{Field}
use Rattle.aiger.specs.declared.ands.AndLine.{AndLine}
use Rattle.aiger.specs.Line.{literal_at, and_at, Lines, said, faulty, input_lines, prepend, and_lines, circuit_from, output_lines, circuit_lines}
use Rattle.aiger.proofs.Entries.{AndWithin, LiteralsWithin}
use Rattle.std.proofs.lemmas.Option.{option_and_then_some}
use Rattle.aiger.proofs.Fields.{literal_read}

-- an AND line that was read: its literals have at most nine digits and are at most 2M + 1, and a place further on in the text lies behind it
pub record AndRead (m : ℕ) (text : List ℕ) (p : ℕ) (g : AndLine) : Type 0 where
  pub output_small : g.gate.output < 1000000000
  pub left_small : g.gate.left < 1000000000
  pub right_small : g.gate.right < 1000000000
  pub literals : AndWithin m g.gate
  pub further : p + 6 ≤ g.next
  pub within : g.next ≤ length text
  pub placed : g.gate.place ≡ p

module _ (m : ℕ) (text : List ℕ) where
  module _ (p : ℕ) (g : AndLine) where
    -- the AND line of three literals
    line_of : Field → Field → Field → AndLine
    line_of l a b = record { gate = record { place = p; output = l.value; left = a.value; right = b.value }; next = b.next }

    pub and_read : and_at m text p ≡ Some g → AndRead m text p g
    unfolding and_at line_of
    and_read e =
        option_and_then_some _ (literal_at m space text p) g e (λ l u v.
        option_and_then_some _ (literal_at m space text l.next) g v (λ a w x.
        option_and_then_some _ (literal_at m lf text a.next) g x (λ b y z.
        let same : line_of l a b ≡ g = cc in
        let first = literal_read space text p m (omega arith) l u in
        let second = literal_read space text l.next m (omega arith) a w in
        let third = literal_read lf text a.next m (omega arith) b y in
        rw (← same) (record {
          output_small = first.0.small;
          left_small = second.0.small;
          right_small = third.0.small;
          literals = record { output_within = first.1; left_within = second.1; right_within = third.1 };
          further = omega (arith, first.0.further, second.0.further, third.0.further);
          within = third.0.within;
          placed = refl;
        }))))

  -- AND lines that were read: as many as there should be, of six bytes or more each, with the literals of a circuit with M nets
  abbrev pub AndsListed : ℕ → ℕ → List And → Type 0
  AndsListed n p gs = (length gs ≡ n) × (p + 6 * length gs ≤ length text) × ((g : And) → Memᴰ g gs → AndWithin m g)

  pub and_lines_few : (n p : ℕ) (gs : List And) (q : ℕ) → and_lines m text n p ≡ said gs q → p ≤ length text → AndsListed n p gs
  unfolding and_lines prepend
  and_lines_few zero p gs q e h =
      let same : [] ≡ gs = cc in
      rw (← same) (refl, omega arith, λ g i. elim i [ ])
  and_lines_few (suc n) p gs q e h = first (and_lines_few n) (and_at m text p) refl e
    where
      Fewer : Type 0
      Fewer = (r : ℕ) (hs : List And) (s : ℕ) → and_lines m text n r ≡ said hs s → r ≤ length text → AndsListed n r hs

      behind : Fewer → (g : AndLine) → and_at m text p ≡ Some g → (ls : Lines (List And)) → and_lines m text n g.next ≡ ls → prepend g.gate ls ≡ said gs q
          → AndsListed (suc n) p gs
      behind fewer g u (faulty r) v e = absurd cc
      behind fewer g u (said hs r) v e =
          let same : g.gate ∷ hs ≡ gs = cc in
          let a = and_read p g u in
          let s = fewer g.next hs r v a.within in
          rw (← same)
          (omega (arith, s.0), omega (arith, a.further, s.1), λ f i. elim i [ Memᴰ.head k ↦ rw k a.literals | Memᴰ.tail k ↦ s.2 f k ])

      first : Fewer → (o : Option AndLine) → and_at m text p ≡ o → elim o [ None ↦ faulty p | Some g ↦ prepend g.gate (and_lines m text n g.next) ] ≡ said gs q
          → AndsListed (suc n) p gs
      first fewer None u e = absurd cc
      first fewer (Some g) u e = behind fewer g u (and_lines m text n g.next) refl e

-- a circuit whose lines were read: its literals are those of a circuit with M nets, it has A AND lines, and each has six bytes or more
abbrev pub CircuitRead : Header → List ℕ → Circuit → Type 0
CircuitRead h text k = LiteralsWithin k × (k.nets ≡ h.nets) × (length k.ands ≡ h.ands) × (6 * length k.ands ≤ length text)

module _ (h : Header) (text : List ℕ) (k : Circuit) (q : ℕ) where
  pub circuit_read : circuit_lines h text ≡ said k q → CircuitRead h text k
  unfolding circuit_lines output_lines circuit_from
  circuit_read = inputs (input_lines h.nets text h.inputs [] h.lines)
    where
      ands : (is : List ℕ) (p : ℕ) (o : Field) → literal_at h.nets lf text p ≡ Some o → (ls : Lines (List And)) → and_lines h.nets text h.ands o.next ≡ ls
          → circuit_from h.nets is o.value ls ≡ said k q → CircuitRead h text k
      ands is p o u (faulty r) v e = absurd cc
      ands is p o u (said gs r) v e =
          let nets : h.nets ≡ k.nets = cc in
          let output : o.value ≡ k.output = cc in
          let gates : gs ≡ k.ands = cc in
          let f = literal_read lf text p h.nets (omega arith) o u in
          let s = and_lines_few h.nets text h.ands o.next gs r v f.0.within in
          (record { output_within = omega (arith, f.1); ands_within = rw (← nets, ← gates) s.2 }, sym nets, rw (← gates) s.0, rw (← gates) (omega (arith, s.1)))

      output : (is : List ℕ) (p : ℕ) (o : Option Field) → literal_at h.nets lf text p ≡ o
          → elim o [ None ↦ faulty p | Some f ↦ circuit_from h.nets is f.value (and_lines h.nets text h.ands f.next) ] ≡ said k q → CircuitRead h text k
      output is p None u e = absurd cc
      output is p (Some o) u e = ands is p o u (and_lines h.nets text h.ands o.next) refl e

      inputs : (ls : Lines (List ℕ)) → output_lines h text ls ≡ said k q → CircuitRead h text k
      inputs (faulty r) e = absurd cc
      inputs (said is p) e = output is p (literal_at h.nets lf text p) refl e
