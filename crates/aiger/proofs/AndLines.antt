-- The AND lines, read one by one.
-- Assumes nothing.
use mathlib.Core.Path.{◌≡◌, refl, sym, ◌∙◌, ap}
use mathlib.Core.Bool.{true, false}
use mathlib.Core.List.{List, [], ◌∷◌, ◌++◌, append_assoc, append-nil}
use Rattle.std.specs.Prelude.{Some, None, Result, Ok, Err, is_ok}
use Prim.Native.Nat.{ℕ, suc, ◌+◌, ◌-◌, ◌*◌, ◌≤◌, ◌<◌}
use native.Mathlib.Omega.{arith}
use borrow.Table.Steps.{cases}
use lib.IntN.{ℤ}
use lib.ListN.{length, length-append}
use Rattle.clauses.specs.Lists.{keep, each}
use Rattle.clauses.specs.Tally.{start, tally_of}
use Rattle.clauses.specs.declared.refusal.Refusal.{Refusal}
use Rattle.clauses.specs.declared.refusal.Refusal.TheVariants.{AigerLine, AndOutput}
use Rattle.clauses.specs.declared.tally.EntryTally.{EntryTally}
use Rattle.clauses.proofs.Tallies.{tally_zeros}
use Rattle.aiger.specs.declared.ands.And.{And}
use Rattle.aiger.specs.declared.ands.AndLine.{AndLine}
use Rattle.aiger.specs.Circuit.{and_clauses, simplified, literal_row}
use Rattle.aiger.specs.Line.{is_new, and_at, Lines, said, faulty, prepend, and_lines, bad_output}
use Rattle.aiger.specs.declared.clause.MadeEntries.{MadeEntries}
use Rattle.aiger.specs.Scanning.{made, and_entries, Put, Ready, AndTaken, or_set, ands_result, AndsRead}
use Rattle.aiger.proofs.CircuitLines.{AndRead, and_read}
use Rattle.aiger.proofs.Entries.{and_entries_cons, and_few}
use Rattle.aiger.proofs.Stores.{put_none, put_then, put_start}

-- What a test of an answer tells

pub ok_is : (x : Result (Unit {0}) Refusal) → is_ok x ≡ true → x ≡ Ok tt
ok_is (Ok u) e = refl
ok_is (Err r) e = absurd cc

pub err_is : (x : Result (Unit {0}) Refusal) → is_ok x ≡ false → (r : Refusal) × (x ≡ Err r)
err_is (Ok u) e = absurd cc
err_is (Err r) e = (r, refl)

-- What the lines that are left come to

-- .. behind an output that is not new: a faulty line goes first
unfoldable after_set : ℕ → Lines (List And) → Result (List ℤ) Refusal
after_set p (faulty q) = Err (AigerLine q)
after_set p (said gs q) = Err (AndOutput p)

set_prepend : (p : ℕ) (g : And) (ls : Lines (List And)) → after_set p (prepend g ls) ≡ after_set p ls
unfolding after_set prepend
set_prepend p g (faulty q) = refl
set_prepend p g (said gs q) = refl

module _ (before : List ℕ) (g : And) (gs : List And) where
  bad_first : is_new before g.output ≡ false → bad_output before (g ∷ gs) ≡ Some g.place
  unfolding bad_output
  bad_first old = rw old

  bad_later : is_new before g.output ≡ true → bad_output before (g ∷ gs) ≡ bad_output (before ++ (g.output ∷ [])) gs
  unfolding bad_output
  bad_later new = rw new

module _ (before : List ℕ) (es : List ℤ) (g : And) (ls : Lines (List And)) where
  result_not_new : is_new before g.output ≡ false → ands_result before es (prepend g ls) ≡ after_set g.place ls
  unfolding ands_result or_set after_set prepend
  result_not_new old = go ls
    where
      go : (ls : Lines (List And)) → ands_result before es (prepend g ls) ≡ after_set g.place ls
      go (faulty q) = refl
      go (said gs q) = rw (bad_first before g gs old)

  result_new : is_new before g.output ≡ true → ands_result before es (prepend g ls) ≡ ands_result (before ++ (g.output ∷ [])) (es ++ made (and_clauses g)) ls
  unfolding ands_result prepend
  result_new new = go ls
    where
      more : (gs : List And) → es ++ and_entries (g ∷ gs) ≡ (es ++ made (and_clauses g)) ++ and_entries gs
      more gs = rw (and_entries_cons g gs) (sym (append_assoc es (made (and_clauses g)) (and_entries gs)))

      go : (ls : Lines (List And)) → ands_result before es (prepend g ls) ≡ ands_result (before ++ (g.output ∷ [])) (es ++ made (and_clauses g)) ls
      go (faulty q) = refl
      go (said gs q) = rw (bad_later before g gs new, more gs)

-- a tally counts the entries
pub tally_length : (m : ℕ) (es : List ℤ) → (tally_of m es).entries ≡ length es
unfolding tally_of
tally_length m es = refl

-- the entries of no line
entries_none : and_entries [] ≡ []
unfolding made literal_row simplified each keep
entries_none = refl

module _ (m : ℕ) (text : List ℕ) (count from : ℕ) (inputs : List ℕ) (none-made : MadeEntries) where
  abbrev Whole : Result (List ℤ) Refusal
  Whole = ands_result inputs [] (and_lines m text count from)

  -- as long as all outputs were new
  pub record MadeAt (listed : List ℕ) (e : MadeEntries) (at i : ℕ) : Type 0 where
    es : List ℤ
    put : Put none-made es e
    few : length es ≤ 10 * i
    pub far : 2 * length listed ≤ at
    rest : Whole ≡ ands_result listed es (and_lines m text (count - i) at)

  -- .. and once one was not
  pub record StoppedAt (r : Refusal) (at i : ℕ) : Type 0 where
    place : ℕ
    refusal_is : r ≡ AndOutput place
    rest : Whole ≡ after_set place (and_lines m text (count - i) at)

  -- i AND lines are read, and those from place at on decide
  pub record Scanned (outputs : Result (Unit {0}) Refusal) (listed : List ℕ) (e : MadeEntries) (at i : ℕ) : Type 0 where
    pub within : at ≤ length text
    pub making : outputs ≡ Ok tt → MadeAt listed e at i
    stopped : (r : Refusal) → outputs ≡ Err r → StoppedAt r at i

  pub scan_starts : 2 * length inputs ≤ from → from ≤ length text → Scanned (Ok tt) inputs none-made from 0
  scan_starts h k =
      let z : count - 0 ≡ count = omega arith in
      record {
        within = k;
        making = λ e. record { es = []; put = put_none none-made; few = omega arith; far = h; rest = rw z };
        stopped = λ r e. absurd cc;
      }

  module _ (outputs : Result (Unit {0}) Refusal) (listed : List ℕ) (e : MadeEntries) (at i : ℕ) (s : Scanned outputs listed e at i) where
    abbrev left : Lines (List And)
    left = and_lines m text (count - i) at

    pub scan_ends : count ≤ i → AndsRead Whole none-made outputs e
    unfolding after_set ands_result or_set and_lines bad_output
    scan_ends h = go outputs refl
      where
        none_left : and_lines m text (count - i) at ≡ said [] at
        none_left = let z : count - i ≡ 0 = omega arith in rw (z, and_lines)

        go : (x : Result (Unit {0}) Refusal) → outputs ≡ x → AndsRead Whole none-made outputs e
        go (Err r) q =
            let k = s.stopped r q in
            let w : Whole ≡ Err (AndOutput k.place) = k.rest ∙ rw none_left in
            rw (w, ← k.refusal_is) q
        go (Ok u) q =
            let k = s.making q in
            let w : Whole ≡ Ok k.es = k.rest ∙ rw (none_left, entries_none, append-nil) in
            rw w (q, k.put)

    module _ (h : i < count) where
      one_less : count - i ≡ suc (count - (i + 1))
      one_less = omega arith

      pub scan_breaks : and_at m text at ≡ None → AndsRead Whole none-made (Err (AigerLine at)) e
      unfolding after_set ands_result and_lines
      scan_breaks n = rw (go outputs refl) refl
        where
          here : and_lines m text (count - i) at ≡ faulty at
          here = rw (one_less, and_lines, n)

          go : (x : Result (Unit {0}) Refusal) → outputs ≡ x → Whole ≡ Err (AigerLine at)
          go (Err r) q = (s.stopped r q).rest ∙ rw here
          go (Ok u) q = (s.making q).rest ∙ rw here

      module _ (g : AndLine) (n : and_at m text at ≡ Some g) where
        read : AndRead m text at g
        read = and_read m text at g n

        abbrev Next : Lines (List And)
        Next = and_lines m text (count - (i + 1)) g.next

        line : and_lines m text (count - i) at ≡ prepend g.gate Next
        unfolding and_lines
        line = rw (one_less, and_lines, n)

        -- the next line, once an output was not new
        pub scan_goes_on : is_ok outputs ≡ false → Scanned outputs listed e g.next (i + 1)
        scan_goes_on b =
            let r = (err_is outputs b).0 in
            let q = (err_is outputs b).1 in
            let k = s.stopped r q in
            record {
              within = read.within;
              making = λ d. absurd cc;
              stopped = λ v d. let same : r ≡ v = cc in
                  record { place = k.place; refusal_is = sym same ∙ k.refusal_is; rest = k.rest ∙ rw line (set_prepend k.place g.gate Next) };
            }

        -- .. and as long as all were
        module _ (b : is_ok outputs ≡ true) where
          u : MadeAt listed e at i
          u = s.making (ok_is outputs b)

          -- what taking the line asks
          pub scan_ready : count < 4294967296 → none-made.tally ≡ start → Ready g.gate e.tally
          scan_ready k z =
              let t = (put_start u.put z).0 in
              let size : e.tally.entries ≡ length u.es = ap (λ (w : EntryTally). w.entries) t ∙ tally_length none-made.nets u.es in
              record {
                output_small = read.output_small;
                left_small = read.left_small;
                right_small = read.right_small;
                room = record { zeros_few = rw t (tally_zeros none-made.nets u.es); entries_few = omega (arith, size, u.few) };
              }

          pub scan_room : 2 * length listed + 6 ≤ length text
          scan_room = omega (arith, read.further, read.within, u.far)

          module _ (outputs' : Result (Unit {0}) Refusal) (listed' : List ℕ) (e' : MadeEntries) (a : AndTaken g.gate listed e outputs' listed' e') where
            made_next : is_new listed g.gate.output ≡ true → Scanned outputs' listed' e' g.next (i + 1)
            made_next new =
                let is = (a.new new).0 in
                let k = (a.new new).1 in
                record {
                  within = read.within;
                  making = λ d.
                      record {
                        es = u.es ++ made (and_clauses g.gate);
                        put = put_then u.put k.put;
                        few = omega (arith, u.few, length-append u.es (made (and_clauses g.gate)), and_few g.gate);
                        far = rw k.listed_are (omega (arith, u.far, read.further, length-append listed (g.gate.output ∷ [])));
                        rest = u.rest ∙ rw (line, k.listed_are) (result_new listed u.es g.gate Next new);
                      };
                  stopped = λ r d. absurd cc;
                }

            set_next : is_new listed g.gate.output ≡ false → Scanned outputs' listed' e' g.next (i + 1)
            set_next old =
                let is = a.not_new old in
                record {
                  within = read.within;
                  making = λ d. absurd cc;
                  stopped = λ r d. let same : AndOutput g.gate.place ≡ r = cc in
                      record { place = g.gate.place; refusal_is = sym same; rest = u.rest ∙ rw line (result_not_new listed u.es g.gate Next old) };
                }

            pub scan_steps : Scanned outputs' listed' e' g.next (i + 1)
            scan_steps = cases (is_new listed g.gate.output) made_next set_next
