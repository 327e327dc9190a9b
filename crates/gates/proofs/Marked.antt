-- The marks, when all are written, say which gates there are.
-- Assumes nothing.
use mathlib.Core.Path.{◌≡◌, refl, sym, ◌∙◌, ap}
use mathlib.Core.Logic.{◌↔◌}
use mathlib.Core.Bool.{Bool, true, false, cond}
use mathlib.Core.List.{List}
use Prim.Native.Nat.{ℕ, ◌+◌, ◌<◌}
use native.Mathlib.Omega.{arith}
use lib.ListN.{length, get_or}
use borrow.Author.Tests.{ne_eqb, lt-leb}
use Rattle.clauses.specs.Clause.{Present, clauses_in}
use Rattle.clauses.specs.Row.{clause_at, Starts, LiteralAt}
use Rattle.clauses.proofs.Rows.{literal_some, clause_ended}
use Rattle.gates.specs.Counted.{AreCounts}
use Rattle.gates.specs.Found.{is_and, is_xor, is_pair, Found}
use Rattle.gates.specs.Normal.{Normal}
use Rattle.gates.specs.Mark.{is_candidate, marks_xor, and_at, xor_at, marks_pair, Marking, Pairing}
use Rattle.gates.specs.Ites.{all_halves, Sided, pairs_of}
use Rattle.gates.proofs.Firsts.{first_of}
use Rattle.gates.proofs.Marks.{literal_inside, xor_end, clause_present}
use Rattle.gates.proofs.AndMarks.{and_is, and_found}
use Rattle.gates.proofs.XorMarks.{xor_is, xor_found}
use Rattle.gates.proofs.IteMarks.{and_kept, end_kept, select_three, next_is, after_is, side_found, ites_many}
use Rattle.gates.proofs.Marking.{marks_small, marks-and, marks-xor, ands_marked, xors_marked}
use Rattle.gates.proofs.Pairs.{pair_literal, pair_end, pair_marks, pair_of}

-- a clause of two literals stands for no XOR
two_no_xor : (row : List ℕ) (b : ℕ) → length (clause_at row b) ≡ 2 → marks_xor row b ≡ false
unfolding marks_xor is_candidate
two_no_xor row b e = rw (lt-leb 3 (length (clause_at row b)) (omega arith))

-- the marks as they are written: those of ANDs and XORs, then those of the sides of ITEs, then those of pairs
module _ {row gates sides marks : List ℕ} {ands xors : ℕ} (normal : Normal row) (k : Marking row gates (length row) ands xors) (s : Sided row gates sides)
    (t : Pairing row sides marks (length row)) where
  literal_mark : (b p : ℕ) → LiteralAt row b p → get_or marks p 0 ≡ get_or sides p 0
  literal_mark b p at = t.written p (literal_inside row b p at) ∙ rw (pair_literal row p (literal_some row b p at.low at.high))

  end_mark : (b : ℕ) → Starts row b → get_or marks (b + length (clause_at row b)) 0 ≡ cond (marks_pair row b) 2 (get_or gates (b + length (clause_at row b)) 0)
  end_mark b h =
      t.written (b + length (clause_at row b)) (normal.ended b h)
      ∙ rw (pair_end row b h (normal.ended b h), end_kept (marks_small k) s (b + length (clause_at row b)) (clause_ended row b))

  and_marked : (b p : ℕ) → LiteralAt row b p → is_and (get_or marks p 0) ≡ and_at row p
  and_marked b p at = ap is_and (literal_mark b p at) ∙ and_kept (marks_small k) s p ∙ marks-and k b p at

  xor_marked : (b : ℕ) → Starts row b → is_xor (get_or marks (b + length (clause_at row b)) 0) ≡ xor_at row (b + length (clause_at row b))
  unfolding is_xor
  xor_marked b h = rw (end_mark b h) (go (marks_pair row b) refl)
    where
      go : (d : Bool) → marks_pair row b ≡ d → is_xor (cond d 2 (get_or gates (b + length (clause_at row b)) 0)) ≡ xor_at row (b + length (clause_at row b))
      go true e = sym (xor_end row b h (normal.ended b h) ∙ two_no_xor row b (pair_marks normal (λ c. (λ x. x, λ x. x)) b e).0)
      go false e = marks-xor k b (normal.ended b h)

  pair_marked : (b : ℕ) → Starts row b → is_pair (get_or marks (b + length (clause_at row b)) 0) ≡ marks_pair row b
  unfolding is_pair
  pair_marked b h = rw (end_mark b h) (go (marks_pair row b))
    where
      go : (d : Bool) → is_pair (cond d 2 (get_or gates (b + length (clause_at row b)) 0)) ≡ d
      go true = refl
      go false = ne_eqb (get_or gates (b + length (clause_at row b)) 0) 2 (λ e. never (marks_small k (b + length (clause_at row b))) e)
        where
          never : {m : ℕ} → m < 2 → m ≡ 2 → ⊥
          never l e = omega arith

  module _ {cs : List (List ℕ)} (same : (c : List ℕ) → Present cs c ↔ Present (clauses_in row) c) where
    pub gates_found : length gates ≡ length row → Found cs row marks
    gates_found size =
        record {
          size = t.size ∙ s.size ∙ size;
          ended = normal.ended;
          clause_is = clause_present normal same;
          literal_once = normal.once;
          clause_found = λ c h. let f = first_of row ((same c).0 h) in (f.place, f.start, f.same);
          pair_is = λ b h e. pair_marks normal same b (sym (pair_marked b h) ∙ e);
          pair_found = λ x y n h i. let f = pair_of normal same x y n h i in (f.place, f.start, pair_marked f.place f.start ∙ f.marked, f.same-set);
          and_is = and_is normal same marks and_marked;
          and_found = and_found normal same marks and_marked;
          xor_is = xor_is normal same marks xor_marked;
          xor_found = xor_found normal same marks xor_marked;
          select_three = λ b p at h. select_three normal same (marks_small k) s b p at (rw (literal_mark b p at) at h);
          next_is = λ b p at h. next_is normal same (marks_small k) s b p at (rw (literal_mark b p at) at h);
          after_is = λ b p at h. after_is normal same (marks_small k) s b p at (rw (literal_mark b p at) at h);
          side_found = λ l c u e g. let f = side_found normal same (marks_small k) s l c u e g in (f.0, f.1, f.2, f.3, rw (literal_mark f.0 f.1 f.2) f.4);
        }

    pub gates_counted : AreCounts cs ands xors (length (pairs_of row (all_halves row)))
    gates_counted = record { and-count = ands_marked k normal same; xor-count = xors_marked k normal same; ite-count = ites_many normal same }
