-- The marks of ANDs and XORs as they are written from one place to the next, with the two counts.
-- Assumes nothing.
use mathlib.Core.Path.{◌≡◌, refl, sym, ◌∙◌, ap, subst⁻¹}
use mathlib.Core.Logic.{◌↔◌}
use mathlib.Core.Bool.{Bool, true, false, cond, ◌||◌}
use mathlib.Core.List.{List}
use Prim.Native.Nat.{ℕ, zero, suc, ◌+◌, ◌≤◌, ◌<◌}
use native.Mathlib.Omega.{arith}
use native.Mathlib.Decide.{ℕ_discrete, dec_lt}
use lib.ListN.{length, get_or, set}
use lib.Seq.{get_or-set_same, get_or-set_other}
use Rattle.clauses.specs.Clause.{Present, clauses_in}
use Rattle.clauses.specs.Row.{clause_at, Starts, LiteralAt}
use Rattle.clauses.proofs.Rows.{literal_some, clause_ended}
use Rattle.gates.specs.Counted.{IsAndCount, IsXorCount}
use Rattle.gates.specs.Found.{is_and, is_xor}
use Rattle.gates.specs.Normal.{Normal}
use Rattle.gates.specs.Mark.{is_candidate, gives_and, marks_and, gives_xor, marks_xor, and_at, xor_at, gate_mark, Marking}
use Rattle.gates.proofs.HowMany.{many_none, many_more, many_same}
use Rattle.gates.proofs.Marks.{literal_inside, and_literal, and_end, xor_literal, xor_end}
use Rattle.gates.proofs.AndMarks.{ands_many}
use Rattle.gates.proofs.XorMarks.{xors_many}

pub marking_none : (row marks : List ℕ) → ((q : ℕ) → get_or marks q 0 ≡ 0) → Marking row marks 0 0 0
marking_none row marks h =
    record { before = λ q l. absurd (omega arith); after = λ q l. h q; and-count = sym (many_none (and_at row)); xor-count = sym (many_none (xor_at row)) }

-- What the tests of the code say of a mark

module _ (row : List ℕ) (b : ℕ) where
  pub candidate_and : (p : ℕ) → is_candidate row b ≡ true → marks_and row b p ≡ gives_and (clauses_in row) (clause_at row b) (get_or row p 0)
  unfolding marks_and
  candidate_and p e = rw e

  pub candidate_xor : is_candidate row b ≡ true → marks_xor row b ≡ gives_xor (clauses_in row) (clause_at row b)
  unfolding marks_xor
  candidate_xor e = rw e

  other_and : (p : ℕ) → is_candidate row b ≡ false → marks_and row b p ≡ false
  unfolding marks_and
  other_and p e = rw e

  other_xor : is_candidate row b ≡ false → marks_xor row b ≡ false
  unfolding marks_xor
  other_xor e = rw e

-- One place more

module _ {row marks : List ℕ} {p ands xors : ℕ} (k : Marking row marks p ands xors) where
  -- the marks where place p has the mark m
  written : (m : ℕ) → p < length marks → m ≡ gate_mark row p → (q : ℕ) → q < p + 1 → get_or (set marks p m) q 0 ≡ gate_mark row q
  written m h e q l = go (ℕ_discrete q p)
    where
      go : Dec (q ≡ p) → get_or (set marks p m) q 0 ≡ gate_mark row q
      go (yes i) = rw i (get_or-set_same marks p m 0 h ∙ e)
      go (no n) = get_or-set_other marks p q m 0 n ∙ k.before q (omega arith)

  unwritten : (m q : ℕ) → p + 1 ≤ q → get_or (set marks p m) q 0 ≡ 0
  unwritten m q l = get_or-set_other marks p q m 0 (λ i. never i) ∙ k.after q (omega arith)
    where
      never : q ≡ p → ⊥
      never i = omega arith

  passed : gate_mark row p ≡ 0 → (q : ℕ) → q < p + 1 → get_or marks q 0 ≡ gate_mark row q
  passed e q l = go (ℕ_discrete q p)
    where
      go : Dec (q ≡ p) → get_or marks q 0 ≡ gate_mark row q
      go (yes i) = rw i (k.after p (omega arith) ∙ sym e)
      go (no n) = k.before q (omega arith)

  module _ {b : ℕ} (at : LiteralAt row b p) where
    no_xor : xor_at row p ≡ false
    no_xor = xor_literal row p (literal_some row b p at.low at.high)

    pub marking_and : p < length marks → marks_and row b p ≡ true → Marking row (set marks p 1) (p + 1) (ands + 1) xors
    unfolding gate_mark
    marking_and h e =
        let a : and_at row p ≡ true = and_literal row b p at ∙ e in
        record {
          before = written 1 h (rw a);
          after = unwritten 1;
          and-count = ap (λ (n : ℕ). n + 1) k.and-count ∙ sym (many_more (and_at row) p a);
          xor-count = k.xor-count ∙ sym (many_same (xor_at row) p no_xor);
        }

    pub marking_literal : marks_and row b p ≡ false → Marking row marks (p + 1) ands xors
    unfolding gate_mark
    marking_literal e =
        let a : and_at row p ≡ false = and_literal row b p at ∙ e in
        record {
          before = passed (rw (a, no_xor));
          after = λ q l. k.after q (omega arith);
          and-count = k.and-count ∙ sym (many_same (and_at row) p a);
          xor-count = k.xor-count ∙ sym (many_same (xor_at row) p no_xor);
        }

  module _ (b : ℕ) (s : Starts row b) (end : p ≡ b + length (clause_at row b)) (inside : p < length row) where
    no_and : and_at row p ≡ false
    no_and = and_end row p (rw end (clause_ended row b))

    is-xor : xor_at row p ≡ marks_xor row b
    is-xor = rw end (xor_end row b s (rw end at inside))

    pub marking_xor : p < length marks → marks_xor row b ≡ true → Marking row (set marks p 1) (p + 1) ands (xors + 1)
    unfolding gate_mark
    marking_xor h e =
        let x : xor_at row p ≡ true = is-xor ∙ e in
        record {
          before = written 1 h (rw (no_and, x));
          after = unwritten 1;
          and-count = k.and-count ∙ sym (many_same (and_at row) p no_and);
          xor-count = ap (λ (n : ℕ). n + 1) k.xor-count ∙ sym (many_more (xor_at row) p x);
        }

    pub marking_end : marks_xor row b ≡ false → Marking row marks (p + 1) ands xors
    unfolding gate_mark
    marking_end e =
        let x : xor_at row p ≡ false = is-xor ∙ e in
        record {
          before = passed (rw (no_and, x));
          after = λ q l. k.after q (omega arith);
          and-count = k.and-count ∙ sym (many_same (and_at row) p no_and);
          xor-count = k.xor-count ∙ sym (many_same (xor_at row) p x);
        }

-- A clause that has no mark

module _ {row marks : List ℕ} {b ands xors : ℕ} (s : Starts row b) (none : is_candidate row b ≡ false) (k : Marking row marks b ands xors) where
  marking_run : (i : ℕ) → i ≤ length (clause_at row b) → Marking row marks (b + i) ands xors
  marking_run zero h = let e : b + 0 ≡ b = omega arith in rw e k
  marking_run (suc i) h =
      let e : b + suc i ≡ b + i + 1 = omega arith in
      rw e (marking_literal (marking_run i (omega arith)) (record { start = s; low = omega arith; high = omega arith }) (other_and row b (b + i) none))

  pub marking_clause : b + length (clause_at row b) < length row → Marking row marks (b + length (clause_at row b) + 1) ands xors
  marking_clause inside = marking_end (marking_run (length (clause_at row b)) (omega arith)) b s refl inside (other_xor row b none)

-- All places

module _ {row marks : List ℕ} {ands xors : ℕ} (k : Marking row marks (length row) ands xors) where
  pub marks_small : (q : ℕ) → get_or marks q 0 < 2
  unfolding gate_mark
  marks_small q = go (dec_lt q (length row))
    where
      small : (t : Bool) → cond t 1 0 < 2
      small true = omega arith
      small false = omega arith

      go : Dec (q < length row) → get_or marks q 0 < 2
      go (yes h) = rw (k.before q h) (small (and_at row q || xor_at row q))
      go (no n) = rw (k.after q (omega arith)) (omega arith)

  pub marks-and : (b p : ℕ) → LiteralAt row b p → is_and (get_or marks p 0) ≡ and_at row p
  unfolding gate_mark is_and
  marks-and b p at =
      ap is_and (k.before p (literal_inside row b p at)) ∙ ap (λ (t : Bool). is_and (cond (and_at row p || t) 1 0)) (xor_literal row p (literal_some row b p at.low at.high))
      ∙ bit (and_at row p)
    where
      bit : (t : Bool) → is_and (cond (t || false) 1 0) ≡ t
      bit true = refl
      bit false = refl

  pub marks-xor : (b : ℕ) → b + length (clause_at row b) < length row → is_xor (get_or marks (b + length (clause_at row b)) 0) ≡ xor_at row (b + length (clause_at row b))
  unfolding gate_mark is_xor
  marks-xor b h =
      ap is_xor (k.before (b + length (clause_at row b)) h)
      ∙ ap (λ (t : Bool). is_xor (cond (t || xor_at row (b + length (clause_at row b))) 1 0)) (and_end row (b + length (clause_at row b)) (clause_ended row b))
      ∙ bit (xor_at row (b + length (clause_at row b)))
    where
      bit : (t : Bool) → is_xor (cond (false || t) 1 0) ≡ t
      bit true = refl
      bit false = refl

  module _ {cs : List (List ℕ)} (normal : Normal row) (same : (c : List ℕ) → Present cs c ↔ Present (clauses_in row) c) where
    pub ands_marked : IsAndCount cs ands
    ands_marked = subst⁻¹ (IsAndCount cs) k.and-count (ands_many normal same)

    pub xors_marked : IsXorCount cs xors
    xors_marked = subst⁻¹ (IsXorCount cs) k.xor-count (xors_many normal same)
