-- The places that are marked in a row of codes.
-- Assumes nothing.
use mathlib.Core.Path.{◌≡◌}
use mathlib.Core.Logic.{◌≢◌, ◌↔◌}
use mathlib.Core.Bool.{false, not}
use mathlib.Core.List.{List}
use Prim.Native.Nat.{ℕ, ◌+◌, ◌-◌, ◌≤◌, ◌<◌}
use native.Mathlib.Omega.{arith}
use lib.Dec.{eqb}
use lib.ListN.{length, get_or, take, drop}
use borrow.Author.Tests.{eq-eqb, ne_eqb}
use Rattle.clauses.specs.Bytes.{front}
use Rattle.clauses.specs.Clause.{Present, clauses_in}
use Rattle.clauses.specs.Row.{clause_at, Starts, LiteralAt, Spans}
use Rattle.clauses.proofs.Lists.{eqb_not}
use Rattle.clauses.proofs.Distinct.{Distinct}
use Rattle.clauses.proofs.Clauses.{same_refl}
use Rattle.clauses.proofs.Rows.{literal_some, clause_ended, clause_fits, clause_distinct as once_distinct, starts_listed}
use Rattle.clauses.proofs.StartOf.{start_only}
use Rattle.gates.specs.Normal.{Normal}
use Rattle.gates.specs.Mark.{marks_and, marks_xor, and_at, xor_at}
use Rattle.gates.proofs.Normalising.{front_part}

-- a clause as a part of the row
module _ {row : List ℕ} {b end : ℕ} (spans : Spans row b end) where
  pub part_clause : take (end - b) (drop b row) ≡ clause_at row b
  unfolding clause_at
  part_clause =
      let e : end - b ≡ length (front (λ x. not (eqb x 0)) (drop b row)) = omega (arith, spans.is) in
      rw e (front_part (λ x. not (eqb x 0)) (drop b row))

  pub end_inside : end ≤ length row
  end_inside = omega (arith, spans.is, clause_fits row b spans.inside)

module _ (row : List ℕ) where
  pub literal_inside : (b p : ℕ) → LiteralAt row b p → p < length row
  literal_inside b p l = omega (arith, l.high, clause_fits row b (omega (arith, l.start.inside)))

  pub and_literal : (b p : ℕ) → LiteralAt row b p → and_at row p ≡ marks_and row b p
  unfolding and_at
  and_literal b p l =
      rw (eqb_not (get_or row p 0) 0 (literal_some row b p l.low l.high), start_only row b p l.start l.low (omega (arith, l.high)) (literal_inside b p l))

  pub and_end : (p : ℕ) → get_or row p 0 ≡ 0 → and_at row p ≡ false
  unfolding and_at
  and_end p e = rw (eq-eqb (get_or row p 0) 0 e)

  pub xor_literal : (p : ℕ) → get_or row p 0 ≢ 0 → xor_at row p ≡ false
  unfolding xor_at
  xor_literal p n = rw (ne_eqb (get_or row p 0) 0 n)

  pub xor_end : (b : ℕ) → Starts row b → b + length (clause_at row b) < length row → xor_at row (b + length (clause_at row b)) ≡ marks_xor row b
  unfolding xor_at
  xor_end b s h =
      rw (eq-eqb (get_or row (b + length (clause_at row b)) 0) 0 (clause_ended row b), start_only row b (b + length (clause_at row b)) s (omega arith) (omega arith) h)

-- The clauses of a row in normal form

module _ {row : List ℕ} (normal : Normal row) where
  pub clause_distinct : (b : ℕ) → Starts row b → Distinct (clause_at row b)
  clause_distinct b s = once_distinct row b s (normal.once b)

  pub clause_present : {cs : List (List ℕ)} → ((c : List ℕ) → Present cs c ↔ Present (clauses_in row) c) → (b : ℕ) → Starts row b → Present cs (clause_at row b)
  clause_present same b s =
      let m = starts_listed row b s in
      (same (clause_at row b)).1 (record { found = clause_at row b; listed = m; proper = normal.proper (clause_at row b) m; same = same_refl (clause_at row b) })
