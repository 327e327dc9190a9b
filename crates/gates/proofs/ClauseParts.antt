-- What a clause of a row knows of its places, and a clause that an iterator gives.
-- Assumes nothing.
use mathlib.Core.Path.{◌≡◌, ◌∙◌, ap}
use Prim.Native.Nat.{ℕ, ◌+◌, ◌≤◌, ◌<◌}
use native.Mathlib.Omega.{arith}
use mathlib.Core.List.{List}
use lib.ListN.{length, get_or}
use Rattle.clauses.specs.Row.{clause_at, Starts, LiteralAt, Spans}
use Rattle.clauses.proofs.Rows.{clause-at}
use Rattle.std.proofs.Common.{Some}
use Rattle.gates.specs.declared.index.ClauseIndex.{ClauseIndex}
use Rattle.gates.specs.declared.clause.Clause.{Clause}
use Rattle.gates.specs.declared.clause.Clauses.{Clauses}
use Rattle.gates.specs.Clauses.{GivesClause}
use Rattle.gates.proofs.ClauseChains.{start_true}

module _ (c : Clause) where
  pub clause_starts : Starts c.list.codes.now c.start
  clause_starts = start_true _ _ c.inside c.starts

  pub clause_spans : Spans c.list.codes.now c.start c.end
  clause_spans = record { inside = omega (arith, c.inside); is = c.ends }

  -- the 0 that ends it is in the row
  pub clause_ends : c.end < length c.list.codes.now
  clause_ends = omega (arith, c.ends, c.list.normal.ended c.start clause_starts)

  pub clause_literal : (p : ℕ) → c.start ≤ p → p < c.end → LiteralAt c.list.codes.now c.start p
  clause_literal p l h = record { start = clause_starts; low = l; high = omega (arith, c.ends) }

-- The clause at place b of a row, which the iterator gave there; it stands at place n then
pub record Given (list : ClauseIndex) (clause : Clause) (b n : ℕ) : Type 0 where
  pub list_is : clause.list ≡ list
  pub start_is : clause.start ≡ b
  pub starts : Starts list.codes.now b
  pub ends : clause.end ≡ b + length (clause_at list.codes.now b)
  pub inside : b + length (clause_at list.codes.now b) < length list.codes.now
  pub next : n ≡ b + length (clause_at list.codes.now b) + 1

pub given : (list : ClauseIndex) (old new : Clauses) (clause : Clause) → old.list ≡ list → GivesClause old (Some clause) new → Given list clause old.start new.start
given list old new clause e g =
    let l : clause.list ≡ list = g.0 ∙ e in
    let ends : clause.end ≡ old.start + length (clause_at list.codes.now old.start) = rw (l, g.1) at clause.ends in
    record {
      list_is = l;
      start_is = g.1;
      starts = rw (l, g.1) at (clause_starts clause);
      ends = ends;
      inside = rw (← ends, ← l) (clause_ends clause);
      next = omega (arith, g.3, ends);
    }

-- its literals, as they stand in the row
module _ {list : ClauseIndex} {clause : Clause} {b n : ℕ} (g : Given list clause b n) {literals : List ℕ} (e : literals ≡ clause_at clause.list.codes.now clause.start) where
  pub literals_are : literals ≡ clause_at list.codes.now b
  literals_are = rw (g.list_is, g.start_is) at e

  pub literal_is : (k : ℕ) → k < length literals → get_or literals k 0 ≡ get_or list.codes.now (b + k) 0
  literal_is k h = ap (λ (c : List ℕ). get_or c k 0) literals_are ∙ clause-at list.codes.now b k (rw (← literals_are) h)
