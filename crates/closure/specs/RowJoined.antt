-- Every conclusion that the rules draw from the clauses and gates of a row is joined, place by place. Only inner contracts cite these.
-- Assumes nothing.
use Rattle.std.specs.Prelude.{◌≡◌, ◌≢◌, ◌⊎◌, true, List, ℕ, ◌*◌, ◌<◌, get_or}
use Rattle.clauses.specs.Code.{negate}
use Rattle.gates.specs.Found.{is_and, is_select_next, is_select_after}
use Rattle.clauses.specs.Row.{Starts, LiteralAt, around}
use Rattle.closure.specs.Making.{Kernel, JoinedBy}
use Rattle.closure.specs.Passing.{ClauseJoined, AndJoined}
use Rattle.closure.specs.Matching.{AndAt, Alike}
use Rattle.closure.specs.Xors.{XorAt, key_at, sum_at}
use Rattle.closure.specs.declared.tally.Tally.{Tally}

-- the clause at b is marked for a side at place p of its select: the output l and the literal t come behind it, in this order or the other
abbrev pub Turned : List ℕ → List ℕ → ℕ → ℕ → ℕ → ℕ → Type 0
Turned row marks b p l t =
    ((is_select_next (get_or marks p 0) ≡ true) × (get_or row (around b p) 0 ≡ negate l) × (get_or row (around b (around b p)) 0 ≡ t))
    ⊎ ((is_select_after (get_or marks p 0) ≡ true) × (get_or row (around b (around b p)) 0 ≡ negate l) × (get_or row (around b p) 0 ≡ t))

-- the side with output l, select c and literal t is marked at a place of the row
pub record SideAt (row marks : List ℕ) (l c t : ℕ) : Type 0 where
  pub start : ℕ
  pub place : ℕ
  pub at : LiteralAt row start place
  pub select : get_or row place 0 ≡ negate c
  pub marked : Turned row marks start place l t

-- both sides of an ITE are
pub record IteAt (row marks : List ℕ) (l c t e : ℕ) : Type 0 where
  pub then_side : SideAt row marks l c t
  pub else_side : SideAt row marks l (negate c) e
  pub not_inverses : e ≢ negate t

-- rules 5 and 6: a sum of at most one net is joined to it, and two sums of the same nets are joined
pub record XorsJoined (row marks old new : List ℕ) (t : Tally) : Type 0 where
  pub alone : (b p : ℕ) → XorAt row marks b p → key_at old row b p < 65536 → JoinedBy new t (sum_at old row b p) (2 * key_at old row b p)
  pub sums : (b p d q : ℕ) → XorAt row marks b p → XorAt row marks d q → key_at old row b p ≡ key_at old row d q
      → JoinedBy new t (sum_at old row b p) (sum_at old row d q)

-- rules 7 and 8
pub record ItesJoined (row marks old new : List ℕ) (t : Tally) : Type 0 where
  pub selects : (l c u : ℕ) → SideAt row marks l c u → Kernel old c 1 → JoinedBy new t l u
  pub thens : (l c u e : ℕ) → IteAt row marks l c u e → Kernel old u e → JoinedBy new t l u
  pub outputs : (l c u e m d v f : ℕ) → IteAt row marks l c u e → IteAt row marks m d v f → Kernel old c d → Kernel old u v → Kernel old e f → JoinedBy new t l m

-- rules 1 and 2, 3, 4, 5 and 6, 7 and 8
pub record RowJoined (row marks old new : List ℕ) (t : Tally) : Type 0 where
  pub clauses : (b : ℕ) → Starts row b → ClauseJoined row marks old new t b
  pub ands : (b p : ℕ) → LiteralAt row b p → is_and (get_or marks p 0) ≡ true → AndJoined row old new t b p
  pub and_pairs : (p q : ℕ) → AndAt row marks p → AndAt row marks q → Alike row old p q → JoinedBy new t (get_or row p 0) (get_or row q 0)
  pub xors : XorsJoined row marks old new t
  pub ites : ItesJoined row marks old new t
