use Rattle.std.proofs.Common.{◌-◌, ◌+◌, ◌≡◌, ℕ, List, length, map}
use Rattle.clauses.specs.Code.{code_of}
use Rattle.gates.specs.Normal.{gathered_of}
use Rattle.gates.proofs.Normalising.{Walking}
use Rattle.gates.proofs.normal.gather_clause.Given as goal

-- the literals walked, what the rows hold of them, and the place behind them
abbrev pub invariant-loop-walk : goal.invariant-loop-walk
invariant-loop-walk l =
    (w : List ℕ) × (
    record {
      lent : l.walk.row.now ≡ l.row;
      place : l.walk.at ≡ l.b + length w;
      same : l.gathered ≡ gathered_of l.b l.n w;
      keeps : Walking (map code_of l.row) l.b l.n (length l.initial.seen) l.stamp l.initial.codes w l.codes l.seen;
    })

abbrev pub decreases-loop-walk : goal.decreases-loop-walk
decreases-loop-walk l = length l.row - l.walk.at
