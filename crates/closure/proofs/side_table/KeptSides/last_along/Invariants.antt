use Prim.Native.Nat.{ℕ}
use Rattle.closure.specs.SideTable.{MatesFrom}
use Rattle.closure.proofs.SideTables.{LookedTo}
use Rattle.closure.proofs.side_table.KeptSides.last_along.Given as goal

abbrev pub invariant-loop-k : goal.invariant-loop-k
invariant-loop-k g l = (bound : ℕ) → MatesFrom l.codes l.self l.c l.l l.like bound l.from → LookedTo l.codes l.self l.c l.l l.like bound l.k

abbrev pub decreases-loop-k : goal.decreases-loop-k
decreases-loop-k g l = l.k
