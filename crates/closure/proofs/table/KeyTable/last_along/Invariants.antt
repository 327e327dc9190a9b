use Rattle.closure.specs.Table.{ChainFrom}
use Prim.Native.Nat.{ℕ}
use Rattle.closure.proofs.Tables.{Seeking}
use Rattle.closure.proofs.table.KeyTable.last_along.Given as goal

abbrev pub invariant-loop-k : goal.invariant-loop-k
invariant-loop-k g l = (bound : ℕ) (h : ChainFrom l.self.keys l.self.next l.key bound l.from) → Seeking h l.k

abbrev pub decreases-loop-k : goal.decreases-loop-k
decreases-loop-k g l = l.k
