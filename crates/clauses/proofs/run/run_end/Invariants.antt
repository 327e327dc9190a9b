use Rattle.std.proofs.Common.{Bool, ◌+◌, ◌-◌, ◌≡◌, drop, length}
use Rattle.clauses.specs.Bytes.{front}
use Rattle.clauses.specs.Scanning.{Computes}
use Rattle.clauses.proofs.run.run_end.Given as goal

abbrev pub invariant-loop-i : goal.invariant-loop-i
invariant-loop-i g l = (p : _ → Bool) → Computes (goal.F-post g l.test) p → l.at + length (front p (drop l.at l.items)) ≡ l.i + length (front p (drop l.i l.items))

abbrev pub decreases-loop-i : goal.decreases-loop-i
decreases-loop-i g l = length l.items - l.i
