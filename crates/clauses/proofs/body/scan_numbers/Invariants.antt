use Prim.Native.Nat.{◌-◌}
use Rattle.clauses.proofs.Scans.{Scanned}
use lib.ListN.{length}
use Rattle.clauses.proofs.body.scan_numbers.Given as goal

abbrev pub invariant-loop-at : goal.invariant-loop-at
invariant-loop-at l = Scanned l.text l.v l.from l.initial.kept l.kept l.t l.at

abbrev pub decreases-loop-at : goal.decreases-loop-at
decreases-loop-at l = length l.text - l.at
