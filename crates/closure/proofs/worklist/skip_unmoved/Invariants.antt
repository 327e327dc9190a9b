use Rattle.std.proofs.Common.{◌-◌, length}
use Rattle.closure.specs.Worklist.{has_moved}
use Rattle.closure.proofs.Searches.{Passed}
use Rattle.closure.proofs.worklist.skip_unmoved.Given as goal

abbrev pub invariant-loop-w : goal.invariant-loop-w
invariant-loop-w l = Passed (has_moved l.older l.old) l.from (length l.old) l.w

abbrev pub decreases-loop-w : goal.decreases-loop-w
decreases-loop-w l = length l.old - l.w
