use Rattle.std.proofs.Common.{◌-◌, ◌≤◌, length}
use Rattle.closure.specs.Listing.{Listed}
use Rattle.closure.specs.Worklist.{SeesMovedBelow}
use Rattle.closure.proofs.worklist.Worklist.list_moved.Given as goal

abbrev pub invariant-loop-w : goal.invariant-loop-w
invariant-loop-w l = Listed l.occurrences.codes.now l.initial.self l.self × (l.from ≤ length l.old)
    × SeesMovedBelow l.occurrences.codes.now l.occurrences.starts.now l.occurrences.reads.now l.older l.old l.from l.self.seen.now

abbrev pub decreases-loop-w : goal.decreases-loop-w
decreases-loop-w l = length l.old - l.from
