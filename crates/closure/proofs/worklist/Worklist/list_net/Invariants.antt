use Rattle.std.proofs.Common.{length}
use Rattle.clauses.proofs.Chains.{Walk}
use Rattle.closure.specs.Listing.{Listed}
use Rattle.closure.specs.Occurrences.{net_at}
use Rattle.closure.proofs.WorklistSteps.{Told}
use Rattle.closure.proofs.worklist.Worklist.list_net.Given as goal

abbrev pub invariant-loop-k : goal.invariant-loop-k
invariant-loop-k l = Listed l.occurrences.codes.now l.initial.self l.self
    × Walk (net_at l.occurrences.codes.now) (length l.occurrences.codes.now) l.w (Told l.occurrences.starts.now l.occurrences.reads.now l.constant l.self.seen.now) l.k

abbrev pub decreases-loop-k : goal.decreases-loop-k
decreases-loop-k l = l.k
