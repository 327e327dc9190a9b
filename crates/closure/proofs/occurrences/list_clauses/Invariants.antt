use Rattle.std.proofs.Common.{◌-◌, ◌<◌, length}
use Rattle.clauses.specs.Row.{Starts}
use Rattle.closure.specs.Occurrences.{PlacesListed}
use Rattle.closure.proofs.occurrences.list_clauses.Given as goal

abbrev pub invariant-loop-b : goal.invariant-loop-b
invariant-loop-b l = (l.b < length l.codes → Starts l.codes l.b) × PlacesListed l.codes l.marks l.starts l.reads l.b

abbrev pub decreases-loop-b : goal.decreases-loop-b
decreases-loop-b l = length l.codes - l.b
