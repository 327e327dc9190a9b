use mathlib.Core.Path.{◌≡◌}
use Prim.Native.Nat.{◌+◌, ◌-◌, ◌%◌, ◌<◌}
use lib.ListN.{length}
use Rattle.clauses.specs.Row.{clause_at}
use Rattle.gates.specs.Index.{sum, buckets}
use Rattle.gates.proofs.index.bucket_at.Given as goal

abbrev pub invariant-loop-b : goal.invariant-loop-b
invariant-loop-b l = (l.sum < buckets) × ((l.sum + sum (clause_at l.codes l.i)) % buckets ≡ sum (clause_at l.codes l.b) % buckets)

abbrev pub decreases-loop-b : goal.decreases-loop-b
decreases-loop-b l = length l.codes - l.i
