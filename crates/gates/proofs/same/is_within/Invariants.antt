use mathlib.Core.Path.{◌≡◌}
use Prim.Native.Nat.{◌+◌, ◌-◌, ◌≤◌}
use lib.ListN.{length}
use Rattle.clauses.specs.Listing.{within}
use Rattle.clauses.specs.Row.{clause_at}
use Rattle.gates.proofs.same.is_within.Given as goal

abbrev pub invariant-loop-a : goal.invariant-loop-a
invariant-loop-a l = (l.b ≤ l.next) × (l.next ≤ l.b + length (clause_at l.codes l.b)) × (within (clause_at l.codes l.a) (clause_at l.codes l.b) ≡ within (clause_at l.codes l.i) (clause_at l.codes l.b))

abbrev pub decreases-loop-a : goal.decreases-loop-a
decreases-loop-a l = length l.codes - l.i
