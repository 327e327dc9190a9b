use mathlib.Core.Path.{◌≡◌}
use Prim.Native.Nat.{◌-◌}
use lib.ListN.{length}
use Rattle.clauses.specs.Listing.{mem}
use Rattle.clauses.specs.Row.{clause_at}
use Rattle.gates.proofs.search.holds.Given as goal

abbrev pub invariant-loop-b : goal.invariant-loop-b
invariant-loop-b l = mem l.x (clause_at l.codes l.b) ≡ mem l.x (clause_at l.codes l.i)

abbrev pub decreases-loop-b : goal.decreases-loop-b
decreases-loop-b l = length l.codes - l.i
