use mathlib.Core.Path.{◌≡◌}
use Prim.Native.Nat.{◌-◌}
use lib.ListN.{length, drop}
use Rattle.clauses.specs.Listing.{within}
use Rattle.clauses.specs.Row.{clause_at}
use Rattle.gates.specs.Mask.{masked}
use Rattle.gates.proofs.ClauseChains.{Searching}
use Rattle.gates.proofs.index.ClauseIndex.find.Given as goal

abbrev pub invariant-literals : goal.invariant-literals
invariant-literals l =
    within (masked l.mask l.q) (clause_at l.self.codes.now l.here) ≡ within (masked l.m (drop l.x-index l.q)) (clause_at l.self.codes.now l.here)

abbrev pub invariant-clauses : goal.invariant-clauses
invariant-clauses l = Searching l.self.codes.now (masked l.mask l.q) l.b

abbrev pub decreases-clauses : goal.decreases-clauses
decreases-clauses l = length l.self.codes.now - l.b
