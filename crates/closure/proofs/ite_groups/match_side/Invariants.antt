use mathlib.Core.List.{List}
use Prim.Native.Nat.{ℕ}
use Rattle.closure.specs.IteSides.{IsSide}
use Rattle.closure.specs.IteGroups.{Matchable}
use Rattle.closure.proofs.IteGroups.{Mating}
use Rattle.closure.proofs.ite_groups.match_side.Given as goal

abbrev pub invariant-loop-j : goal.invariant-loop-j
invariant-loop-j g l = (marks : List ℕ) → Matchable l.codes marks l.hubs l.old l.initial.holders l.initial.new l.initial.t → IsSide l.codes marks l.k
    → Mating g.row.BUCKETS l.codes marks l.old l.k l.initial.holders l.initial.new l.initial.t l.b l.holders l.new l.t l.j

abbrev pub decreases-loop-j : goal.decreases-loop-j
decreases-loop-j g l = l.j
