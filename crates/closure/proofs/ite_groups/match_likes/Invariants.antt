use mathlib.Core.List.{List}
use Prim.Native.Nat.{ℕ}
use Rattle.closure.specs.SideTable.{SideGroups}
use Rattle.closure.specs.IteGroups.{Matchable}
use Rattle.closure.proofs.Tables.{counted}
use Rattle.closure.proofs.IteGroups.{Grouping}
use Rattle.closure.proofs.ite_groups.match_likes.Given as goal

abbrev pub invariant-loop-at : goal.invariant-loop-at
invariant-loop-at g l = (marks : List ℕ) → Matchable l.codes marks l.hubs l.old l.initial.holders l.initial.new l.initial.t → SideGroups l.codes marks l.old l.sides
    → Grouping l.codes marks l.old l.sides l.last l.initial.holders l.initial.new l.initial.t l.holders l.new l.t l.at

abbrev pub decreases-loop-at : goal.decreases-loop-at
decreases-loop-at g l = counted l.at
