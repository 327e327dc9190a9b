use mathlib.Core.List.{List}
use Prim.Native.Nat.{ℕ}
use Rattle.closure.specs.Marked.{Ready, Went}
use Rattle.closure.specs.IteSides.{Hubs}
use Rattle.closure.specs.SideTable.{SideGroups}
use Rattle.closure.specs.IteGroups.{Holders}
use Rattle.closure.proofs.IteGroups.{GroupsTo}
use Rattle.closure.proofs.ite_groups.by_groups.Given as goal

abbrev pub invariant-loop-i : goal.invariant-loop-i
invariant-loop-i g l = (marks : List ℕ) → Ready l.codes marks l.old l.initial.new l.initial.t → SideGroups l.codes marks l.old l.sides → Hubs l.codes marks l.hubs
    → Went l.codes marks l.old l.initial.new l.initial.t l.new l.t × Holders l.codes marks l.old l.holders × GroupsTo l.codes marks l.old l.new l.t l.sides l.from l.i
