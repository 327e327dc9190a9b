use mathlib.Core.List.{List}
use Prim.Native.Nat.{ℕ}
use Rattle.closure.specs.Holding.{Blank}
use Rattle.closure.specs.Marked.{Ready}
use Rattle.closure.specs.Matching.{AndAt}
use Rattle.closure.specs.KeptAnds.{AndTable}
use Rattle.closure.proofs.Tables.{counted}
use Rattle.closure.proofs.AndTables.{Walked}
use Rattle.closure.proofs.and_pairs.join_alike.Given as goal

abbrev pub invariant-loop-at : goal.invariant-loop-at
invariant-loop-at g l = ((marks : List ℕ) → Ready l.codes marks l.old l.initial.new l.initial.t → AndTable l.codes marks l.ands → AndAt l.codes marks l.p
    → Walked l.codes marks l.old l.ands l.key l.p l.initial.new l.initial.t l.new l.t l.known l.at) × Blank l.held

abbrev pub decreases-loop-at : goal.decreases-loop-at
decreases-loop-at g l = counted l.at
