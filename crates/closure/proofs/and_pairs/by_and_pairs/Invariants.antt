use Prim.Native.Nat.{◌+◌, ◌≤◌}
use lib.ListN.{drop}
use Rattle.closure.specs.Holding.{Blank}
use Rattle.closure.specs.Marked.{Went}
use Rattle.closure.specs.Worklist.{span_of}
use Rattle.closure.specs.KeptAnds.{AndTable, AndsKnown}
use Rattle.closure.proofs.and_pairs.by_and_pairs.Given as goal

abbrev pub invariant-loop-b : goal.invariant-loop-b
invariant-loop-b g l = Went l.codes l.marks l.old l.initial.new l.initial.t l.new l.t × AndTable l.codes l.marks l.ands
    × AndsKnown l.codes l.marks l.old l.new l.t l.list l.b-index l.ands
    × (l.ands.count + span_of l.codes (drop l.b-index l.list) ≤ l.initial.ands.count + span_of l.codes l.list) × Blank l.held
