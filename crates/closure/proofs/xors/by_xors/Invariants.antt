use Prim.Native.Nat.{◌+◌, ◌≤◌}
use lib.ListN.{drop}
use Rattle.closure.specs.Marked.{Went}
use Rattle.closure.specs.Worklist.{span_of}
use Rattle.closure.specs.KeptXors.{XorTable, XorsKnown}
use Rattle.closure.proofs.xors.by_xors.Given as goal

abbrev pub invariant-loop-b : goal.invariant-loop-b
invariant-loop-b g l = Went l.codes l.marks l.old l.initial.new l.initial.t l.new l.t × XorTable l.codes l.marks l.old l.xors
    × XorsKnown l.codes l.marks l.old l.new l.t l.list l.b-index l.xors
    × (l.xors.count + span_of l.codes (drop l.b-index l.list) ≤ l.initial.xors.count + span_of l.codes l.list)
