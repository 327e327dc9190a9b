use Prim.Native.Nat.{◌+◌, ◌*◌, ◌≤◌}
use lib.ListN.{drop}
use Rattle.closure.specs.Marked.{Went}
use Rattle.closure.specs.Entered.{Keeps}
use Rattle.closure.specs.Worklist.{span_of}
use Rattle.closure.specs.SideTable.{SideTable, SidesKnown}
use Rattle.closure.proofs.ite_mates.by_sides.Given as goal

abbrev pub invariant-loop-b : goal.invariant-loop-b
invariant-loop-b g l = Went l.codes l.marks l.old l.initial.new l.initial.t l.new l.t × SideTable l.codes l.marks l.old l.sides
    × SidesKnown l.codes l.marks l.old l.new l.t l.list l.b-index l.sides.table
    × (2 * l.sides.table.count + 3 * span_of l.codes (drop l.b-index l.list) ≤ 2 * l.initial.sides.table.count + 3 * span_of l.codes l.list) × Keeps l.initial.sides.table l.sides.table
