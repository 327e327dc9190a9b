use mathlib.Core.List.{List}
use Prim.Native.Nat.{ℕ, ◌+◌, ◌≤◌}
use Rattle.closure.specs.Holding.{Blank}
use Rattle.closure.specs.Marked.{Went}
use Rattle.closure.specs.KeptAnds.{AndTable, AndsKnown}
use Rattle.closure.proofs.AndTables.{ClauseTo}
use Rattle.closure.proofs.and_pairs.match_clause.Given as goal

abbrev pub invariant-loop-p : goal.invariant-loop-p
invariant-loop-p g l = Went l.codes l.marks l.old l.initial.new l.initial.t l.new l.t × AndTable l.codes l.marks l.ands
    × ((list : List ℕ) (i : ℕ) → AndsKnown l.codes l.marks l.old l.initial.new l.initial.t list i l.initial.ands → ClauseTo l.codes l.marks l.old l.new l.t list i l.b l.p l.ands)
    × (l.ands.count + l.b ≤ l.initial.ands.count + l.p) × Blank l.held
