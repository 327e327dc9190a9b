use mathlib.Core.Path.{◌≡◌}
use mathlib.Core.Logic.{◌≢◌}
use mathlib.Core.Bool.{false}
use Prim.Native.Nat.{ℕ, ◌+◌, ◌-◌}
use lib.ListN.{length, get_or}
use Rattle.closure.specs.Holding.{Blank}
use Rattle.closure.proofs.Loop.{Between}
use Rattle.closure.proofs.KeptLoop.{TablesBetween}
use Rattle.closure.proofs.run.run.Given as goal

abbrev pub invariant-loop-work : goal.invariant-loop-work
invariant-loop-work l = Between l.codes l.marks l.limit (length l.initial.leads) l.leads l.next l.older l.s
    × ((q : ℕ) → get_or l.seen q false ≡ false) × Blank l.held
    × (l.s.rounds ≢ 0 → TablesBetween l.codes l.marks l.older l.leads l.ands l.xors l.sides)

abbrev pub decreases-loop-work : goal.decreases-loop-work
decreases-loop-work l = l.limit + 1 - l.s.rounds
