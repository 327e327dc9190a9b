use mathlib.Core.Path.{◌≡◌}
use mathlib.Core.Bool.{false}
use Prim.Native.Nat.{◌+◌}
use Rattle.gates.specs.Search.{GoesOn}
use Rattle.gates.proofs.same.has_stop.Given as goal

abbrev pub invariant-loop-y : goal.invariant-loop-y
invariant-loop-y l = l.found ≡ false → GoesOn l.codes l.x l.b (l.b + l.y-index)
