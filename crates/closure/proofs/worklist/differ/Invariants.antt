use Rattle.std.proofs.Common.{◌≡◌, false, ℕ, ◌<◌, length}
use Rattle.closure.specs.Worklist.{has_moved}
use Rattle.closure.proofs.worklist.differ.Given as goal

abbrev pub invariant-loop-a : goal.invariant-loop-a
invariant-loop-a l = l.any ≡ false → (k : ℕ) → k < length l.yielded → has_moved l.older l.old k ≡ false
