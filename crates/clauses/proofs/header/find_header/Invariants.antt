use Prim.Native.Nat.{◌+◌, ◌-◌, ◌≤◌}
use Rattle.clauses.specs.Reading.{heading, lines}
use lib.ListN.{drop, length}
use mathlib.Core.Path.{◌≡◌}
use Rattle.clauses.proofs.header.find_header.Given as goal

abbrev pub invariant-loop-at : goal.invariant-loop-at
invariant-loop-at l = (heading (length l.text) (lines 0 l.text) ≡ heading (length l.text) (lines l.at (drop l.at l.text))) × (l.at ≤ length l.text + 1)

abbrev pub decreases-loop-at : goal.decreases-loop-at
decreases-loop-at l = length l.text + 1 - l.at
