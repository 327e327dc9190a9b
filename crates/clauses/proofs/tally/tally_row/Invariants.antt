use Rattle.std.proofs.Common.{◌-◌, ◌≡◌, ◌≤◌, length, take}
use Rattle.clauses.specs.Tally.{tally_of}
use Rattle.clauses.proofs.tally.tally_row.Given as goal

abbrev pub invariant-loop-walk : goal.invariant-loop-walk
invariant-loop-walk l =
    record {
      lent : l.walk.row.now ≡ l.row;
      within : l.walk.at ≤ length l.row;
      same : l.tally ≡ tally_of l.v (take l.walk.at l.row);
    }

abbrev pub decreases-loop-walk : goal.decreases-loop-walk
decreases-loop-walk l = length l.row - l.walk.at
