use Rattle.std.proofs.Common.{◌-◌, ◌≡◌, ◌≤◌, length, take}
use Rattle.clauses.specs.Printing.{row_text}
use Rattle.clauses.proofs.printing.row_length.Given as goal

abbrev pub invariant-loop-walk : goal.invariant-loop-walk
invariant-loop-walk l =
    record {
      lent : l.walk.row.now ≡ l.row;
      within : l.walk.at ≤ length l.row;
      same : l.total ≡ length (row_text (take l.walk.at l.row));
    }

abbrev pub decreases-loop-walk : goal.decreases-loop-walk
decreases-loop-walk l = length l.row - l.walk.at
