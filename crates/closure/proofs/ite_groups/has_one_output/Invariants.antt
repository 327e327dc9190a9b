use lib.ListN.{get_or}
use Rattle.closure.proofs.Tables.{counted}
use Rattle.closure.proofs.IteGroups.{OutputsTo}
use Rattle.closure.proofs.ite_groups.has_one_output.Given as goal

abbrev pub invariant-loop-at : goal.invariant-loop-at
invariant-loop-at g l = OutputsTo l.codes l.new l.sides l.x (get_or l.sides.keys l.last 0) l.at

abbrev pub decreases-loop-at : goal.decreases-loop-at
decreases-loop-at g l = counted l.at
