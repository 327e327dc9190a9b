use Rattle.std.proofs.Common.{◌∙◌, arith, refl}
use Rattle.clauses.proofs.Tallies.{tally_none}
use Rattle.clauses.proofs.tally.tally_row.Goals as goal

pub loop-walk-init : goal.loop-walk-init
loop-walk-init c = record { lent = refl; within = omega arith; same = c.start-tally.ensures ∙ tally_none c.args.v c.args.row.now }
