use native.Mathlib.Omega.{arith}
use Rattle.closure.proofs.SideTables.{table_mates}
use Rattle.closure.proofs.side_table.KeptSides.last_entry.Goals as goal

pub mate_bucket-b-requires : goal.mate_bucket-b-requires
mate_bucket-b-requires g c = c.requires.2.some

pub last_along-requires : goal.last_along-requires
last_along-requires g c = (omega arith, (_, table_mates c.requires.2 _ _ _ c.mate_bucket-b.ensures.0 (omega (arith, c.mate_bucket-b.ensures.1))))

pub returns : goal.returns
returns g c = c.last_along.ensures _ (table_mates c.requires.2 _ _ _ c.mate_bucket-b.ensures.0 (omega (arith, c.mate_bucket-b.ensures.1)))
