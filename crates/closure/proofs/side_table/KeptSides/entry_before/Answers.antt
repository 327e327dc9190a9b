use native.Mathlib.Omega.{arith}
use Rattle.closure.proofs.SideTables.{mates_after}
use Rattle.closure.proofs.side_table.KeptSides.entry_before.Goals as goal

pub last_along-requires : goal.last_along-requires
last_along-requires g c = (omega arith, (_, mates_after c.requires.0.2 _ _ _ c.requires.1 c.requires.2))

pub returns : goal.returns
returns g c = c.last_along.ensures _ (mates_after c.requires.0.2 _ _ _ c.requires.1 c.requires.2)
