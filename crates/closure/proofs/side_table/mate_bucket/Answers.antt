use mathlib.Core.Path.{refl}
use native.Mathlib.Nat.{mod-lt}
use Rattle.closure.proofs.side_table.mate_bucket.Goals as goal

pub returns : goal.returns
returns c = (refl, mod-lt _ c.requires)
