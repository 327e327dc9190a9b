use Rattle.closure.proofs.SideNumbers.{output_is}
use Rattle.closure.proofs.ite_sides.output_of.Goals as goal

pub returns : goal.returns
returns c = output_is _ _ _ _ c.flipped.ensures c.other.ensures
