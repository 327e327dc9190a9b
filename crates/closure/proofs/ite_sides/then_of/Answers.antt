use Rattle.closure.proofs.SideNumbers.{then_is}
use Rattle.closure.proofs.ite_sides.then_of.Goals as goal

pub returns : goal.returns
returns c = then_is _ _ _ c.other.ensures
