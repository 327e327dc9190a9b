use Rattle.closure.proofs.SideNumbers.{no_side, side_told}
use Rattle.closure.proofs.ite_sides.is_side.Goals as goal

pub returns-then-codes-p-eq0 : goal.returns-then-codes-p-eq0
returns-then-codes-p-eq0 c = no_side c.if-codes-p-eq0.true

pub returns : goal.returns
returns c = let s = c in side_told s.requires.0.1 s.requires.1 c.if-codes-p-eq0.false _ c.tells_of.ensures
