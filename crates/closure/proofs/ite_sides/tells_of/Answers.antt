use Rattle.closure.proofs.SideNumbers.{next_told, after_told}
use Rattle.closure.proofs.ite_sides.tells_of.Goals as goal

pub returns-then-s-eq0 : goal.returns-then-s-eq0
returns-then-s-eq0 c = next_told _ _ c.if-s-eq0.true

pub returns : goal.returns
returns c = after_told _ _ c.if-s-eq0.false
