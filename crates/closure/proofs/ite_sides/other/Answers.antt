use mathlib.Core.Path.{◌∙◌}
use Rattle.closure.proofs.SideNumbers.{after_is, other_is_next, other_is_after}
use Rattle.closure.proofs.ite_sides.other.Goals as goal

pub returns-then-next : goal.returns-then-next
returns-then-next c = other_is_next _ _ _ c.if-next.true c.place_after-q.ensures.place

pub returns : goal.returns
returns c = other_is_after _ _ _ c.if-next.false (c.place_after.ensures.place ∙ after_is c.requires c.place_after-q.ensures.place)
