use native.Mathlib.Omega.{arith}
use native.Mathlib.Nat.{mod-lt}
use Rattle.closure.proofs.Tests.{told_true, told_false}
use Rattle.closure.proofs.SideNumbers.{hub_passed, hub_linked}
use Rattle.closure.proofs.hubs.SideHubs.link_side.Goals as goal

pub returns-then-not-is_side : goal.returns-then-not-is_side
returns-then-not-is_side g c = hub_passed c.requires.chained_in (told_false {r = c.is_side.result} c.if-not-is_side.true c.is_side.ensures)

pub returns : goal.returns
returns g c =
    hub_linked c.requires.chained_in (told_true {r = c.is_side.result} c.if-not-is_side.false c.is_side.ensures) _ _ _ c.pair_key-key.ensures c.select_of.ensures c.output_of.ensures
    (omega (arith, mod-lt c.pair_key-key.result c.requires.sizes.0)) (omega (arith, c.requires.marked_of_some.1, c.requires.sizes.1)) _ _ c.link.ensures.heads c.link.ensures.next
