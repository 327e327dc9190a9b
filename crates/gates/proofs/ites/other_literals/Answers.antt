use native.Mathlib.Omega.{arith}
use Rattle.gates.proofs.Halves.{next_in_three, others}
use Rattle.gates.proofs.ites.other_literals.Goals as goal

pub next_place-after-requires : goal.next_place-after-requires
next_place-after-requires c = rw c.next_place-next.ensures (next_in_three _ _ c.requires)

pub offset_bounds-codes-next : goal.offset_bounds-codes-next
offset_bounds-codes-next c = omega (arith, (others _ _ _ _ c.requires c.next_place-next.ensures c.next_place-after.ensures).next_in, c.well_formed)

pub bounds-codes-next : goal.bounds-codes-next
bounds-codes-next c = (others _ _ _ _ c.requires c.next_place-next.ensures c.next_place-after.ensures).next_in

pub offset_bounds-codes-after : goal.offset_bounds-codes-after
offset_bounds-codes-after c = omega (arith, (others _ _ _ _ c.requires c.next_place-next.ensures c.next_place-after.ensures).after_in, c.well_formed)

pub bounds-codes-after : goal.bounds-codes-after
bounds-codes-after c = (others _ _ _ _ c.requires c.next_place-next.ensures c.next_place-after.ensures).after_in

pub returns-clause-next : goal.returns-clause-next
returns-clause-next c = (others _ _ _ _ c.requires c.next_place-next.ensures c.next_place-after.ensures).next_is

pub returns-clause-after : goal.returns-clause-after
returns-clause-after c = (others _ _ _ _ c.requires c.next_place-next.ensures c.next_place-after.ensures).after_is
