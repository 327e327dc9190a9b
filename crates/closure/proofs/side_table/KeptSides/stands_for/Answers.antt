use native.Mathlib.Omega.{arith}
use Rattle.clauses.proofs.Lists.{not_eqb}
use Rattle.closure.proofs.SideTables.{two_stand}
use Rattle.closure.proofs.side_table.KeptSides.stands_for.Goals as goal

pub then_of-t-requires : goal.then_of-t-requires
then_of-t-requires g c = (c.requires.1.2.are c.in-Some.k c.in-Some.ensures.0).is-side.in-three

pub then_of-requires-2 : goal.then_of-requires-2
then_of-requires-2 g c = (c.requires.1.2.are c.in-Some-entry_before.j (omega (arith, c.in-Some.ensures.0, c.in-Some-entry_before.ensures.0))).is-side.in-three

pub returns : goal.returns
returns g c =
    let k = c.in-Some.ensures in
    let j = c.in-Some-entry_before.ensures in
    λ e old d. two_stand c.select_of-c.ensures c.output_of-l.ensures d k.0 k.1 c.then_of-t.ensures j.0 j.1 c.then_of-2.ensures (not_eqb c.then_of-2.result c.then_of-t.result e)
