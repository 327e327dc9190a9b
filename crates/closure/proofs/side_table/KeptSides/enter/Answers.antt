use native.Mathlib.Omega.{arith}
use Rattle.closure.proofs.SideTables.{mates_entered, slots_entered}
use Rattle.closure.proofs.side_table.KeptSides.enter.Goals as goal

pub mate_bucket-b-requires : goal.mate_bucket-b-requires
mate_bucket-b-requires g c = c.requires.by_index.1.some

pub returns-clause-table : goal.returns-clause-table
returns-clause-table g c =
    let e = c.enter.ensures in
    let b = c.mate_bucket-b.ensures in
    λ marks t i. record {
      some = t.some;
      mates = mates_entered e _ _ c.requires.lead_row c.select_of-c.ensures c.then_of.ensures c.output_of.ensures c.like_key-like.ensures t.mates b.0 (omega (arith, b.1)) (omega (arith, c.requires.count_in_bounds.0))
          c.link.ensures.heads c.link.ensures.next;
      are = slots_entered e _ _ c.requires.lead_row c.select_of-c.ensures c.then_of.ensures c.output_of.ensures c.like_key-like.ensures t.are i c.select_of-c.type_inv c.then_of.type_inv;
    }
