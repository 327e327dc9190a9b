use native.Mathlib.Omega.{arith}
use Rattle.closure.proofs.Going.{went_then, ready_on}
use Rattle.closure.proofs.ite_mates.take_side.Goals as goal

pub by_mate-requires : goal.by_mate-requires
by_mate-requires g c =
    let p = c.requires.by_index in
    (omega arith, (p.0, ready_on p.1 (c.by_select-t.ensures.went p.0 p.1 p.3), c.enter.ensures.table p.0 p.2 p.3, p.3))

pub returns-clause-went : goal.returns-clause-went
returns-clause-went g c =
    λ marks r t i.
    let w = c.by_select-t.ensures.went marks r i in
    went_then w (c.by_mate.ensures.went marks (ready_on r w) (c.enter.ensures.table marks t i) i)

pub returns-clause-joined : goal.returns-clause-joined
returns-clause-joined g c =
    let p = c.requires.by_index in
    let w = c.by_select-t.ensures.went p.0 p.1 p.3 in
    record {
      selects = λ k. (c.by_mate.ensures.went p.0 (ready_on p.1 w) (c.enter.ensures.table p.0 p.2 p.3) p.3).later _ _ (c.by_select-t.ensures.joined k);
      mates = c.by_mate.ensures.joined;
    }
