use Rattle.closure.proofs.SideNumbers.{last_high, last_next, other_next, placed}
use Rattle.closure.proofs.ite_sides.place_after.Goals as goal

pub overflow_sub-result : goal.overflow_sub-result
overflow_sub-result c = last_high c.requires c.if-codes-p-eq0.true

pub returns-then-codes-p-eq0 : goal.returns-then-codes-p-eq0
returns-then-codes-p-eq0 c =
    let i = c.requires in let both = placed i (last_next i c.if-codes-p-eq0.true) in
    record { place = both.0; in_three = both.1 }

pub returns : goal.returns
returns c =
    let i = c.requires in let both = placed i (other_next i c.if-codes-p-eq0.false) in
    record { place = both.0; in_three = both.1 }
