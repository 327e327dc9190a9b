use borrow.Author.Tests.{le-leb, lt-leb}
use Rattle.gates.specs.Mark.{is_candidate}
use Rattle.gates.proofs.clause.Clause.is_candidate.Goals as goal

pub returns-then-len-ge3 : goal.returns-then-len-ge3
unfolding is_candidate
returns-then-len-ge3 c = rw (← c.len.ensures, le-leb 3 c.len.result c.if-len-ge3.true) c.is_first.ensures

pub returns-else-len-ge3 : goal.returns-else-len-ge3
unfolding is_candidate
returns-else-len-ge3 c = rw (← c.len.ensures, lt-leb 3 c.len.result c.if-len-ge3.false)
