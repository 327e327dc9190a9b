use borrow.Author.Tests.{eq-eqb, ne_eqb}
use Rattle.gates.specs.Index.{is_start}
use Rattle.gates.proofs.index.is_start.Goals as goal

pub returns-then-b-eq0 : goal.returns-then-b-eq0
unfolding is_start
returns-then-b-eq0 c = rw (eq-eqb _ _ c.if-b-eq0.true)

pub returns-else-b-eq0 : goal.returns-else-b-eq0
unfolding is_start
returns-else-b-eq0 c = rw (ne_eqb _ _ c.if-b-eq0.false)
