use Prim.Native.Nat.{◌+◌}
use borrow.Author.Tests.{eq-eqb, ne_eqb}
use Rattle.clauses.specs.Row.{around}
use Rattle.closure.proofs.occurrences.place_after.Goals as goal

pub returns-then-p-b : goal.returns-then-p-b
unfolding around
returns-then-p-b c = rw (eq-eqb c.args.p (c.args.b + 2) c.if-p-b.true)

pub returns-else-p-b : goal.returns-else-p-b
unfolding around
returns-else-p-b c = rw (ne_eqb c.args.p (c.args.b + 2) c.if-p-b.false)
