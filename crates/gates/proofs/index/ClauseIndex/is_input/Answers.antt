use borrow.Author.Tests.{ne_eqb}
use native.Mathlib.Omega.{arith}
use Rattle.gates.proofs.Masks.{masked_two}
use Rattle.gates.proofs.Queries.{two_once}
use Rattle.gates.proofs.index.ClauseIndex.is_input.Goals as goal

pub is_present-requires : goal.is_present-requires
is_present-requires c = rw masked_two (two_once (λ e. c.if-k-l.false (omega (arith, e))))

pub returns-else-k-l : goal.returns-else-k-l
returns-else-k-l c = rw (ne_eqb _ _ c.if-k-l.false, ← masked_two c.args.l c.args.k) c.is_present.ensures
