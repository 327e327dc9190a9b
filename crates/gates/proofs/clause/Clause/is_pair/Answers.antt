use mathlib.Core.Path.{sym, ◌∙◌}
use borrow.Author.Tests.{ne_eqb}
use Rattle.gates.specs.Mark.{marks_pair}
use Rattle.gates.proofs.ClauseParts.{clause_starts}
use Rattle.gates.proofs.Pairs.{pair_by}
use Rattle.gates.proofs.Queries.{nets_once, masked_once}
use Rattle.gates.proofs.clause.Clause.is_pair.Goals as goal

pub is_present-requires : goal.is_present-requires
is_present-requires c =
    let clause = c.args.self.now in
    rw c.literals.ensures (masked_once _ _ (nets_once clause.list.normal _ (clause_starts clause)))

pub returns-then-len-eq2 : goal.returns-then-len-eq2
returns-then-len-eq2 c = rw c.literals.ensures at c.is_present.ensures ∙ sym (pair_by _ _ (sym c.len.ensures ∙ c.if-len-eq2.true))

pub returns-else-len-eq2 : goal.returns-else-len-eq2
unfolding marks_pair
returns-else-len-eq2 c = rw (← c.len.ensures, ne_eqb _ _ c.if-len-eq2.false)
