use mathlib.Core.Path.{sym}
use native.Mathlib.Omega.{arith}
use borrow.Author.Tests.{ne_eqb}
use Rattle.gates.proofs.ClauseParts.{clause_starts}
use Rattle.gates.proofs.Queries.{clause_once, sizes_apart}
use Rattle.gates.proofs.clause.Clause.is_copy.Goals as goal

pub returns-else-clause_end-a : goal.returns-else-clause_end-a
returns-else-clause_end-a c =
    let clause = c.args.self.now in
    let row = clause.list.normal in
    rw (ne_eqb _ _ c.if-clause_end-a.false)
    (sym (sizes_apart _ _ _ (clause_once row _ (clause_starts clause)) row c.requires (λ e. c.if-clause_end-a.false (omega (arith, e, c.clause_end.ensures, c.len.ensures)))))
