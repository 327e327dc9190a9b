use native.Mathlib.Omega.{arith}
use Rattle.clauses.specs.Row.{Starts}
use Rattle.clauses.proofs.Rows.{starts_next}
use Rattle.gates.proofs.ClauseChains.{start_true, start_is}
use Rattle.gates.proofs.clause.ClausesIterator.next.Goals as goal

pub overflow_add-self : goal.overflow_add-self
overflow_add-self c =
    let walk = c.args.self.now in
    let starts : Starts walk.list.codes.now walk.start = start_true _ _ c.if-self-start.false (walk.starts c.if-self-start.false) in
    omega (arith, c.clause_end-end.ensures, walk.list.normal.ended walk.start starts, c.well_formed)

pub invariant_of-self : goal.invariant_of-self
invariant_of-self c = record { starts = λ h. rw c.clause_end-end.ensures (start_is _ _ (starts_next _ _ (rw c.clause_end-end.ensures at h))) }
