use native.Mathlib.Omega.{arith}
use Rattle.closure.proofs.Tests.{told_true, told_false}
use Rattle.closure.proofs.Going.{ready_on}
use Rattle.closure.proofs.SidePass.{clause_begins, clause_passed, clause_taken, clause_skipped, clause_known}
use Rattle.closure.proofs.ite_mates.take_clause.Goals as goal
use Rattle.closure.proofs.ite_mates.take_clause.Goals.{then-is_side, else-is_side}

pub returns-then-e-b-ne3-clause-known : goal.returns-then-e-b-ne3-clause-known
returns-then-e-b-ne3-clause-known g c = λ list i f k. clause_skipped (λ z. c.if-e-b-ne3.true (omega (arith, z, c.clause_end-e.ensures))) f k

pub loop-s-init : goal.loop-s-init
loop-s-init g c = clause_begins _ c.requires.side_table

pub is_side-requires : goal.is_side-requires
is_side-requires g c =
    ((_, c.requires.ready.0.marked), omega (arith, c.loop-s-test.true, c.requires.ready.0.marked.ended c.args.b c.requires.ready.1, c.clause_end-e.ensures))

pub take_side-t-requires : goal.take_side-t-requires
take_side-t-requires g c =
    let p = c.requires in
    let k = c.loop-s.invariant in (
      omega arith,
      (
        (_, ready_on p.ready.0 k.went, k.table, told_true c.if-is_side.true c.is_side.ensures),
        (omega (arith, k.few, c.clause_end-e.ensures, c.if-e-b-ne3.false, c.loop-s-test.true, p.b_bound.0), p.b_bound.1),
      ),
    )

pub loop-s-preserved : goal.loop-s-preserved
loop-s-preserved g c =
    let p = c.requires in
    let k = c.loop-s.invariant in
    elim c.if-is_side.branch [
      | then-is_side w ↦
          let i = told_true w.if-is_side.true c.is_side.ensures in
          let e = w.take_side-t.ensures in
          rw (w.sides-is, w.new-is, w.t-is)
          (clause_taken k p.ready.0 (e.went _ (ready_on p.ready.0 k.went) k.table i) (e.table _ k.table i) e.joined e.stood e.stays.0 e.stays.1)
      | else-is_side w ↦ rw (w.sides-is, w.new-is, w.t-is) (clause_passed k (told_false w.if-is_side.false c.is_side.ensures))
    ]

pub returns-clause-known : goal.returns-clause-known
returns-clause-known g c = clause_known c.loop-s.invariant c.clause_end-e.ensures (omega arith)
