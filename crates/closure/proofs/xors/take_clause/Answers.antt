use native.Mathlib.Omega.{arith}
use Rattle.closure.proofs.ListedXors.{clause_skipped, clause_begins, clause_packable, clause_joins, clause_on, clause_known}
use Rattle.closure.proofs.xors.take_clause.Goals as goal

pub returns-then-marks-end-ne1-clause-known : goal.returns-then-marks-end-ne1-clause-known
returns-then-marks-end-ne1-clause-known g c =
    λ list i is k. clause_skipped c.requires.ready.1 c.clause_end-end.ensures c.if-marks-end-ne1.true is k

pub loop-p-init : goal.loop-p-init
loop-p-init g c = clause_begins _ c.requires.xor_table

pub take_literal-t-requires : goal.take_literal-t-requires
take_literal-t-requires g c =
    let s = c.requires in
    let e = c.clause_end-end.ensures in
    let v = c.loop-p.invariant in (
      omega arith,
      (
        clause_packable v e s.ready.0 s.ready.1 c.if-marks-end-ne1.false (omega arith) (omega arith),
        (omega (arith, v.few, e, s.b_bound.0, c.loop-p-test.true), s.b_bound.1, clause_joins v e s.ready.0 s.ready.1 c.if-marks-end-ne1.false (omega arith) (omega arith)),
      ),
    )

pub loop-p-preserved : goal.loop-p-preserved
loop-p-preserved g c =
    let s = c.requires in
    let e = c.clause_end-end.ensures in
    let v = c.loop-p.invariant in
    clause_on v e s.ready.0 s.ready.1 c.if-marks-end-ne1.false (omega arith) (omega arith) c.take_literal-t.ensures

pub returns-clause-known : goal.returns-clause-known
returns-clause-known g c = clause_known c.loop-p.invariant c.clause_end-end.ensures (omega arith)
