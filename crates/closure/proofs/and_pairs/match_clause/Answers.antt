use native.Mathlib.Omega.{arith}
use Rattle.closure.proofs.Going.{went_none, went_then, ready_on}
use Rattle.closure.proofs.AndPairs.{absent_mark}
use Rattle.closure.proofs.AndTables.{clause_begins, clause_ends, clause_skips, clause_on, and_in}
use Rattle.closure.proofs.and_pairs.match_clause.Goals as goal
use Rattle.closure.proofs.and_pairs.match_clause.Goals.{then-marks-p-eq1, else-marks-p-eq1}

pub loop-p-init : goal.loop-p-init
loop-p-init g c =
    let s = c.requires in
    (went_none, s.and_table, λ list i k. clause_begins _ k, omega arith, s.b_bound.2)

pub match_and-t-requires : goal.match_and-t-requires
match_and-t-requires g c =
    let s = c.requires in
    let v = c.loop-p.invariant in (
      omega arith,
      (
        (_, ready_on s.ready.0 v.0, v.1, and_in s.ready.0.marked s.ready.1 (omega arith) c.clause_end-e.ensures (omega arith) c.if-marks-p-eq1.true),
        (omega (arith, v.3, c.clause_end-e.ensures, s.b_bound.0, c.loop-p-test.true), s.b_bound.1, v.4),
      ),
    )

pub loop-p-preserved : goal.loop-p-preserved
loop-p-preserved g c =
    let s = c.requires in
    let v = c.loop-p.invariant in
    elim c.if-marks-p-eq1.branch [
      | then-marks-p-eq1 w ↦
          let r = w.match_and-t.ensures in
          let a = and_in s.ready.0.marked s.ready.1 (omega arith) c.clause_end-e.ensures (omega arith) w.if-marks-p-eq1.true in
          let m = r.matched _ (ready_on s.ready.0 v.0) v.1 a in
          rw (w.ands-is, w.held-is, w.new-is, w.t-is)
          (went_then v.0 m.0, m.1, λ list i k. clause_on (v.2 list i k) m.0.later r.stays.0 r.met r.known, omega (arith, v.3, r.stays.1), r.blank)
      | else-marks-p-eq1 w ↦
          rw (w.ands-is, w.held-is, w.new-is, w.t-is)
          (v.0, v.1, λ list i k. clause_skips (v.2 list i k) (absent_mark w.if-marks-p-eq1.false), omega (arith, v.3), v.4)
    ]

pub returns-clause-known : goal.returns-clause-known
returns-clause-known g c = λ list i is k. clause_ends _ _ is c.clause_end-e.ensures _ (omega arith) (c.loop-p.invariant.2 list i k)
