use Rattle.std.proofs.Common.{arith}
use Rattle.closure.proofs.AndOutputs.{clause_next, clause_passed, is-and, not_and}
use Rattle.closure.proofs.AndSets.{of_literal}
use Rattle.closure.proofs.Going.{went_then, ready_on}
use Rattle.closure.proofs.Holding.{ready_low}
use Rattle.closure.proofs.ands.by_ands_at.Goals as goal
use Rattle.closure.proofs.ands.by_ands_at.Goals.{then-marks-p-eq1, else-marks-p-eq1}

pub invariant_of-inputs : goal.invariant_of-inputs
invariant_of-inputs c =
    let s = c.requires in
    let l = c.loop-p in record {
      clause = rw c.clause_end-e.ensures (of_literal c.args.codes.now c.args.b l.p (record { start = s.starts; low = l.auto.p; high = omega (arith, c.loop-p-test.true, c.clause_end-e.ensures) }) (s.ready.marked.ended _ s.starts));
      low = ready_low s.ready;
    }

pub loop-p-preserved : goal.loop-p-preserved
loop-p-preserved c =
    let s = c.requires in
    let v = c.loop-p.invariant in
    elim c.if-marks-p-eq1.branch [
      | then-marks-p-eq1 w ↦
          let r = w.by_and-t.ensures in
          let j = r.and _ (ready_on s.ready v.0) (is-and _ w.if-marks-p-eq1.true) in
          rw (w.held-is, w.new-is, w.t-is) (went_then v.0 j.0, clause_next c.args.marks.now j.0.later v.1 j.1, r.blank)
      | else-marks-p-eq1 w ↦ rw (w.held-is, w.new-is, w.t-is) (v.0, clause_passed c.args.marks.now v.1 (not_and _ w.if-marks-p-eq1.false), v.2)
    ]

pub returns-clause-ands : goal.returns-clause-ands
returns-clause-ands c = λ p l i. c.loop-p.invariant.1 p l (omega (arith, l.high, c.loop-p-test.false, c.clause_end-e.ensures)) i
