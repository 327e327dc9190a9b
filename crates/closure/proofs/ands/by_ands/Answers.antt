use Rattle.std.proofs.Common.{arith}
use Rattle.closure.proofs.AndOutputs.{AllAnds, all_later}
use Rattle.closure.proofs.Going.{went_then}
use Rattle.closure.proofs.Worklists.{entries_on, entries_all}
use Rattle.closure.proofs.ands.by_ands.Goals as goal

pub loop-start-preserved : goal.loop-start-preserved
loop-start-preserved c =
    let s = c.args in
    let v = c.loop-start.invariant in
    let r = c.by_ands_at-t.ensures in
    (went_then v.0 r.went, entries_on (AllAnds s.codes.now s.marks.now s.old.now _ _) s.list.now c.loop-start.start-index (λ j l. all_later s.marks.now r.went.later (v.1 j l)) r.ands, r.blank)

pub returns-clause-ands : goal.returns-clause-ands
returns-clause-ands c =
    let s = c.args in
    let all = entries_all (AllAnds s.codes.now s.marks.now s.old.now _ _) s.list.now c.loop-start.start-index (omega (arith, c.loop-start-test.false)) c.loop-start.invariant.1 in
    λ b p o. all b o p
