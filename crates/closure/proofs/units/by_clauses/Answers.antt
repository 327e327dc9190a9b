use Rattle.std.proofs.Common.{arith}
use Rattle.closure.specs.Passing.{ClauseJoined}
use Rattle.closure.proofs.Clauses.{clause_later}
use Rattle.closure.proofs.Going.{went_then, ready_on}
use Rattle.closure.proofs.Worklists.{entries_on, entries_all}
use Rattle.closure.proofs.units.by_clauses.Goals as goal

pub by_clause-t-requires : goal.by_clause-t-requires
by_clause-t-requires c =
    let l = c.loop-start in record { ready = ready_on c.requires.ready l.invariant.0; starts = (c.requires.are_starts l.start-index c.loop-start-test.true, c.clause_end.ensures) }

pub loop-start-preserved : goal.loop-start-preserved
loop-start-preserved c =
    let s = c.args in
    let v = c.loop-start.invariant in
    let r = c.by_clause-t.ensures in
    (went_then v.0 r.went, entries_on (ClauseJoined s.codes.now s.marks.now s.old.now _ _) s.list.now c.loop-start.start-index (λ j l. clause_later s.marks.now r.went.later (v.1 j l)) r.clause)

pub returns : goal.returns
returns c = let v = c.loop-start.invariant in record { went = v.0; clauses = entries_all _ _ _ (omega (arith, c.loop-start-test.false)) v.1 }
