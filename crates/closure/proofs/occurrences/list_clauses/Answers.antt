use Rattle.std.proofs.Common.{arith}
use Rattle.clauses.proofs.Starts.{starts_behind}
use Rattle.closure.proofs.OccurrenceIndex.{listed_more}
use Rattle.closure.proofs.occurrences.list_clauses.Goals as goal

pub loop-b-preserved : goal.loop-b-preserved
loop-b-preserved c =
    let a = c.args in
    let l = c.loop-b in
    let y = c.list_places in (
      starts_behind a.codes.now l.b _ c.clause_end-e.ensures,
      listed_more a.codes.now a.marks.now l.starts _ l.reads _ l.b _ (l.invariant.0 c.loop-b-test.true) c.clause_end-e.ensures y.ensures.places y.ensures.others l.invariant.1,
    )

pub returns : goal.returns
returns c = λ b q l h. c.loop-b.invariant.1 b q l (omega (arith, c.loop-b-test.false))
