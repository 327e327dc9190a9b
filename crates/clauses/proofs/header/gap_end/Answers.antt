use Rattle.clauses.specs.Bytes.{is_gap}
use Rattle.clauses.proofs.Headers.{gap_none, gap_some}
use Rattle.clauses.proofs.header.gap_end.Goals as goal

pub returns-then-end-at : goal.returns-then-end-at
returns-then-end-at c = gap_none c.args.line.now c.args.at c.run_end-end.result (c.run_end-end.ensures is_gap (λ x b e. e)) c.if-end-at.true

pub returns-else-end-at : goal.returns-else-end-at
returns-else-end-at c = gap_some c.args.line.now c.args.at c.run_end-end.result (c.run_end-end.ensures is_gap (λ x b e. e)) c.if-end-at.false
