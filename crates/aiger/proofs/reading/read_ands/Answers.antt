use mathlib.Core.Path.{refl}
use native.Mathlib.Omega.{arith}
use Rattle.std.proofs.lemmas.Result.{err_from_is_err_and}
use Rattle.clauses.specs.Reading.{refused}
use Rattle.aiger.proofs.ReadingLines.{ands_stopped, made_room, made_clauses_few, ands_made}
use Rattle.aiger.proofs.reading.read_ands.Goals as goal

pub returns-in_err-scan_ands : goal.returns-in_err-scan_ands
unfolding refused
returns-in_err-scan_ands c =
    let p = err_from_is_err_and c.from_residual.result c.from_residual.ensures.1 in
    rw (p.1, p.2) (ands_stopped c.args.row.now c.args.header.nets c.args.tree.now c.args.output.value _ _ _ _ c.scan_ands.ensures _ c.in_err-scan_ands.was)

pub put_clause-requires-clause-room : goal.put_clause-requires-clause-room
put_clause-requires-clause-room c = made_room c.args.row.now c.args.header.nets c.args.tree.now c.args.output.value _ _ _ _ c.scan_ands.ensures c.args.text.now c.args.header.ands c.args.output.next refl c.requires.inputs_bound.1 c.requires.inputs_bound.2 c.new-entries.ensures.1 c.new-entries.ensures.0 c.in_ok-scan_ands.was

pub overflow_cast-tally : goal.overflow_cast-tally
overflow_cast-tally c = omega (arith, made_clauses_few c.args.row.now c.args.header.nets c.args.tree.now c.args.output.value _ _ _ _ c.scan_ands.ensures c.args.text.now c.args.header.ands c.args.output.next refl c.requires.inputs_bound.1 c.requires.inputs_bound.2 c.new-entries.ensures.1 c.new-entries.ensures.0 c.in_ok-scan_ands.was _ c.put_clause.ensures)

pub returns : goal.returns
returns c = ands_made c.args.row.now c.args.header.nets c.args.tree.now c.args.output.value _ _ _ _ c.scan_ands.ensures c.args.text.now c.args.header.ands c.args.output.next refl c.requires.inputs_bound.1 c.requires.inputs_bound.2 c.new-entries.ensures.1 c.new-entries.ensures.0 c.in_ok-scan_ands.was _ c.put_clause.ensures _ c.read_numbers.ensures
