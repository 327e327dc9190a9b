use Rattle.clauses.proofs.ReadingTests.{heading_malformed, refused_is}
use Rattle.std.proofs.lemmas.Result.{err_from_is_err_and}
use Rattle.clauses.proofs.reading.read.Goals as goal

pub returns-in_err-header : goal.returns-in_err-header
returns-in_err-header c =
    let found = c.in_err-header.ensures in
    let told = refused_is c.args.row.now _ (heading_malformed c.args.text.now c.args.row.now c.if-text-gt-MAX_TEXT.false _ found.2) in
    let p = err_from_is_err_and c.from_residual.result c.from_residual.ensures.1 in
    record { value = rw (p.1, p.2, found.1) told.0; row_after = told.1 }
