use Rattle.std.proofs.lemmas.Result.{err_from_is_err_and}
use Rattle.clauses.proofs.ReadingTests.{body_refused, body_numbers, refused_is, scanned_numbers}
use Rattle.clauses.proofs.Scans.{sets_keep}
use Rattle.clauses.specs.Reading.{Outcome, body}
use Rattle.clauses.specs.Scanning.{numbers_of, scanned_from, words_from}
use mathlib.Core.Path.{◌∙◌, ap, sym}
use Rattle.clauses.proofs.reading.read_body.Goals as goal

pub returns-in_err-tally : goal.returns-in_err-tally
unfolding scanned_from
returns-in_err-tally c =
    let told = refused_is c.args.row.now _ (body_refused c.args.row.now c.args.header.sizes c.args.header.sizes.nets (words_from c.args.text.now c.args.header.body) _ (sym c.in_err-tally.ensures.value)) in
    let p = err_from_is_err_and c.from_residual.result c.from_residual.ensures.1 in
    record { value = rw (p.1, p.2) told.0; row_after = told.1 }

pub returns : goal.returns
unfolding scanned_from
returns c =
    let sizes = c.args.header.sizes in
    let words = words_from c.args.text.now c.args.header.body in
    let told = scanned_numbers sizes.nets words _ (sym c.in_ok-tally.ensures.value) in
    let same = body_numbers c.args.row.now sizes (body words) _ told.0 in
    let done = c.read_numbers.ensures (numbers_of words) (rw c.scan_numbers.ensures.kept_after (sets_keep _ (numbers_of words))) told.1 ∙ sym same in
    record { value = ap (λ (o : Outcome). o.result) done; row_after = ap (λ (o : Outcome). o.row) done }
