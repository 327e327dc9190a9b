use mathlib.Core.Path.{sym, ◌∙◌, ap}
use borrow.Author.Tests.{not-true, not-false}
use Rattle.clauses.specs.Reading.{Outcome}
use Rattle.clauses.proofs.ReadingTests.{refused_is}
use Rattle.aiger.proofs.ReadingLines.{header_within, text_long, header_missing, header-bad, latches_there, outputs_wrong, lines_decide}
use Rattle.aiger.proofs.reading.read.Goals as goal

pub returns-then-text-gt-MAX_TEXT : goal.returns-then-text-gt-MAX_TEXT
returns-then-text-gt-MAX_TEXT c =
    let both = refused_is c.args.row.now _ (sym (text_long c.args.text.now c.args.row.now c.if-text-gt-MAX_TEXT.true)) in
    record { value = both.0; row_after = both.1 }

pub returns-in_default : goal.returns-in_default
returns-in_default c =
    let both = refused_is c.args.row.now _ (sym (header_missing c.args.text.now c.args.row.now c.if-text-gt-MAX_TEXT.false (sym c.read_header.ensures ∙ c.in_default.is))) in
    record { value = both.0; row_after = both.1 }

pub returns-then-not-has_nets : goal.returns-then-not-has_nets
returns-then-not-has_nets c =
    let both = refused_is c.args.row.now _ (sym (header-bad c.args.text.now c.args.row.now c.if-text-gt-MAX_TEXT.false _ (sym c.read_header.ensures ∙ c.in-Some.is) (not-false _ (sym c.has_nets.ensures ∙ c.if-not-has_nets.true)))) in
    record { value = both.0; row_after = both.1 }

pub returns-then-header-ne0 : goal.returns-then-header-ne0
returns-then-header-ne0 c =
    let both = refused_is c.args.row.now _ (sym (latches_there c.args.text.now c.args.row.now c.if-text-gt-MAX_TEXT.false _ (sym c.read_header.ensures ∙ c.in-Some.is) (not-true _ (sym c.has_nets.ensures ∙ c.if-not-has_nets.false)) c.if-header-ne0.true)) in
    record { value = both.0; row_after = both.1 }

pub returns-then-header-ne1 : goal.returns-then-header-ne1
returns-then-header-ne1 c =
    let both = refused_is c.args.row.now _ (sym (outputs_wrong c.args.text.now c.args.row.now c.if-text-gt-MAX_TEXT.false _ (sym c.read_header.ensures ∙ c.in-Some.is) (not-true _ (sym c.has_nets.ensures ∙ c.if-not-has_nets.false)) c.if-header-ne0.false c.if-header-ne1.true)) in
    record { value = both.0; row_after = both.1 }

pub read_lines-requires : goal.read_lines-requires
read_lines-requires c = (header_within c.args.text.now _ (sym c.read_header.ensures ∙ c.in-Some.is), c.if-text-gt-MAX_TEXT.false)

pub returns : goal.returns
returns c =
    let done = c.read_lines.ensures ∙ lines_decide c.args.text.now c.args.row.now c.if-text-gt-MAX_TEXT.false _ (sym c.read_header.ensures ∙ c.in-Some.is) (not-true _ (sym c.has_nets.ensures ∙ c.if-not-has_nets.false)) c.if-header-ne0.false c.if-header-ne1.false in record { value = ap (λ (o : Outcome). o.result) done; row_after = ap (λ (o : Outcome). o.row) done }
