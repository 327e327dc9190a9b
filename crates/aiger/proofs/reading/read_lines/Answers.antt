use mathlib.Core.Path.{sym, ◌∙◌}
use native.Mathlib.Omega.{arith}
use Rattle.std.proofs.lemmas.Result.{err_from_is_err_and}
use Rattle.clauses.specs.Bytes.{lf}
use Rattle.clauses.specs.Reading.{refused}
use Rattle.aiger.proofs.Fields.{literal_read}
use Rattle.aiger.proofs.ReadingLines.{inputs_faulty, output_faulty, output_there}
use Rattle.aiger.proofs.reading.read_lines.Goals as goal

pub returns-in_default : goal.returns-in_default
unfolding refused
returns-in_default c =
    let i = c.in_ok-at.ensures in
    output_faulty c.args.row.now c.args.header c.args.text.now _ _ i.lines_are (sym c.read_literal.ensures ∙ c.in_default.is)

pub read_ands-requires : goal.read_ands-requires
read_ands-requires c =
    let i = c.in_ok-at.ensures in
    let r = (literal_read lf c.args.text.now _ c.args.header.nets (omega arith) _ (sym c.read_literal.ensures ∙ c.in-Some.is)).0 in
    record { output_bound = r.small; inputs_bound = (omega (arith, i.far, r.further), r.within, c.requires.1) }

pub returns-in_err-at : goal.returns-in_err-at
unfolding refused
returns-in_err-at c =
    let p = err_from_is_err_and c.from_residual.result c.from_residual.ensures.1 in
    let i = c.in_err-at.ensures in
    rw (p.1, p.2, i.refusal_is) (inputs_faulty c.args.row.now c.args.header c.args.text.now _ i.lines_are)

pub returns : goal.returns
returns c =
    let i = c.in_ok-at.ensures in
    c.read_ands.ensures ∙ output_there c.args.row.now c.args.header c.args.text.now _ _ i.lines_are _ (sym c.read_literal.ensures ∙ c.in-Some.is)
