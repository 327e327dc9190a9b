use mathlib.Core.Path.{◌∙◌, sym}
use Rattle.std.proofs.lemmas.Result.{err_from_is_err_and}
use Rattle.closure.specs.Closing.{refused}
use Rattle.closure.proofs.ClosingTests.{closing_refused, closing_rounds, list_passed}
use Rattle.closure.proofs.close.close.Goals as goal

pub returns-in_err-check_list : goal.returns-in_err-check_list
unfolding refused
returns-in_err-check_list c =
    let s = c.args in
    let p = err_from_is_err_and c.from_residual.result c.from_residual.ensures.1 in
    rw (p.1, p.2) (sym (closing_refused s.v s.c s.row.now s.leads.now s.work.now s.limit _ (sym c.in_err-check_list.ensures)))

pub close_rounds-requires : goal.close_rounds-requires
close_rounds-requires c =
    let s = c.args in
    list_passed s.v s.c s.row.now s.leads.now s.work.now (sym c.in_ok-check_list.ensures)

pub returns : goal.returns
returns c =
    let s = c.args in
    c.close_rounds.ensures ∙ sym (closing_rounds s.v s.c s.row.now s.leads.now s.work.now s.limit (sym c.in_ok-check_list.ensures))
