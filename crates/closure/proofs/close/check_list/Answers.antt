use mathlib.Core.Path.{◌∙◌, sym}
use Rattle.std.proofs.lemmas.Result.{err_from_is_err_and}
use Rattle.closure.proofs.ClosingTests.{list_sizes, list_leads, list_work, list_entries}
use Rattle.closure.proofs.close.check_list.Goals as goal

pub returns-in_err-check_sizes : goal.returns-in_err-check_sizes
returns-in_err-check_sizes c =
    let s = c.args in
    let p = err_from_is_err_and c.from_residual.result c.from_residual.ensures.1 in
    rw (p.1, p.2) (sym (list_sizes s.v s.c s.row.now s.leads s.work _ (sym c.in_err-check_sizes.ensures)))

pub returns-then-leads-v : goal.returns-then-leads-v
returns-then-leads-v c =
    let s = c.args in
    sym (list_leads s.v s.c s.row.now s.leads s.work (sym c.in_ok-check_sizes.ensures) c.if-leads-v.true)

pub returns-then-work-lt-MAX_WORK : goal.returns-then-work-lt-MAX_WORK
returns-then-work-lt-MAX_WORK c =
    let s = c.args in
    sym (list_work s.v s.c s.row.now s.leads s.work (sym c.in_ok-check_sizes.ensures) c.if-leads-v.false c.if-work-lt-MAX_WORK.true)

pub returns : goal.returns
returns c =
    let s = c.args in
    c.check_entries.ensures ∙ rw c.tally_row.ensures (sym (list_entries s.v s.c s.row.now s.leads s.work (sym c.in_ok-check_sizes.ensures) c.if-leads-v.false c.if-work-lt-MAX_WORK.false))
