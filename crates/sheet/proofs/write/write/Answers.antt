use mathlib.Core.Path.{◌∙◌, sym}
use lib.Seq.{length-take-le}
use Rattle.std.proofs.lemmas.Result.{err_from_is_err_and}
use Rattle.sheet.specs.Writing.{refused}
use Rattle.sheet.proofs.Written.{writing_list, writing_buffer, closes_not, handed_room, handed_few, handed_fits, writing_done}
use Rattle.sheet.proofs.write.write.Goals as goal

pub returns-in_err-check_list : goal.returns-in_err-check_list
unfolding refused
returns-in_err-check_list c =
    let s = c.args in
    let p = err_from_is_err_and c.from_residual.result c.from_residual.ensures.1 in
    rw (p.1, p.2) (sym (writing_list s.v s.c s.row.now s.limit s.leads.now s.work.now s.text.now _ (sym c.check_list.ensures ∙ c.in_err-check_list.was)))

pub returns-then-text-lt-MIN_BUFFER : goal.returns-then-text-lt-MIN_BUFFER
unfolding refused
returns-then-text-lt-MIN_BUFFER c =
    let s = c.args in
    sym (writing_buffer s.v s.c s.row.now s.limit s.leads.now s.work.now s.text.now (sym c.check_list.ensures ∙ c.in_ok-check_list.was) c.if-text-lt-MIN_BUFFER.true)

pub returns-in_err-summary : goal.returns-in_err-summary
returns-in_err-summary c =
    let s = c.args in
    absurd (closes_not s.v s.c s.row.now s.limit s.leads.now s.work.now s.text.now (sym c.check_list.ensures ∙ c.in_ok-check_list.was) _ _ _ c.close.ensures _ c.in_err-summary.was)

pub slice_bounds-put_sheet-end : goal.slice_bounds-put_sheet-end
slice_bounds-put_sheet-end c =
    let s = c.args in
    handed_room s.v s.c s.row.now s.limit s.leads.now s.work.now s.text.now (sym c.check_list.ensures ∙ c.in_ok-check_list.was) _ _ _ c.close.ensures _ c.in_ok-summary.was

pub slice_bounds-put_sheet-end-2 : goal.slice_bounds-put_sheet-end-2
slice_bounds-put_sheet-end-2 c =
    let s = c.args in
    sym (length-take-le _ _ (handed_room s.v s.c s.row.now s.limit s.leads.now s.work.now s.text.now (sym c.check_list.ensures ∙ c.in_ok-check_list.was) _ _ _ c.close.ensures _ c.in_ok-summary.was))

pub put_sheet-requires : goal.put_sheet-requires
put_sheet-requires c =
    let s = c.args in
    record {
      leads_in_bounds = handed_fits s.v s.c s.row.now s.limit s.leads.now s.work.now s.text.now (sym c.check_list.ensures ∙ c.in_ok-check_list.was) _ _ _ c.close.ensures _ c.in_ok-summary.was c.if-text-lt-MIN_BUFFER.false;
      leads_len_bound = handed_few s.v s.c s.row.now s.limit s.leads.now s.work.now s.text.now (sym c.check_list.ensures ∙ c.in_ok-check_list.was) _ _ _ c.close.ensures _ c.in_ok-summary.was;
    }

pub returns : goal.returns
returns c =
    let s = c.args in
    writing_done s.v s.c s.row.now s.limit s.leads.now s.work.now s.text.now (sym c.check_list.ensures ∙ c.in_ok-check_list.was) _ _ _ c.close.ensures _ c.in_ok-summary.was c.if-text-lt-MIN_BUFFER.false _ _ c.put_sheet.ensures
