-- What was read stands within the row.
use Rattle.std.proofs.Common.{sym, ◌∙◌}
use lib.Seq.{length-take-le}
use Rattle.clauses.proofs.Answers.{read_within}
use Rattle.relist.proofs.Printed.{text_refused, text_accepted}
use Rattle.relist.proofs.relist.Goals as goal

pub slice_bounds-row-end : goal.slice_bounds-row-end
slice_bounds-row-end g c = rw c.read.ensures.row_after (read_within _ _ _ (sym c.read.ensures.value ∙ c.in-Ok.is)).0

pub slice_bounds-print_list-end : goal.slice_bounds-print_list-end
slice_bounds-print_list-end g c = sym (length-take-le _ _ (rw c.read.ensures.row_after (read_within _ _ _ (sym c.read.ensures.value ∙ c.in-Ok.is)).0))

pub returns-in-Err : goal.returns-in-Err
returns-in-Err g c = rw (text_refused _ _ _ c.read.ensures.value c.in-Err.is) c.print_refusal.ensures

pub returns-in-Ok : goal.returns-in-Ok
returns-in-Ok g c = rw (text_accepted _ _ _ _ c.read.ensures.value c.read.ensures.row_after c.in-Ok.is) c.print_list.ensures
