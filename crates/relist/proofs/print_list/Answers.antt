-- What was printed stands within the buffer.
use Rattle.std.proofs.Common.{sym, ◌∙◌}
use lib.Seq.{length-take-le}
use Rattle.clauses.proofs.Answers.{print_within}
use Rattle.relist.proofs.Printed.{list_refused, list_written}
use Rattle.relist.proofs.print_list.Goals as goal

pub slice_bounds-text-end : goal.slice_bounds-text-end
slice_bounds-text-end g c = rw c.print.ensures.text_after (print_within _ _ _ _ _ (sym c.print.ensures.value ∙ c.in-Ok.is))

pub slice_bounds-write_all-end : goal.slice_bounds-write_all-end
slice_bounds-write_all-end g c = sym (length-take-le _ _ (rw c.print.ensures.text_after (print_within _ _ _ _ _ (sym c.print.ensures.value ∙ c.in-Ok.is))))

pub returns-in-Err : goal.returns-in-Err
returns-in-Err g c = rw (list_refused _ _ _ _ _ c.print.ensures.value c.in-Err.is) c.print_refusal.ensures

pub returns-in-Ok : goal.returns-in-Ok
returns-in-Ok g c = rw (list_written _ _ _ _ _ _ c.print.ensures.value c.print.ensures.text_after c.in-Ok.is) c.write_all.ensures.bytes
