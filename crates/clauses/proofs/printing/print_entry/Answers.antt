use mathlib.Core.Path.{ap}
use mir.Syntax.{w32}
use mir.Val.{of_z}
use Rattle.clauses.proofs.Signed.{read_back}
use Rattle.clauses.proofs.Writes.{wrote_then}
use Rattle.clauses.proofs.Texts.{entry_literal}
use Rattle.clauses.proofs.printing.print_entry.Goals as goal

pub returns : goal.returns
returns c =
    rw (entry_literal c.args.x (λ e. c.if-x-eq0.false (ap (of_z w32) e)))
    (wrote_then (rw (read_back c.args.x c.ranges.x.sfits) at c.print_number-end.ensures) c.put.ensures)
