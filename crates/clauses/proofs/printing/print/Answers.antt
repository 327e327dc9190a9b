use mathlib.Core.Path.{sym, ◌≡◌}
use native.Mathlib.Omega.{arith}
use Rattle.std.specs.Prelude.{Ok}
use Rattle.clauses.specs.Check.{check_entries}
use Rattle.clauses.specs.Tally.{tally_of}
use Rattle.clauses.proofs.Prints.{print_written}
use Rattle.clauses.proofs.printing.print.Goals as goal

pub returns : goal.returns
returns c =
    let entries : check_entries c.args.c (tally_of c.args.v c.args.row.now) ≡ Ok tt = rw (← c.tally_row.ensures) (sym c.in_ok-check_entries.ensures) in
    let told = print_written c.args.v c.args.c c.args.row.now c.args.text.now (sym c.in_ok-check_sizes.ensures) entries
    (omega (arith, c.list_length-length.ensures)) (omega (arith, c.list_length-length.ensures)) _ _ c.print_list.ensures in
    record { value = told.0; text_after = told.1 }
