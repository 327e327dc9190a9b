use native.Mathlib.Omega.{arith}
use Rattle.clauses.specs.Printing.{list_text}
use Rattle.clauses.proofs.Writes.{wrote_then}
use Rattle.clauses.proofs.Texts.{list_length}
use Rattle.clauses.proofs.printing.print_list.Goals as goal

pub print_header-body-requires : goal.print_header-body-requires
print_header-body-requires c =
    let s = c.args in
    omega (arith, c.requires, list_length s.sizes.nets s.sizes.clauses s.row.now)

pub print_row-requires : goal.print_row-requires
print_row-requires c =
    let s = c.args in
    omega (arith, c.requires, list_length s.sizes.nets s.sizes.clauses s.row.now, c.print_header-body.ensures.end, c.print_header-body.auto.text)

pub returns : goal.returns
unfolding list_text
returns c = wrote_then c.print_header-body.ensures c.print_row.ensures
