use Rattle.clauses.proofs.Writes.{wrote_then}
use Rattle.sheet.proofs.Texts.{values_length}
use Rattle.sheet.specs.Sheet.{answer_of, values_line}
use mathlib.Core.List.{[]}
use mathlib.Core.Path.{ap}
use lib.ListN.{length}
use native.Mathlib.Omega.{arith}
use Rattle.sheet.proofs.lines.put_values.Goals as goal

pub put_bytes-end-requires : goal.put_bytes-end-requires
put_bytes-end-requires c = omega (arith, c.requires, ap length c.verdict_name.ensures, values_length c.args.v (answer_of c.args.s []))

pub put-numbers-requires : goal.put-numbers-requires
put-numbers-requires c = omega (arith, c.requires, ap length c.verdict_name.ensures, c.put_bytes-end.ensures.end, c.put_bytes-end.auto.text, values_length c.args.v (answer_of c.args.s []))

pub put_numbers-requires : goal.put_numbers-requires
put_numbers-requires c =
    omega (arith, c.requires, ap length c.verdict_name.ensures, c.put_bytes-end.ensures.end, c.put_bytes-end.auto.text, c.put-numbers.ensures.end, c.put-numbers.auto.text, values_length c.args.v (answer_of c.args.s []))

pub returns : goal.returns
unfolding values_line
returns c = wrote_then (rw c.verdict_name.ensures at c.put_bytes-end.ensures) (wrote_then c.put-numbers.ensures c.put_numbers.ensures)
