use mathlib.Core.List.{[], ◌∷◌}
use native.Mathlib.Omega.{arith}
use lib.ListN.{length-append}
use Rattle.clauses.specs.Number.{decimal}
use Rattle.clauses.proofs.Writes.{wrote_then}
use Rattle.clauses.proofs.writing.put_word.Goals as goal

pub put_decimal-next-requires : goal.put_decimal-next-requires
put_decimal-next-requires c = omega (arith, c.requires, length-append (decimal c.args.n) (c.args.b ∷ []))

pub put-requires : goal.put-requires
put-requires c = omega (arith, c.requires, length-append (decimal c.args.n) (c.args.b ∷ []), c.put_decimal-next.ensures.end, c.put_decimal-next.auto.text)

pub returns : goal.returns
returns c = wrote_then c.put_decimal-next.ensures c.put.ensures
