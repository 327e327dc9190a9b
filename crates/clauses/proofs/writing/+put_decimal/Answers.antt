use Rattle.std.proofs.Common.{arith}
use Rattle.clauses.proofs.Decimals.{decimal_digit, decimal_more}
use Rattle.clauses.proofs.Writes.{wrote_then}
use Rattle.clauses.proofs.writing.+put_decimal.Goals as goal

pub returns-then-n-lt10 : goal.returns-then-n-lt10
returns-then-n-lt10 t c = rw (decimal_digit c.args.n c.if-n-lt10.true) c.put.ensures

pub returns : goal.returns
returns t c =
    rw (decimal_more c.args.n c.if-n-lt10.false (omega arith))
    (wrote_then c.put_decimal-next.ensures c.put-2.ensures)
