use Rattle.clauses.proofs.Writes.{wrote_then}
use Rattle.sheet.proofs.Texts.{lead_false, lead_inverse, lead_plain, lead_true}
use lib.ListN.{length}
use mathlib.Core.Path.{ap}
use native.Mathlib.Omega.{arith}
use Rattle.sheet.proofs.lines.put_lead.Goals as goal

pub put-requires : goal.put-requires
put-requires c = omega (arith, c.requires, ap length (lead_false c.args.code c.if-code-eq0.true))

pub returns-then-code-eq0 : goal.returns-then-code-eq0
returns-then-code-eq0 c = rw (lead_false c.args.code c.if-code-eq0.true) c.put.ensures

pub put-requires-then-code-eq1 : goal.put-requires-then-code-eq1
put-requires-then-code-eq1 c = omega (arith, c.requires, ap length (lead_true c.args.code c.if-code-eq0.false c.if-code-eq1.true))

pub returns-then-code-eq1 : goal.returns-then-code-eq1
returns-then-code-eq1 c = rw (lead_true c.args.code c.if-code-eq0.false c.if-code-eq1.true) c.put-then-code-eq1.ensures

pub put-next-requires : goal.put-next-requires
put-next-requires c = omega (arith, c.requires, ap length (lead_inverse c.args.code c.if-code-eq0.false c.if-code-eq1.false c.if-code-eq1-2.true))

pub put_decimal-requires : goal.put_decimal-requires
put_decimal-requires c =
    omega (arith, c.requires, c.put-next.ensures.end, c.put-next.auto.text, ap length (lead_inverse c.args.code c.if-code-eq0.false c.if-code-eq1.false c.if-code-eq1-2.true))

pub returns-then-code-eq1-2 : goal.returns-then-code-eq1-2
returns-then-code-eq1-2 c = rw (lead_inverse c.args.code c.if-code-eq0.false c.if-code-eq1.false c.if-code-eq1-2.true) (wrote_then c.put-next.ensures c.put_decimal.ensures)

pub put_decimal-requires-2 : goal.put_decimal-requires-2
put_decimal-requires-2 c = rw (lead_plain c.args.code c.if-code-eq0.false c.if-code-eq1.false c.if-code-eq1-2.false) at c.requires

pub returns : goal.returns
returns c = rw (lead_plain c.args.code c.if-code-eq0.false c.if-code-eq1.false c.if-code-eq1-2.false) c.put_decimal-2.ensures
