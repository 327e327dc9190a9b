use Rattle.clauses.proofs.Writes.{wrote_then}
use Rattle.sheet.proofs.Texts.{net_length}
use Rattle.sheet.specs.Sheet.{net_line}
use native.Mathlib.Omega.{arith}
use Rattle.sheet.proofs.lines.put_net.Goals as goal

pub put_word-lead-requires : goal.put_word-lead-requires
put_word-lead-requires c = omega (arith, c.requires, net_length c.args.w c.args.code)

pub put_lead-end-requires : goal.put_lead-end-requires
put_lead-end-requires c = omega (arith, c.requires, c.put_word-lead.ensures.end, c.put_word-lead.auto.text, net_length c.args.w c.args.code)

pub put-requires : goal.put-requires
put-requires c =
    omega (arith, c.requires, c.put_word-lead.ensures.end, c.put_word-lead.auto.text, c.put_lead-end.ensures.end, c.put_lead-end.auto.text, net_length c.args.w c.args.code)

pub returns : goal.returns
unfolding net_line
returns c = wrote_then c.put_word-lead.ensures (wrote_then c.put_lead-end.ensures c.put.ensures)
