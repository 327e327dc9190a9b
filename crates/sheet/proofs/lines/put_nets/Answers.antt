use native.Mathlib.Omega.{arith}
use Rattle.clauses.proofs.Writes.{wrote_none, wrote_then}
use Rattle.sheet.specs.Sheet.{net_lines}
use Rattle.sheet.proofs.Texts.{nets_next, nets_room}
use Rattle.sheet.proofs.lines.put_nets.Goals as goal

pub loop-i-init : goal.loop-i-init
unfolding net_lines
loop-i-init c = wrote_none c.args.text.now c.args.at

pub put_net-next-requires : goal.put_net-next-requires
put_net-next-requires c =
    omega (arith, nets_room c.args.leads.now c.loop-i.i c.loop-i-test.true, c.loop-i.invariant.end, c.loop-i.auto.text, c.requires.leads_in_bounds)

pub loop-i-preserved : goal.loop-i-preserved
loop-i-preserved c = rw (nets_next c.args.leads.now c.loop-i.i c.loop-i-test.true) (wrote_then c.loop-i.invariant c.put_net-next.ensures)
