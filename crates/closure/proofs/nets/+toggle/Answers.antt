use Rattle.std.proofs.Common.{arith}
use Rattle.closure.proofs.OddNets.{toggle_none, toggle_out, toggle_in, toggle_on}
use Rattle.closure.proofs.nets.+toggle.Goals as goal

pub returns-then-key-eq0-clause-nets : goal.returns-then-key-eq0-clause-nets
returns-then-key-eq0-clause-nets t c = toggle_none c.args.w c.args.key c.if-key-eq0.true

pub returns-then-w-low-clause-nets : goal.returns-then-w-low-clause-nets
returns-then-w-low-clause-nets t c = toggle_out c.args.w c.args.key c.if-key-eq0.false c.if-w-low.true

pub returns-then-w-low-2-clause-nets : goal.returns-then-w-low-2-clause-nets
returns-then-w-low-2-clause-nets t c = toggle_in c.args.w c.args.key c.if-key-eq0.false c.if-w-low-2.true

pub returns-clause-nets : goal.returns-clause-nets
returns-clause-nets t c = toggle_on c.args.w c.args.key c.if-key-eq0.false (omega (arith, c.if-w-low-2.false, c.if-w-low.false)) c.toggle.result c.toggle.ensures.nets
