use native.Mathlib.Omega.{arith}
use Rattle.gates.proofs.same.skip_blocks.Goals as goal

pub loop-i-init : goal.loop-i-init
loop-i-init c p f = f

pub has_stop-requires : goal.has_stop-requires
has_stop-requires c = (omega arith, omega (arith, c.if-n-i-ge-BLOCK.true, c.loop-i-test.true))

pub loop-i-preserved : goal.loop-i-preserved
loop-i-preserved c p f = c.loop-i.invariant p (c.has_stop.ensures c.if-not-has_stop.true p f)

pub returns-after-loop-i : goal.returns-after-loop-i
returns-after-loop-i c = c.loop-i.invariant

pub returns-else-n-i-ge-BLOCK : goal.returns-else-n-i-ge-BLOCK
returns-else-n-i-ge-BLOCK c = c.loop-i.invariant

pub returns-else-not-has_stop : goal.returns-else-not-has_stop
returns-else-not-has_stop c = c.loop-i.invariant
