use Rattle.std.proofs.Common.{◌+◌, arith}
use Rattle.closure.proofs.Searches.{upto_over}
use Rattle.closure.proofs.WorklistSteps.{block_unmoved}
use Rattle.closure.proofs.worklist.skip_unmoved.Goals as goal

pub loop-w-preserved : goal.loop-w-preserved
loop-w-preserved c =
    let l = c.loop-w in (
      upto_over l.invariant.0 (omega arith) (block_unmoved c.args.older.now c.args.old.now l.w (l.w + 64) (omega arith) (omega (arith, c.loop-w-test.true)) (c.differ.ensures c.if-not-differ.true)),
      omega (arith, l.invariant.1, c.loop-w-test.true),
    )
