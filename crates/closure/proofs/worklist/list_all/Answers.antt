use Rattle.std.proofs.Common.{arith}
use Rattle.closure.proofs.WorklistSteps.{all_none, all_more, all_on}
use Rattle.closure.proofs.worklist.list_all.Goals as goal

pub loop-b-init : goal.loop-b-init
loop-b-init c = all_none _ _

pub loop-b-preserved : goal.loop-b-preserved
loop-b-preserved c =
    let l = c.loop-b in all_more l.invariant (omega (arith, l.auto.list, c.requires.1)) c.loop-b-test.true c.requires.0 _ c.clause_end-b.ensures

pub returns-clause-holds : goal.returns-clause-holds
returns-clause-holds c = let l = c.loop-b in all_on l.invariant (omega (arith, l.auto.list, c.requires.1)) c.loop-b-test.false
