use Rattle.closure.proofs.AndSets.{signed}
use Rattle.closure.proofs.inputs.Inputs.signature.Goals as goal

pub returns-clause-signed : goal.returns-clause-signed
returns-clause-signed c = let i = c.args.self.now in signed i.clause i.old.now c.hold_sum-sum.result c.hold_sum-sum.ensures.sum
