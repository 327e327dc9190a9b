use Rattle.closure.proofs.AndSets.{has_told}
use Rattle.closure.proofs.inputs.Inputs.has_lead.Goals as goal

pub returns : goal.returns
returns c = let i = c.args.self.now in has_told i.clause i.old.now c.args.x c.has_lead.result c.has_lead.ensures
