use Rattle.closure.proofs.inputs.Inputs.is_wide_within.Goals as goal

pub returns-clause-told : goal.returns-clause-told
returns-clause-told c = c.is_held-r.ensures c.args.others.now c.requires.one c.hold.ensures
