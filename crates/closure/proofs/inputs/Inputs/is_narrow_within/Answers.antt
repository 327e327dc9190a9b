use Rattle.std.proofs.Common.{rules, tests}
use Rattle.closure.specs.Matching.{HasLead}
use Rattle.closure.proofs.AndSets.{compared, leads_told}
use Rattle.closure.proofs.inputs.Inputs.is_narrow_within.Goals as goal

pub returns : goal.returns
returns c =
    let i = c.args.self.now in
    let k = c.args.others.now in
    let e = c.all_leads.ensures in
    let told = leads_told i (HasLead k.codes.now k.old.now k.output) c.all_leads.result (λ t a l. let p = e.each t a l in search (rules, tests)) (λ t. let p = e.one t in (p.0, p.1, search (rules, tests))) in
    compared i.clause i.old.now k.output c.all_leads.result (rw (c.requires.0, c.requires.1) at told)
