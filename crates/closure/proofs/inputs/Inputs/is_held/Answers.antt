use Rattle.std.proofs.Common.{◌≡◌, true, false, get_or, rules, tests}
use Rattle.closure.proofs.AndSets.{compared_held, leads_told}
use Rattle.closure.proofs.inputs.Inputs.is_held.Goals as goal

pub returns : goal.returns
returns c =
    let i = c.args.self.now in
    let held = c.args.held.now in
    let e = c.all_leads.ensures in
    let told = leads_told i (λ y. get_or held y false ≡ true) c.all_leads.result (λ t a l. let p = e.each t a l in search (rules, tests)) (λ t. let p = e.one t in (p.0, p.1, search (rules, tests))) in
    λ others (f, g) h. compared_held i.clause (rw f at others.clause) (rw (f, g) at h) c.all_leads.result told
