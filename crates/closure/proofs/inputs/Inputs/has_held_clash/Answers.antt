use Rattle.std.proofs.Common.{refl, rules, tests}
use Rattle.std.proofs.lemmas.Iterator.{cases_from_any, YieldsList-from_range}
use Rattle.closure.specs.Inputs.{HeldInputClash}
use Rattle.closure.proofs.Searches.{any_told}
use Rattle.closure.proofs.AndClashes.{held_clashes}
use Rattle.closure.proofs.inputs.Inputs.has_held_clash.Goals as goal

pub returns : goal.returns
returns c =
    let i = c.args.self.now in
    let P = HeldInputClash i c.args.held.now in
    held_clashes c.requires c.any.result
    (any_told P i.start i.end c.any.result (cases_from_any _ _ _ P (λ q. ¬ P q) c.any.ensures.ran (YieldsList-from_range i.start i.end _ (cc) refl) (λ x q k. search (rules, tests)) (λ x q k. search (rules, tests))))
