use Rattle.std.proofs.Common.{ℕ, ◌≤◌, ◌<◌, Bool, refl, rules, tests}
use Rattle.std.proofs.lemmas.Iterator.{cases_from_any, YieldsList-from_range}
use Rattle.closure.specs.declared.inputs.Inputs.{Inputs}
use Rattle.closure.specs.Passing.{Tells}
use Rattle.closure.specs.Inputs.{InputClash, InputsClash}
use Rattle.closure.proofs.Searches.{any_told}
use Rattle.closure.proofs.inputs.Inputs.has_narrow_clash.Goals as goal

opened : (i : Inputs) (r : Bool) → Tells ((q : ℕ) × (i.start ≤ q) × (q < i.end) × InputClash i q) r → Tells (InputsClash i) r
unfolding InputClash
opened i r t = t

pub returns : goal.returns
returns c =
    let i = c.args.self.now in
    let P = InputClash i in
    opened i c.any.result
    (any_told P i.start i.end c.any.result (cases_from_any _ _ _ P (λ q. ¬ P q) c.any.ensures.ran (YieldsList-from_range i.start i.end _ (cc) refl) (λ x q k. search (rules, tests)) (λ x q k. search (rules, tests))))
