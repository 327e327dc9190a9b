use Rattle.std.proofs.Common.{◌≡◌, true, false, rules, tests}
use Rattle.std.proofs.lemmas.Iterator.{first_from_Range}
use Rattle.closure.specs.Passing.{is_other}
use Rattle.closure.proofs.Searches.{first_of}
use Rattle.closure.proofs.literals.first_other.Goals as goal

pub returns : goal.returns
returns c =
    let a = c.args in
    let f = is_other a.codes.now a.old.now a.skip a.y in
    first_of f c.requires.0 _ (first_from_Range _ _ _ _ (λ q. f q ≡ true) (λ q. f q ≡ false) c.find.ensures.ran (λ x q k. search (rules, tests)) (λ x q k. search (rules, tests)))
