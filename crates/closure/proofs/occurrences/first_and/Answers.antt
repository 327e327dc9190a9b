use Rattle.std.proofs.Common.{◌≡◌, ◌≢◌, ◌%◌, get_or, rules, tests}
use Rattle.std.proofs.lemmas.Iterator.{first_from_Range}
use Rattle.closure.proofs.OccurrenceIndex.{and_found}
use Rattle.closure.proofs.occurrences.first_and.Goals as goal

pub returns : goal.returns
returns c =
    let marks = c.args.marks.now in
    and_found marks c.args.from c.args.to _
    (first_from_Range _ _ _ _ (λ p. get_or marks p 0 % 2 ≡ 1) (λ p. get_or marks p 0 % 2 ≢ 1) c.find.ensures.ran (λ x q k. search (rules, tests)) (λ x q k. search (rules, tests)))
