use Rattle.std.proofs.Common.{◌≡◌, true, false, rules, tests}
use Rattle.std.proofs.lemmas.Iterator.{first_from_Range}
use Rattle.closure.specs.Worklist.{has_moved}
use Rattle.closure.proofs.Searches.{first_after}
use Rattle.closure.proofs.WorklistSteps.{has-moved, not_moved}
use Rattle.closure.proofs.worklist.next_moved.Goals as goal

pub returns : goal.returns
returns c =
    let f = has_moved c.args.older.now c.args.old.now in
    let s = c.skip_unmoved-unmoved.ensures in
    first_after f s.0 s.1 s.2 _
    (first_from_Range _ _ _ _ (λ w. f w ≡ true) (λ w. f w ≡ false) c.find.ensures.ran (λ x q k. search (has-moved, rules, tests)) (λ x q k. search (not_moved, rules, tests)))
