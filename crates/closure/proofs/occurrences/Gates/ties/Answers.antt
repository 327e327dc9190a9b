use Rattle.std.proofs.Common.{◌≡◌, Some, ◌∙◌}
use Rattle.closure.proofs.OccurrenceIndex.{tied_none, tied_one}
use Rattle.closure.proofs.occurrences.Gates.ties.Goals as goal

pub returns-else-p-q : goal.returns-else-p-q
returns-else-p-q c =
    let g = c.args.self.now in
    let is : g.first ≡ Some c.args.q = rw c.if-p-q.false at c.in-Some.is in
    λ t. c.is_some.ensures ∙ tied_one g.marks.now g.start g.end c.args.q c.if-self-eq1.false g.second (g.ands.1 c.args.q is) (g.ands.2 c.args.q is) t

pub returns-in-None : goal.returns-in-None
returns-in-None c = let g = c.args.self.now in λ t. absurd (tied_none g.marks.now g.start g.end c.args.q c.if-self-eq1.false (g.ands.0 c.in-None.is) t)
