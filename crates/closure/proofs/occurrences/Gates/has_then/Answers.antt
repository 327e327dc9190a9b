use Rattle.std.proofs.Common.{ℕ, ◌/◌, ◌%◌, get_or, ◌∙◌, ap, ⊎_elim, arith}
use borrow.Author.Tests.{eq-eqb}
use Rattle.clauses.specs.Row.{around}
use Rattle.clauses.proofs.Around.{around_in}
use Rattle.closure.proofs.OccurrenceIndex.{then_by}
use Rattle.closure.proofs.occurrences.Gates.has_then.Goals as goal

pub bounds-self-next : goal.bounds-self-next
bounds-self-next c =
    let g = c.args.self.now in
    omega (arith, c.place_after-next.ensures, around_in g.start c.args.q c.requires.0 (omega (arith, c.if-self.false, c.requires)), c.if-self.false, g.clause)

pub place_after-requires : goal.place_after-requires
place_after-requires c =
    let g = c.args.self.now in
    (omega (arith, g.clause), omega (arith, c.place_after-next.ensures, around_in g.start c.args.q c.requires.0 (omega (arith, c.if-self.false, c.requires)), c.if-self.false, g.clause))

pub bounds-self-place_after : goal.bounds-self-place_after
bounds-self-place_after c =
    let g = c.args.self.now in
    let n = around_in g.start c.args.q c.requires.0 (omega (arith, c.if-self.false, c.requires)) in
    let m = around_in g.start (around g.start c.args.q) n.0 n.1 in
    omega (arith, c.place_after.ensures ∙ ap (around g.start) c.place_after-next.ensures, m, c.if-self.false, g.clause)

pub returns : goal.returns
returns c =
    let g = c.args.self.now in
    let marks = g.marks.now in
    let after = c.place_after.ensures ∙ ap (around g.start) c.place_after-next.ensures in
    λ t. ⊎_elim (λ h. absurd (c.if-self-next-eq1.false (ap (λ (i : ℕ). get_or marks i 0 / 2 % 2) c.place_after-next.ensures ∙ h)))
    (λ h. eq-eqb _ 1 (ap (λ (i : ℕ). get_or marks i 0 / 4 % 2) after ∙ h)) (then_by marks g.start g.end c.args.q t)
