use Rattle.closure.proofs.AndSets.{alike_rest, alike_fails}
use Rattle.closure.proofs.and_sets.is_alike.Goals as goal

pub returns-then-is_narrow_within-clause-told : goal.returns-then-is_narrow_within-clause-told
returns-then-is_narrow_within-clause-told c =
    let p = c.of-left.ensures in
    let q = c.of-right.ensures in
    alike_rest (rw (p.0, p.1, p.2, q.2) at c.if-is_narrow_within.ensures) c.is_narrow_within-then-is_narrow_within.result (rw (q.0, q.1, p.2, q.2) at c.is_narrow_within-then-is_narrow_within.ensures)

pub returns-else-is_narrow_within-clause-told : goal.returns-else-is_narrow_within-clause-told
returns-else-is_narrow_within-clause-told c =
    let p = c.of-left.ensures in alike_fails c.args.codes.now c.args.old.now c.args.p c.args.q c.is_narrow_within.result c.if-is_narrow_within.false (rw (p.0, p.1, p.2, c.of-right.ensures.2) at c.is_narrow_within.ensures)

pub returns-then-is_wide_within-clause-told : goal.returns-then-is_wide_within-clause-told
returns-then-is_wide_within-clause-told c =
    let p = c.of-left.ensures in
    let q = c.of-right.ensures in
    alike_rest (rw (p.0, p.1, p.2, q.2) at c.if-is_wide_within.ensures.told) c.is_wide_within-then-is_wide_within.result (rw (q.0, q.1, p.2, q.2) at c.is_wide_within-then-is_wide_within.ensures.told)

pub returns-else-is_wide_within-clause-told : goal.returns-else-is_wide_within-clause-told
returns-else-is_wide_within-clause-told c =
    let p = c.of-left.ensures in alike_fails c.args.codes.now c.args.old.now c.args.p c.args.q c.is_wide_within.result c.if-is_wide_within.false (rw (p.0, p.1, p.2, c.of-right.ensures.2) at c.is_wide_within.ensures.told)
