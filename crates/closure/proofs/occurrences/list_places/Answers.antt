use Rattle.std.proofs.Common.{◌≢◌, ◌⊎◌, inl, inr, ℕ, ◌≤◌, ◌<◌, ◌∙◌, arith}
use Rattle.std.proofs.lemmas.List.{get_or-set_other}
use Rattle.closure.proofs.OccurrenceIndex.{listed_on}
use Rattle.closure.proofs.occurrences.list_places.Goals as goal

apart : (b e q k : ℕ) → b ≤ q → q < e → (k < b) ⊎ (e ≤ k) → k ≢ q
apart b e q k l h (inl m) z = omega arith
apart b e q k l h (inr m) z = omega arith

pub loop-q-preserved : goal.loop-q-preserved
loop-q-preserved c =
    let a = c.args in
    let l = c.loop-q in
    let g = c.of-gates.ensures in (
      listed_on a.marks.now l.starts l.reads a.b a.e l.q c.reads.result (omega (arith, l.auto.starts, c.loop-q-test.true, c.requires)) (omega (arith, l.auto.reads, c.loop-q-test.true, c.requires)) (rw (g.0, g.1, g.2) at c.reads.ensures) l.invariant.0,
      λ k h. let n = apart a.b a.e l.q k l.auto.q c.loop-q-test.true h in (get_or-set_other l.starts l.q k _ 0 n ∙ (l.invariant.1 k h).0, get_or-set_other l.reads l.q k _ _ n ∙ (l.invariant.1 k h).1),
    )
