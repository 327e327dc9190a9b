use native.Mathlib.Omega.{arith}
use Rattle.closure.proofs.IteGroups.{matchable_on, grouping_begins, grouping_side, grouping_on, grouping_ends}
use Rattle.closure.proofs.ite_groups.match_likes.Goals as goal

pub loop-at-init : goal.loop-at-init
loop-at-init g c = λ marks m k. grouping_begins k _ c.requires.last m.holds

pub match_side-t-requires : goal.match_side-t-requires
match_side-t-requires g c =
    let q = c.requires.by_index in
    let w = rw c.in-Some.is at (c.loop-at.invariant q.0 q.1 q.2) in
    (omega arith, (q.0, matchable_on q.1 w.matching.went w.matching.holds, grouping_side q.2 _ c.requires.last w))

pub loop-at-preserved : goal.loop-at-preserved
loop-at-preserved g c =
    λ marks m k.
    let w = rw c.in-Some.is at (c.loop-at.invariant marks m k) in
    grouping_on k _ c.requires.last w (c.match_side-t.ensures marks (matchable_on m w.matching.went w.matching.holds) (grouping_side k _ c.requires.last w)) _ c.slot_before-at.ensures

pub returns : goal.returns
returns g c =
    λ marks m k.
    let w = rw c.in_default.is at (c.loop-at.invariant marks m k) in
    (w.matching.went, w.matching.holds, grouping_ends k _ c.requires.last w)
