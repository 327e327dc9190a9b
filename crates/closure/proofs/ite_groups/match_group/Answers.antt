use native.Mathlib.Omega.{arith}
use Rattle.closure.proofs.Going.{went_none}
use Rattle.closure.proofs.IteGroups.{one_joined, is_last, not_last}
use Rattle.closure.proofs.ite_groups.match_group.Goals as goal

pub returns-then-ne : goal.returns-then-ne
returns-then-ne g c = λ marks m k. (went_none, m.holds, λ o. absurd (not_last _ _ _ _ _ c.if-ne.ensures c.last_slot.ensures o))

pub has_one_output-requires : goal.has_one_output-requires
has_one_output-requires g c =
    let q = c.requires.by_index in
    (omega arith, ((q.0, c.args.old.now, q.2), is_last _ _ _ _ _ c.if-ne.ensures c.last_slot.ensures))

pub returns-then-has_one_output : goal.returns-then-has_one_output
returns-then-has_one_output g c = λ marks m k. (went_none, m.holds, λ o. one_joined c.args.codes.now marks c.args.old.now c.args.new.now c.args.t c.args.sides.now _ (c.has_one_output.ensures c.if-has_one_output.true))

pub match_likes-requires : goal.match_likes-requires
match_likes-requires g c =
    let q = c.requires.by_index in
    (omega arith, (omega arith, ((q.0, q.1, q.2), is_last _ _ _ _ _ c.if-ne.ensures c.last_slot.ensures)))

pub returns : goal.returns
returns g c = λ marks m k. let a = c.match_likes.ensures marks m k in (a.0, a.1, λ o. a.2)
