use Rattle.closure.proofs.Going.{ready_on, ready_joins}
use Rattle.closure.proofs.Clauses.{pair_mark, no_pair_mark, pair_inside, pair_joined, pair_none}
use Rattle.closure.proofs.units.by_clause.Goals as goal

pub bounds-codes-b-then-marks-e-eq2 : goal.bounds-codes-b-then-marks-e-eq2
bounds-codes-b-then-marks-e-eq2 c = pair_inside c.requires.ready.marked _ c.requires.starts.0 (pair_mark _ c.args.marks.now _ _ c.requires.starts.1 c.if-marks-e-eq2.true)

pub join-requires : goal.join-requires
join-requires c = ready_joins (ready_on c.requires.ready (c.by_unit-u.ensures _ c.requires.ready).0)

pub returns-then-marks-e-eq2 : goal.returns-then-marks-e-eq2
returns-then-marks-e-eq2 c =
    let s = c in let both = pair_joined s.requires.ready _ s.requires.starts.0 (c.by_unit-u.ensures _ s.requires.ready) (pair_mark _ s.args.marks.now _ _ s.requires.starts.1 c.if-marks-e-eq2.true) _ c.inverse.ensures _ _ c.join.ensures in
    record { went = both.0; clause = both.1 }

pub returns : goal.returns
returns c =
    let s = c in let both = pair_none s.requires.ready _ s.requires.starts.0 (c.by_unit-u.ensures _ s.requires.ready) (no_pair_mark _ s.args.marks.now _ _ s.requires.starts.1 c.if-marks-e-eq2.false) in
    record { went = both.0; clause = both.1 }
