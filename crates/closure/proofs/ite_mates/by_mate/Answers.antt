use mathlib.Core.Path.{◌∙◌, ap}
use Rattle.clauses.specs.Code.{negate}
use Rattle.closure.proofs.Going.{ready_joins}
use Rattle.closure.proofs.SideMates.{mate_joined}
use Rattle.closure.proofs.ite_mates.by_mate.Goals as goal

pub join-requires : goal.join-requires
join-requires g c = ready_joins c.requires.1

pub returns-clause-went : goal.returns-clause-went
returns-clause-went g c =
    let o = c.in-Some.ensures in
    λ marks r t i. (mate_joined r t i (c.flipped-c.ensures ∙ ap negate c.select_of.ensures) c.output_of-l.ensures c.then_of-u.ensures c.like_key.ensures o.0 o.1 c.join.ensures).0

pub returns-clause-joined : goal.returns-clause-joined
returns-clause-joined g c =
    let o = c.in-Some.ensures in
    λ _ _ _. (mate_joined c.requires.1 c.requires.2 c.requires.3 (c.flipped-c.ensures ∙ ap negate c.select_of.ensures) c.output_of-l.ensures c.then_of-u.ensures c.like_key.ensures o.0 o.1 c.join.ensures).1
