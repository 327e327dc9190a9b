use mathlib.Core.Path.{◌∙◌, ap}
use mathlib.Core.Bool.{not}
use native.Mathlib.Omega.{arith}
use lib.ListN.{get_or}
use Rattle.clauses.specs.Sign.{flip}
use Rattle.closure.specs.Joining.{State}
use Rattle.closure.specs.declared.nets.Rest.{Rest}
use Rattle.closure.proofs.XorSteps.{alone_joins, stepped}
use Rattle.closure.proofs.xors.take_literal.Goals as goal

pub place-requires : goal.place-requires
place-requires g c =
    let s = c.requires.room in
    let joins = ap (λ (t : State). t.tally.joins) c.join_alone-t.ensures in
    (omega arith, (s.0, s.1, omega (arith, joins, alone_joins c.args.new.now c.args.tally c.rest_of-rest.result.key c.flipped-sum.result, s.2)))

pub returns : goal.returns
returns g c =
    stepped _ (ap (λ (r : Rest). r.key) c.rest_of-rest.ensures)
    (c.flipped-sum.ensures ∙ ap (λ (r : Rest). flip (not r.odd) (get_or c.args.codes.now c.args.p 0)) c.rest_of-rest.ensures)
    c.join_alone-t.ensures c.place.ensures
