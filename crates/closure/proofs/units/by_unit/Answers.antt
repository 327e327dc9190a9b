use Rattle.std.proofs.Common.{refl, sym}
use Rattle.closure.specs.Passing.{is_other}
use Rattle.closure.proofs.Going.{ready_joins}
use Rattle.closure.proofs.Clauses.{unit_none, unit_one, unit_more}
use Rattle.closure.proofs.Searches.{none_found, one_found}
use Rattle.closure.proofs.units.by_unit.Goals as goal

pub join-requires : goal.join-requires
join-requires c = ready_joins c.requires.by_index.1

pub returns-in_default : goal.returns-in_default
returns-in_default c = λ _ r. unit_none _ _ _ _ c.requires.starts.0 c.requires.starts.1 r _ c.in_default.ensures refl _ _ c.join.ensures

pub returns-then-is_some : goal.returns-then-is_some
returns-then-is_some c =
    let f = c.in-Some.ensures in
    let one = one_found (is_other c.args.codes.now c.args.old.now c.args.e 0) c.first_other-2.result (sym c.if-is_some.ensures) c.first_other-2.ensures in
    λ _ r. unit_more _ _ _ _ c.requires.starts.0 c.requires.starts.1 r _ _ f.1 f.0 one.2 one.1

pub join-requires-2 : goal.join-requires-2
join-requires-2 c = ready_joins c.requires.by_index.1

pub returns : goal.returns
returns c =
    let f = c.in-Some.ensures in
    let none = none_found (is_other c.args.codes.now c.args.old.now c.args.e 0) c.first_other-2.result (sym c.if-is_some.ensures) c.first_other-2.ensures in
    λ _ r. unit_one _ _ _ _ c.requires.starts.0 c.requires.starts.1 r _ _ f.1 f.0 none refl _ _ c.join-2.ensures
