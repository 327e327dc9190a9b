use Rattle.std.proofs.Common.{refl}
use Rattle.closure.specs.Passing.{lead_at, is_other}
use Rattle.closure.proofs.AndOutputs.{and_true, and_one, and_clash, and_none}
use Rattle.closure.proofs.AndSets.{at_output, end_is}
use Rattle.closure.proofs.Going.{ready_joins}
use Rattle.closure.proofs.Searches.{none_found, one_found}
use Rattle.closure.proofs.ands.by_and.Goals as goal

pub join-requires : goal.join-requires
join-requires c = ready_joins c.requires.by_index.1

pub returns-in_default-clause-and : goal.returns-in_default-clause-and
returns-in_default-clause-and c =
    let i = c.args.inputs.now in
    λ marks r m. and_true i.codes.now marks i.old.now i.start i.end i.output (end_is i.clause) (at_output i.clause) m r i.end c.in_default.ensures refl _ _ c.join.ensures

pub join-requires-then-is_none : goal.join-requires-then-is_none
join-requires-then-is_none c = ready_joins c.requires.by_index.1

pub returns-then-is_none-clause-and : goal.returns-then-is_none-clause-and
returns-then-is_none-clause-and c =
    let i = c.args.inputs.now in
    let f = c.in-Some.ensures in
    let none = none_found (is_other i.codes.now i.old.now i.output (lead_at i.codes.now i.old.now c.in-Some.q)) c.first_other-2.result c.if-is_none.ensures (rw c.lead_of.ensures at c.first_other-2.ensures) in
    λ marks r m.
    and_one i.codes.now marks i.old.now i.start i.end i.output (end_is i.clause) (at_output i.clause) m r
    _ f.1 f.0 _ none refl _ c.inverse.ensures _ _ c.join-then-is_none.ensures

pub join-requires-then-has_clash : goal.join-requires-then-has_clash
join-requires-then-has_clash c = ready_joins c.requires.by_index.1

pub returns-then-has_clash-clause-and : goal.returns-then-has_clash-clause-and
returns-then-has_clash-clause-and c =
    let i = c.args.inputs.now in
    let f = c.in-Some.ensures in
    let one = one_found (is_other i.codes.now i.old.now i.output (lead_at i.codes.now i.old.now c.in-Some.q)) c.first_other-2.result c.if-is_none.ensures (rw c.lead_of.ensures at c.first_other-2.ensures) in
    λ marks r m.
    and_clash i.codes.now marks i.old.now i.start i.end i.output (end_is i.clause) (at_output i.clause) m r
    _ f.1 f.0 one.0 one.2 one.1 c.if-has_clash.ensures.told _ _ c.join-then-has_clash.ensures

pub returns-clause-and : goal.returns-clause-and
returns-clause-and c =
    let i = c.args.inputs.now in
    let f = c.in-Some.ensures in
    let one = one_found (is_other i.codes.now i.old.now i.output (lead_at i.codes.now i.old.now c.in-Some.q)) c.first_other-2.result c.if-is_none.ensures (rw c.lead_of.ensures at c.first_other-2.ensures) in
    λ marks r m.
    and_none i.codes.now marks i.old.now i.start i.end i.output (end_is i.clause) (at_output i.clause) m r _ f.1 f.0 one.0 one.2 one.1 c.if-has_clash.ensures.told
