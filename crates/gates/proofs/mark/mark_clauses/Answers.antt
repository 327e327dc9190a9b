use mathlib.Core.Path.{◌≡◌, sym, ◌∙◌}
use mathlib.Core.Logic.{◌≢◌}
use native.Mathlib.Omega.{arith}
use lib.ListN.{get_or}
use Rattle.std.proofs.Common.{rules}
use Rattle.gates.specs.declared.kind.Kind.TheVariants.{Other}
use Rattle.gates.proofs.ClauseKinds.{kind_other, kind_candidate}
use Rattle.gates.proofs.ClauseParts.{Given, given}
use Rattle.gates.proofs.Marking.{marking_clause}
use Rattle.gates.proofs.mark.mark_clauses.Goals as goal

pub bounds-kinds-clause : goal.bounds-kinds-clause
bounds-kinds-clause c =
    let turn = c.loop-clause.invariant in
    let b = c.loop-clause.clause-iterator.start in
    let g : Given c.args.kinds.now.list c.in-Some.clause b c.next.new.self.start = given c.args.kinds.now.list c.loop-clause.clause-iterator c.next.new.self c.in-Some.clause turn.1 c.in-Some.ensures.steps in
    omega (arith, g.start_is, g.starts.inside, c.args.kinds.now.listed.room)

pub invariant_of-candidate : goal.invariant_of-candidate
invariant_of-candidate c =
    let turn = c.loop-clause.invariant in
    let b = c.loop-clause.clause-iterator.start in
    let g : Given c.args.kinds.now.list c.in-Some.clause b c.next.new.self.start = given c.args.kinds.now.list c.loop-clause.clause-iterator c.next.new.self c.in-Some.clause turn.1 c.in-Some.ensures.steps in
    let kind : get_or c.args.kinds.now.kinds.now c.in-Some.clause.start Other ≢ Other = search rules in
    rw (g.list_is, g.start_is)
    (record { first = kind_candidate _ _ (λ h. kind (rw g.start_is (c.args.kinds.now.listed.at _ g.starts.inside g.starts ∙ h))); listed = c.requires.twos })

pub mark-requires : goal.mark-requires
mark-requires c =
    let turn = c.loop-clause.invariant in
    let b = c.loop-clause.clause-iterator.start in
    let g : Given c.args.kinds.now.list c.in-Some.clause b c.next.new.self.start = given c.args.kinds.now.list c.loop-clause.clause-iterator c.next.new.self c.in-Some.clause turn.1 c.in-Some.ensures.steps in
    rw (g.list_is, g.start_is) (record { marks_len = turn.0 ∙ c.requires.marks_len; marking = turn.3 })

pub loop-clause-preserved-then-ne : goal.loop-clause-preserved-then-ne
loop-clause-preserved-then-ne c =
    let turn = c.loop-clause.invariant in
    let b = c.loop-clause.clause-iterator.start in
    let g : Given c.args.kinds.now.list c.in-Some.clause b c.next.new.self.start = given c.args.kinds.now.list c.loop-clause.clause-iterator c.next.new.self c.in-Some.clause turn.1 c.in-Some.ensures.steps in (
      c.mark.auto.marks ∙ turn.0,
      c.in-Some.ensures.steps.2 ∙ turn.1,
      omega (arith, g.next, g.inside),
      rw (g.next, ← g.ends, ← g.list_is) c.mark.ensures.marking_2,
      c.mark.ensures.ites_value ∙ turn.4,
    )

pub loop-clause-preserved : goal.loop-clause-preserved
loop-clause-preserved c =
    let turn = c.loop-clause.invariant in
    let b = c.loop-clause.clause-iterator.start in
    let g : Given c.args.kinds.now.list c.in-Some.clause b c.next.new.self.start = given c.args.kinds.now.list c.loop-clause.clause-iterator c.next.new.self c.in-Some.clause turn.1 c.in-Some.ensures.steps in
    let kind : get_or c.args.kinds.now.kinds.now c.in-Some.clause.start Other ≡ Other = search rules in (
      turn.0,
      c.in-Some.ensures.steps.2 ∙ turn.1,
      omega (arith, g.next, g.inside),
      rw g.next (marking_clause g.starts (kind_other _ _ (sym (c.args.kinds.now.listed.at _ g.starts.inside g.starts) ∙ rw g.start_is at kind)) turn.3 g.inside),
      turn.4,
    )
