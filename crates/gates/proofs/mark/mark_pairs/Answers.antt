use mathlib.Core.Path.{sym, ◌∙◌}
use native.Mathlib.Omega.{arith}
use Rattle.gates.proofs.ClauseParts.{Given, given}
use Rattle.gates.proofs.Pairs.{pairing_pair, pairing_other}
use Rattle.gates.proofs.mark.mark_pairs.Goals as goal

pub bounds-marks-clause : goal.bounds-marks-clause
bounds-marks-clause c =
    let turn = c.loop-clause.invariant in
    let g : Given c.args.list.now c.in-Some.clause c.loop-clause.clause-iterator.start c.next.new.self.start = given c.args.list.now c.loop-clause.clause-iterator c.next.new.self c.in-Some.clause turn.0 c.in-Some.ensures.steps in
    omega (arith, g.ends, g.inside, turn.2.size, c.requires)

pub loop-clause-preserved-then-is_pair : goal.loop-clause-preserved-then-is_pair
loop-clause-preserved-then-is_pair c =
    let turn = c.loop-clause.invariant in
    let g : Given c.args.list.now c.in-Some.clause c.loop-clause.clause-iterator.start c.next.new.self.start = given c.args.list.now c.loop-clause.clause-iterator c.next.new.self c.in-Some.clause turn.0 c.in-Some.ensures.steps in (
      c.in-Some.ensures.steps.2 ∙ turn.0,
      omega (arith, g.next, g.inside),
      rw (g.next, g.ends) (pairing_pair g.starts g.inside turn.2 (omega (arith, g.inside, turn.2.size, c.requires)) (rw (g.list_is, g.start_is) at (sym c.is_pair.ensures ∙ c.if-is_pair.true))),
    )

pub loop-clause-preserved : goal.loop-clause-preserved
loop-clause-preserved c =
    let turn = c.loop-clause.invariant in
    let g : Given c.args.list.now c.in-Some.clause c.loop-clause.clause-iterator.start c.next.new.self.start = given c.args.list.now c.loop-clause.clause-iterator c.next.new.self c.in-Some.clause turn.0 c.in-Some.ensures.steps in (
      c.in-Some.ensures.steps.2 ∙ turn.0,
      omega (arith, g.next, g.inside),
      rw g.next (pairing_other g.starts g.inside turn.2 (rw (g.list_is, g.start_is) at (sym c.is_pair.ensures ∙ c.if-is_pair.false))),
    )
