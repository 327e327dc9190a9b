use mathlib.Core.Path.{◌∙◌}
use native.Mathlib.Omega.{arith}
use lib.ListN.{length-set}
use Rattle.gates.proofs.ClauseKinds.{kinds_more}
use Rattle.gates.proofs.ClauseParts.{Given, given}
use Rattle.gates.proofs.first.list_kinds.Goals as goal

pub loop-clause-preserved : goal.loop-clause-preserved
loop-clause-preserved c =
    let turn = c.loop-clause.invariant in
    let g : Given c.args.list.now c.in-Some.clause c.loop-clause.clause-iterator.start c.next.new.self.start = given c.args.list.now c.loop-clause.clause-iterator c.next.new.self c.in-Some.clause turn.1 c.in-Some.ensures.steps in (
      rw length-set turn.0,
      c.in-Some.ensures.steps.2 ∙ turn.1,
      omega (arith, g.next, g.inside),
      rw (g.next, g.start_is) (kinds_more _ _ g.starts turn.3 (rw (g.list_is, g.start_is) at c.kind.ensures)),
    )
