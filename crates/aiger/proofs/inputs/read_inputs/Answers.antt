use mathlib.Core.Path.{refl, sym, ◌∙◌}
use native.Mathlib.Omega.{arith}
use Rattle.aiger.proofs.InputLines.{listed_all, listed_missing, listed_room, listed_not_new, listed_new}
use Rattle.aiger.proofs.inputs.read_inputs.Goals as goal

pub returns-in_default : goal.returns-in_default
returns-in_default c =
    record { at = c.loop.at; lines_are = listed_missing c.args.header.nets c.args.text.now c.args.header.inputs c.args.header.lines c.loop.tree c.loop.at c.loop.counter c.loop.invariant c.loop-test.true (sym c.read_literal.ensures ∙ c.in_default.is); refusal_is = refl }

pub add_new-requires : goal.add_new-requires
add_new-requires c =
    omega (arith, c.requires.lines_in_bounds.1, listed_room c.args.header.nets c.args.text.now c.args.header.inputs c.args.header.lines c.loop.tree c.loop.at c.loop.counter c.loop.invariant c.loop-test.true _ (sym c.read_literal.ensures ∙ c.in-Some.is))

pub returns-then-not-add_new : goal.returns-then-not-add_new
returns-then-not-add_new c =
    record { at = c.loop.at; lines_are = listed_not_new c.args.header.nets c.args.text.now c.args.header.inputs c.args.header.lines c.loop.tree c.loop.at c.loop.counter c.loop.invariant c.loop-test.true _ (sym c.read_literal.ensures ∙ c.in-Some.is) (sym c.add_new.ensures.value ∙ c.if-not-add_new.true); refusal_is = refl }

pub loop-preserved : goal.loop-preserved
loop-preserved c =
    let new = c.if-not-add_new.ensures in
    rw new.after (listed_new c.args.header.nets c.args.text.now c.args.header.inputs c.args.header.lines c.loop.tree c.loop.at c.loop.counter c.loop.invariant c.loop-test.true _ (sym c.read_literal.ensures ∙ c.in-Some.is) (sym new.value))

pub returns : goal.returns
returns c =
    listed_all c.args.header.nets c.args.text.now c.args.header.inputs c.args.header.lines c.loop.tree c.loop.at c.loop.counter c.loop.invariant c.loop-test.false
