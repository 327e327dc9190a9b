use mathlib.Core.Path.{sym, ◌∙◌}
use native.Mathlib.Omega.{arith}
use Rattle.aiger.proofs.AndLines.{scan_starts, scan_ends, scan_breaks, scan_ready, scan_room, scan_goes_on, scan_steps}
use Rattle.aiger.proofs.ands.scan_ands.Goals as goal
use Rattle.aiger.proofs.ands.scan_ands.Goals.{then-is_ok, else-is_ok}

pub loop-init : goal.loop-init
loop-init c = scan_starts c.args.header.nets c.args.text.now c.args.header.ands c.args.from c.args.tree.now c.args.entries.now c.requires.lines_in_bounds.0 c.requires.lines_in_bounds.1

pub returns-in_default : goal.returns-in_default
returns-in_default c = scan_breaks c.args.header.nets c.args.text.now c.args.header.ands c.args.from c.args.tree.now c.args.entries.now c.loop.outputs c.loop.tree c.loop.entries c.loop.at c.loop.counter c.loop.invariant c.loop-test.true (sym c.read_and.ensures ∙ c.in_default.is)

pub take_and-outputs-requires-clause-ready : goal.take_and-outputs-requires-clause-ready
take_and-outputs-requires-clause-ready c =
    scan_ready c.args.header.nets c.args.text.now c.args.header.ands c.args.from c.args.tree.now c.args.entries.now c.loop.outputs c.loop.tree c.loop.entries c.loop.at c.loop.counter c.loop.invariant c.loop-test.true _ (sym c.read_and.ensures ∙ c.in-Some.is) (sym c.if-is_ok.ensures.value) (omega arith) c.requires.none_made

pub take_and-outputs-requires-clause-room : goal.take_and-outputs-requires-clause-room
take_and-outputs-requires-clause-room c =
    omega (arith, c.requires.lines_in_bounds.2, scan_room c.args.header.nets c.args.text.now c.args.header.ands c.args.from c.args.tree.now c.args.entries.now c.loop.outputs c.loop.tree c.loop.entries c.loop.at c.loop.counter c.loop.invariant c.loop-test.true _ (sym c.read_and.ensures ∙ c.in-Some.is) (sym c.if-is_ok.ensures.value))

pub loop-preserved : goal.loop-preserved
loop-preserved c =
    elim c.if-is_ok.branch [
      | then-is_ok w ↦ rw (w.outputs-is, w.tree-is, w.entries-is) (scan_steps c.args.header.nets c.args.text.now c.args.header.ands c.args.from c.args.tree.now c.args.entries.now c.loop.outputs c.loop.tree c.loop.entries c.loop.at c.loop.counter c.loop.invariant c.loop-test.true _ (sym c.read_and.ensures ∙ c.in-Some.is) (sym c.is_ok.ensures.value ∙ w.if-is_ok.true) _ _ _ w.take_and-outputs.ensures)
      | else-is_ok w ↦ rw (w.outputs-is, w.tree-is, w.entries-is) (scan_goes_on c.args.header.nets c.args.text.now c.args.header.ands c.args.from c.args.tree.now c.args.entries.now c.loop.outputs c.loop.tree c.loop.entries c.loop.at c.loop.counter c.loop.invariant c.loop-test.true _ (sym c.read_and.ensures ∙ c.in-Some.is) (sym c.is_ok.ensures.value ∙ w.if-is_ok.false))
    ]

pub returns : goal.returns
returns c = scan_ends c.args.header.nets c.args.text.now c.args.header.ands c.args.from c.args.tree.now c.args.entries.now c.loop.outputs c.loop.tree c.loop.entries c.loop.at c.loop.counter c.loop.invariant c.loop-test.false
