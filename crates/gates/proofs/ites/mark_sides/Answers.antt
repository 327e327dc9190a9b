use mathlib.Core.Path.{refl, ◌∙◌}
use native.Mathlib.Omega.{arith}
use Rattle.clauses.proofs.Fills.{zero_at}
use Rattle.gates.proofs.SideMarks.{sides_none, sides_then, sides_end, isBelow, below_begin, below_before, below_on, below_end}
use Rattle.gates.proofs.CountBounds.{kept_pairs_few}
use Rattle.gates.proofs.ites.mark_sides.Goals as goal

pub loop-x-init : goal.loop-x-init
loop-x-init c = (refl, refl, zero_at 2050, rw c.requires.ites_value (sides_none _ _ _ _ (below_begin _)), refl, refl)

pub mark_places-requires-clause-marks_in_bounds : goal.mark_places-requires-clause-marks_in_bounds
mark_places-requires-clause-marks_in_bounds c =
    let turn = c.loop-x.invariant in
    (omega (arith, turn.3.size, c.requires.marks_in_bounds.0), λ p t. omega (arith, below_before _ _ p t turn.3, c.requires.marks_in_bounds.1 p))

pub mark_places-requires-clause-ites_bound : goal.mark_places-requires-clause-ites_bound
mark_places-requires-clause-ites_bound c =
    let list = c.args.places.now.list in
    omega (arith, c.loop-x.invariant.3.count, kept_pairs_few list.codes.now list.normal.entries (λ h. isBelow list.codes.now c.loop-x.x h.place))

pub loop-x-preserved : goal.loop-x-preserved
loop-x-preserved c =
    let turn = c.loop-x.invariant in
    let counted = c.count_outputs in
    let marked = c.mark_places.ensures in (
      c.clear_outputs.auto.sizes ∙ counted.auto.sizes ∙ turn.0,
      counted.auto.sides ∙ turn.1,
      c.clear_outputs.ensures,
      sides_then _ _ _ _ (below_on _ c.loop-x.x) turn.3 marked.sides_at,
      marked.ands_value.0 ∙ turn.4,
      marked.ands_value.1 ∙ turn.5,
    )

pub returns-clause-ites_value_2 : goal.returns-clause-ites_value_2
returns-clause-ites_value_2 c =
    let places = c.args.places.now in
    (sides_end _ _ (below_end _ places.list.normal c.loop-x.x (omega (arith, c.loop-x-test.false, places.room.literals))) _ _ _ c.loop-x.invariant.3).0

pub returns-clause-sided : goal.returns-clause-sided
returns-clause-sided c =
    let places = c.args.places.now in
    (sides_end _ _ (below_end _ places.list.normal c.loop-x.x (omega (arith, c.loop-x-test.false, places.room.literals))) _ _ _ c.loop-x.invariant.3).1
