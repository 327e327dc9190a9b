use mathlib.Core.Path.{refl, ◌∙◌}
use Prim.Native.Nat.{◌<◌}
use native.Mathlib.Omega.{arith}
use lib.ListN.{length}
use Rattle.gates.proofs.CountBounds.{kept_pairs_few}
use Rattle.gates.proofs.Halves.{place_inside}
use Rattle.gates.proofs.PlaceParts.{PlaceGiven, place_given}
use Rattle.gates.proofs.SideMarks.{sides_none, sides_then, sides_one, isFrom, from_begin, from_before, from_on, from_end}
use Rattle.gates.proofs.Sizes.{paired_at}
use Rattle.gates.proofs.ites.Halves.mark_places.Goals as goal

pub loop-p-init : goal.loop-p-init
loop-p-init c =
    let made = c.with-p-items.ensures in
    rw (c.into_iter-p-iterator.ensures.into_iter_gives, made.next)
    (made.places, made.literal, sides_none _ _ _ _ (from_begin _ _ _ (c.args.self.now.places.chained.head _ c.requires.x_in_bounds)), refl, refl)

pub sides_at-sides-requires-clause-p_value : goal.sides_at-sides-requires-clause-p_value
sides_at-sides-requires-clause-p_value c =
    let turn = c.loop-p.invariant in
    let halves = c.args.self.now in
    let row = halves.places.list.codes.now in
    let p = c.in-Some.p in
    let g : PlaceGiven halves.places c.args.x p c.loop-p.p-iterator.next c.next.new.self.next = place_given halves.places c.args.x p c.loop-p.p-iterator c.next.new.self turn.0 turn.1 c.in-Some.ensures.steps in
    (paired_at _ _ _ g.paired).0

pub sides_at-sides-requires-clause-literal : goal.sides_at-sides-requires-clause-literal
sides_at-sides-requires-clause-literal c =
    let turn = c.loop-p.invariant in
    let halves = c.args.self.now in
    let row = halves.places.list.codes.now in
    let p = c.in-Some.p in
    let g : PlaceGiven halves.places c.args.x p c.loop-p.p-iterator.next c.next.new.self.next = place_given halves.places c.args.x p c.loop-p.p-iterator c.next.new.self turn.0 turn.1 c.in-Some.ensures.steps in
    rw (paired_at _ _ _ g.paired).1 c.requires.literal

pub bounds-marks-p : goal.bounds-marks-p
bounds-marks-p c =
    let turn = c.loop-p.invariant in
    let halves = c.args.self.now in
    let row = halves.places.list.codes.now in
    let p = c.in-Some.p in
    let g : PlaceGiven halves.places c.args.x p c.loop-p.p-iterator.next c.next.new.self.next = place_given halves.places c.args.x p c.loop-p.p-iterator c.next.new.self turn.0 turn.1 c.in-Some.ensures.steps in
    omega (arith, place_inside _ _ (paired_at _ _ _ g.paired).0, turn.2.size, c.requires.marks_in_bounds.0)

pub overflow_add-marks : goal.overflow_add-marks
overflow_add-marks c =
    let turn = c.loop-p.invariant in
    let halves = c.args.self.now in
    let row = halves.places.list.codes.now in
    let p = c.in-Some.p in
    let g : PlaceGiven halves.places c.args.x p c.loop-p.p-iterator.next c.next.new.self.next = place_given halves.places c.args.x p c.loop-p.p-iterator c.next.new.self turn.0 turn.1 c.in-Some.ensures.steps in
    omega (arith, from_before _ _ _ (rw g.here at turn.2), c.requires.marks_in_bounds.1 p g.paired, c.sides_at-sides.ensures.mark_bound.0)

pub add_ites-requires : goal.add_ites-requires
add_ites-requires c =
    let list = c.args.self.now.places.list in
    omega (
      arith,
      c.loop-p.invariant.2.count,
      kept_pairs_few list.codes.now list.normal.entries (λ h. isFrom list.codes.now c.args.x c.loop-p.p-iterator.next h.place),
      c.requires.ites_bound,
      c.sides_at-sides.ensures.mark_bound.1,
    )

pub loop-p-preserved : goal.loop-p-preserved
loop-p-preserved c =
    let turn = c.loop-p.invariant in
    let halves = c.args.self.now in
    let row = halves.places.list.codes.now in
    let p = c.in-Some.p in
    let g : PlaceGiven halves.places c.args.x p c.loop-p.p-iterator.next c.next.new.self.next = place_given halves.places c.args.x p c.loop-p.p-iterator c.next.new.self turn.0 turn.1 c.in-Some.ensures.steps in
    let step = c.in-Some.ensures.steps in
    let here = c.sides_at-sides.ensures in
    let inside : p < length row = place_inside _ _ (paired_at _ _ _ g.paired).0 in
    rw c.add_ites.ensures (
      step.2 ∙ turn.0,
      step.3 ∙ turn.1,
      sides_then _ _ _ _ (from_on _ _ _ _ g.paired g.last) (rw g.here at turn.2) (sides_one _ p inside _ (omega (arith, inside, turn.2.size, c.requires.marks_in_bounds.0)) _ _ _ here.mark_value here.plain_value),
      turn.3,
      turn.4,
    )

pub returns-clause-sides_at : goal.returns-clause-sides_at
returns-clause-sides_at c = from_end _ _ _ (omega (arith, c.in-None.ensures.steps.0)) c.loop-p.invariant.2
