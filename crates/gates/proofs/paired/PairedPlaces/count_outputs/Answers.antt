use mathlib.Core.Path.{refl, ◌∙◌}
use mathlib.Core.Bool.{true, false}
use native.Mathlib.Omega.{arith}
use Rattle.gates.proofs.Halves.{paired_in_three, other_small}
use Rattle.gates.proofs.PlaceParts.{PlaceGiven, place_given}
use Rattle.gates.proofs.Sizes.{paired_at, counting_begin, counting_few, added_few, counting_on, counting_end}
use Rattle.gates.proofs.paired.PairedPlaces.count_outputs.Goals as goal

pub loop-p-init : goal.loop-p-init
loop-p-init c =
    let made = c.with-p-items.ensures in
    rw (c.into_iter-p-iterator.ensures.into_iter_gives, made.next)
    (refl, refl, made.places, made.literal, counting_begin _ _ _ (c.args.self.now.chained.head _ c.requires.x_in_bounds) _ _ c.requires.by_index)

pub other_literals-y-requires : goal.other_literals-y-requires
other_literals-y-requires c =
    let turn = c.loop-p.invariant in
    let p = c.in-Some.p in
    let g : PlaceGiven c.args.self.now c.args.x p c.loop-p.p-iterator.next c.next.new.self.next = place_given c.args.self.now c.args.x p c.loop-p.p-iterator c.next.new.self turn.2 turn.3 c.in-Some.ensures.steps in
    paired_in_three _ _ (paired_at _ _ _ g.paired).0

pub add_half-requires-clause-y_in_bounds : goal.add_half-requires-clause-y_in_bounds
add_half-requires-clause-y_in_bounds c =
    let turn = c.loop-p.invariant in
    let z = other_small _ c.args.self.now.list.normal c.in-Some.p true in
    let e = c.other_literals-y.ensures.after in
    let fits = c.requires.max_code_in_bounds in
    (omega (arith, e, z, turn.0, fits.0), omega (arith, e, z, turn.1, fits.1))

pub add_half-requires-clause-y_bound : goal.add_half-requires-clause-y_bound
add_half-requires-clause-y_bound c =
    let turn = c.loop-p.invariant in
    let p = c.in-Some.p in
    let g : PlaceGiven c.args.self.now c.args.x p c.loop-p.p-iterator.next c.next.new.self.next = place_given c.args.self.now c.args.x p c.loop-p.p-iterator c.next.new.self turn.2 turn.3 c.in-Some.ensures.steps in
    omega (arith, counting_few _ _ _ _ _ turn.4 c.other_literals-y.result.1, c.args.self.now.list.normal.entries)

pub add_half-requires-in-loop-p-clause-y_in_bounds : goal.add_half-requires-in-loop-p-clause-y_in_bounds
add_half-requires-in-loop-p-clause-y_in_bounds c =
    let turn = c.loop-p.invariant in
    let y = other_small _ c.args.self.now.list.normal c.in-Some.p false in
    let e = c.other_literals-y.ensures.next in
    let fits = c.requires.max_code_in_bounds in
    (omega (arith, e, y, c.add_half.auto.sizes, turn.0, fits.0), omega (arith, e, y, c.add_half.auto.sides, turn.1, fits.1))

pub add_half-requires-in-loop-p-clause-y_bound : goal.add_half-requires-in-loop-p-clause-y_bound
add_half-requires-in-loop-p-clause-y_bound c =
    let turn = c.loop-p.invariant in
    let z = other_small _ c.args.self.now.list.normal c.in-Some.p true in
    rw c.add_half.ensures.sizes_after
    (omega (
      arith,
      added_few _ _ _ _ _ turn.4 c.other_literals-y.result.1 c.other_literals-y.result.0 (omega (arith, c.other_literals-y.ensures.after, z, turn.0, c.requires.max_code_in_bounds.0)),
      c.args.self.now.list.normal.entries,
    ))

pub loop-p-preserved : goal.loop-p-preserved
loop-p-preserved c =
    let turn = c.loop-p.invariant in
    let p = c.in-Some.p in
    let g : PlaceGiven c.args.self.now c.args.x p c.loop-p.p-iterator.next c.next.new.self.next = place_given c.args.self.now c.args.x p c.loop-p.p-iterator c.next.new.self turn.2 turn.3 c.in-Some.ensures.steps in
    let step = c.in-Some.ensures.steps in
    let y = other_small _ c.args.self.now.list.normal p false in
    let z = other_small _ c.args.self.now.list.normal p true in
    let here = c.other_literals-y.ensures in
    let fits = c.requires.max_code_in_bounds in
    let first = c.add_half in
    let second = c.add_half-in-loop-p in (
      second.auto.sizes ∙ first.auto.sizes ∙ turn.0,
      second.auto.sides ∙ first.auto.sides ∙ turn.1,
      step.2 ∙ turn.2,
      step.3 ∙ turn.3,
      counting_on _ _ _ _ g.paired g.last _ _ here.next here.after _ _ _ _ _ _ first.ensures.sizes_after second.ensures.sizes_after first.ensures.sides_after second.ensures.sides_after
          (omega (arith, here.after, z, turn.0, fits.0)) (omega (arith, here.next, y, turn.0, fits.0)) (omega (arith, here.after, z, turn.1, fits.1)) (omega (arith, here.next, y, turn.1, fits.1))
          (rw g.here at turn.4),
    )

pub returns : goal.returns
returns c = counting_end _ _ _ _ _ c.loop-p.invariant.4 (omega (arith, c.in-None.ensures.steps.0))
