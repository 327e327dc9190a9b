use mathlib.Core.Path.{refl, ◌∙◌}
use mathlib.Core.Bool.{true, false}
use native.Mathlib.Omega.{arith}
use lib.ListN.{length-set}
use Rattle.gates.proofs.Halves.{paired_in_three, other_small}
use Rattle.gates.proofs.PlaceParts.{PlaceGiven, place_given}
use Rattle.gates.proofs.Sizes.{paired_at, clearing_begin, clearing_on, clearing_end}
use Rattle.gates.proofs.paired.PairedPlaces.clear_outputs.Goals as goal

pub loop-p-init : goal.loop-p-init
loop-p-init c =
    let made = c.with-p-items.ensures in
    rw (c.into_iter-p-iterator.ensures.into_iter_gives, made.next)
    (refl, made.places, made.literal, clearing_begin _ _ _ (c.args.self.now.chained.head _ c.requires.x_in_bounds) _ c.requires.by_index)

pub other_literals-y-requires : goal.other_literals-y-requires
other_literals-y-requires c =
    let turn = c.loop-p.invariant in
    let p = c.in-Some.p in
    let g : PlaceGiven c.args.self.now c.args.x p c.loop-p.p-iterator.next c.next.new.self.next = place_given c.args.self.now c.args.x p c.loop-p.p-iterator c.next.new.self turn.1 turn.2 c.in-Some.ensures.steps in
    paired_in_three _ _ (paired_at _ _ _ g.paired).0

pub bounds-sizes-z : goal.bounds-sizes-z
bounds-sizes-z c =
    let z = other_small _ c.args.self.now.list.normal c.in-Some.p true in
    omega (arith, c.other_literals-y.ensures.after, z, c.loop-p.invariant.0, c.requires.max_code_in_bounds)

pub bounds-sizes-y : goal.bounds-sizes-y
bounds-sizes-y c =
    let y = other_small _ c.args.self.now.list.normal c.in-Some.p false in
    rw length-set (omega (arith, c.other_literals-y.ensures.next, y, c.loop-p.invariant.0, c.requires.max_code_in_bounds))

pub loop-p-preserved : goal.loop-p-preserved
loop-p-preserved c =
    let turn = c.loop-p.invariant in
    let p = c.in-Some.p in
    let g : PlaceGiven c.args.self.now c.args.x p c.loop-p.p-iterator.next c.next.new.self.next = place_given c.args.self.now c.args.x p c.loop-p.p-iterator c.next.new.self turn.1 turn.2 c.in-Some.ensures.steps in
    let step = c.in-Some.ensures.steps in
    let y = other_small _ c.args.self.now.list.normal p false in
    let z = other_small _ c.args.self.now.list.normal p true in
    let here = c.other_literals-y.ensures in
    let fits = c.requires.max_code_in_bounds in (
      rw (length-set, length-set) turn.0,
      step.2 ∙ turn.1,
      step.3 ∙ turn.2,
      clearing_on _ _ _ _ g.paired g.last _ _ here.next here.after _ (rw g.here at turn.3) (omega (arith, here.next, y, turn.0, fits)) (omega (arith, here.after, z, turn.0, fits)),
    )

pub returns : goal.returns
returns c = clearing_end _ _ _ _ c.loop-p.invariant.3 (omega (arith, c.in-None.ensures.steps.0))
