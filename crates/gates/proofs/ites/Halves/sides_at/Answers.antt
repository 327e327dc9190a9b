use mathlib.Core.Path.{◌∙◌}
use mathlib.Core.Bool.{false, true}
use native.Mathlib.Omega.{arith}
use Rattle.gates.proofs.Halves.{paired_in_three, place_inside, other_small, mark_by, pairs_by}
use Rattle.gates.proofs.ItesListed.{apart_nets}
use Rattle.gates.proofs.Sides.{half_side}
use Rattle.gates.proofs.MateCounts.{PlaceMates, place_mates}
use Rattle.gates.proofs.ites.Halves.sides_at.Goals as goal

pub offset_bounds-codes-p : goal.offset_bounds-codes-p
offset_bounds-codes-p c = omega (arith, place_inside _ _ c.requires.p_value, c.args.self.now.places.list.normal.entries)

pub bounds-codes-p : goal.bounds-codes-p
bounds-codes-p c = place_inside _ _ c.requires.p_value

pub other_literals-y-requires : goal.other_literals-y-requires
other_literals-y-requires c = paired_in_three _ _ c.requires.p_value

pub one_inverse-inverses-requires-clause-y_in_bounds : goal.one_inverse-inverses-requires-clause-y_in_bounds
one_inverse-inverses-requires-clause-y_in_bounds c =
    let halves = c.args.self.now in
    let y = other_small _ halves.places.list.normal c.args.p false in
    let e = c.other_literals-y.ensures.next in
    (omega (arith, e, y, halves.max_code_in_bounds.0), omega (arith, e, y, halves.max_code_in_bounds.1))

pub one_inverse-inverses-requires-clause-nets : goal.one_inverse-inverses-requires-clause-nets
one_inverse-inverses-requires-clause-nets c =
    let s = half_side c.args.self.now.places.list.normal _ c.requires.p_value false in
    let f = apart_nets s.apart in
    rw (c.requires.literal, c.other_literals-y.ensures.next, c.other_literals-y.ensures.after) (λ e. f.cl (omega arith), λ e. f.tc (omega arith), λ e. f.tl (omega arith))

pub bounds-self-y : goal.bounds-self-y
bounds-self-y c =
    let halves = c.args.self.now in
    omega (arith, c.other_literals-y.ensures.next, other_small _ halves.places.list.normal c.args.p false, halves.max_code_in_bounds.0)

pub overflow_sub-n : goal.overflow_sub-n
overflow_sub-n c =
    let halves = c.args.self.now in
    let row = halves.places.list.codes.now in
    let m : PlaceMates row halves.sizes.now halves.literal c.other_literals-y.result.0 c.other_literals-y.result.1 c.one_inverse-inverses.result = place_mates halves.places.list.normal halves.sized c.one_inverse-inverses.ensures in
    m.next_least

pub bounds-self-z : goal.bounds-self-z
bounds-self-z c =
    let halves = c.args.self.now in
    omega (arith, c.other_literals-y.ensures.after, other_small _ halves.places.list.normal c.args.p true, halves.max_code_in_bounds.0)

pub overflow_sub-m : goal.overflow_sub-m
overflow_sub-m c =
    let halves = c.args.self.now in
    let row = halves.places.list.codes.now in
    let m : PlaceMates row halves.sizes.now halves.literal c.other_literals-y.result.0 c.other_literals-y.result.1 c.one_inverse-inverses.result = place_mates halves.places.list.normal halves.sized c.one_inverse-inverses.ensures in
    m.after_least

pub overflow_add-result : goal.overflow_add-result
overflow_add-result c =
    let halves = c.args.self.now in
    let row = halves.places.list.codes.now in
    let m : PlaceMates row halves.sizes.now halves.literal c.other_literals-y.result.0 c.other_literals-y.result.1 c.one_inverse-inverses.result = place_mates halves.places.list.normal halves.sized c.one_inverse-inverses.ensures in
    omega (arith, c.if_plain.ensures.upper_bound, c.if_plain-2.ensures.upper_bound, m.next_most, m.after_most)

pub returns-clause-mark_value : goal.returns-clause-mark_value
returns-clause-mark_value c =
    let halves = c.args.self.now in
    let row = halves.places.list.codes.now in
    let m : PlaceMates row halves.sizes.now halves.literal c.other_literals-y.result.0 c.other_literals-y.result.1 c.one_inverse-inverses.result = place_mates halves.places.list.normal halves.sized c.one_inverse-inverses.ensures in
    let others = c.other_literals-y.ensures in
    c.side_mark.ensures.value ∙ mark_by _ _ _ _ c.requires.p_value others.next others.after _ _ (rw c.requires.literal at m.next) (rw c.requires.literal at m.after)

pub returns-clause-plain_value : goal.returns-clause-plain_value
returns-clause-plain_value c =
    let halves = c.args.self.now in
    let row = halves.places.list.codes.now in
    let m : PlaceMates row halves.sizes.now halves.literal c.other_literals-y.result.0 c.other_literals-y.result.1 c.one_inverse-inverses.result = place_mates halves.places.list.normal halves.sized c.one_inverse-inverses.ensures in
    let others = c.other_literals-y.ensures in
    rw (c.if_plain.ensures.value, c.if_plain-2.ensures.value) (pairs_by _ _ _ _ c.requires.p_value others.next others.after _ _ (rw c.requires.literal at m.next) (rw c.requires.literal at m.after))

pub returns-clause-mark_bound : goal.returns-clause-mark_bound
returns-clause-mark_bound c =
    let halves = c.args.self.now in
    let row = halves.places.list.codes.now in
    let m : PlaceMates row halves.sizes.now halves.literal c.other_literals-y.result.0 c.other_literals-y.result.1 c.one_inverse-inverses.result = place_mates halves.places.list.normal halves.sized c.one_inverse-inverses.ensures in
    (c.side_mark.ensures.upper_bound, omega (arith, c.if_plain.ensures.upper_bound, c.if_plain-2.ensures.upper_bound, m.next_most, m.after_most))
