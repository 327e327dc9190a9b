use mathlib.Core.Path.{◌≡◌, sym, ◌∙◌}
use mathlib.Core.Bool.{false, ◌||◌}
use Prim.Native.Nat.{◌<◌}
use native.Mathlib.Omega.{arith}
use lib.Dec.{eqb}
use lib.ListN.{length, get_or}
use Rattle.gates.proofs.LiteralPlaces.{goes_past, comes_to, past_inside}
use Rattle.gates.proofs.same.place_of.Goals as goal

pub loop-i-init : goal.loop-i-init
loop-i-init c = c.skip_blocks-i.ensures

pub overflow_add-i : goal.overflow_add-i
overflow_add-i c =
    let no_stop : (eqb (get_or c.args.codes.now c.loop-i.i 0) 0 || eqb (get_or c.args.codes.now c.loop-i.i 0) c.args.x) ≡ false = rw c.literal.ensures at (sym c.is_stop.ensures ∙ c.loop-i-test.true) in
    let inside : c.loop-i.i < length c.args.codes.now = past_inside c.args.codes.now c.args.x c.loop-i.i no_stop in
    omega (arith, inside, c.well_formed)

pub loop-i-smaller : goal.loop-i-smaller
loop-i-smaller c =
    let no_stop : (eqb (get_or c.args.codes.now c.loop-i.i 0) 0 || eqb (get_or c.args.codes.now c.loop-i.i 0) c.args.x) ≡ false = rw c.literal.ensures at (sym c.is_stop.ensures ∙ c.loop-i-test.true) in
    let inside : c.loop-i.i < length c.args.codes.now = past_inside c.args.codes.now c.args.x c.loop-i.i no_stop in
    omega (arith, inside)

pub loop-i-preserved : goal.loop-i-preserved
loop-i-preserved c =
    let no_stop : (eqb (get_or c.args.codes.now c.loop-i.i 0) 0 || eqb (get_or c.args.codes.now c.loop-i.i 0) c.args.x) ≡ false = rw c.literal.ensures at (sym c.is_stop.ensures ∙ c.loop-i-test.true) in
    goes_past _ _ _ no_stop _ c.loop-i.invariant

pub returns : goal.returns
returns c = comes_to _ _ _ (rw c.literal.ensures at (sym c.is_stop.ensures ∙ c.loop-i-test.false)) _ c.loop-i.invariant
