use mathlib.Core.Path.{refl, sym, ◌∙◌}
use mathlib.Core.Logic.{◌≢◌}
use Prim.Native.Nat.{◌<◌}
use native.Mathlib.Omega.{arith}
use lib.ListN.{length, get_or}
use Rattle.clauses.proofs.Rows.{literal_within}
use Rattle.gates.proofs.Walks.{within_stop, within_out, within_on}
use Rattle.gates.proofs.LiteralPlaces.{place_some, place_none, place_next}
use Rattle.gates.proofs.same.is_within.Goals as goal
use Rattle.gates.specs.Search.{PlaceOf}

pub loop-a-init : goal.loop-a-init
loop-a-init c = (omega arith, omega arith, refl)

pub returns-then-x-eq0 : goal.returns-then-x-eq0
returns-then-x-eq0 c = sym (c.loop-a.invariant.2 ∙ within_stop _ c.loop-a.i _ (sym c.literal-x.ensures ∙ c.if-x-eq0.true))

pub place_near-p-requires : goal.place_near-p-requires
place_near-p-requires c = record { b_le_next = (c.loop-a.invariant.0, c.loop-a.invariant.1); le_x = omega (arith, c.if-x-eq0.false) }

pub returns-then-literal-eq0 : goal.returns-then-literal-eq0
returns-then-literal-eq0 c =
    let some : get_or c.args.codes.now c.loop-a.i 0 ≢ 0 = λ e. c.if-x-eq0.false (c.literal-x.ensures ∙ e) in
    sym (c.loop-a.invariant.2
    ∙ within_out _ c.loop-a.i _ some (place_none ((rw (← c.literal-x.ensures) c.place_near-p.ensures)) (sym c.literal.ensures ∙ c.if-literal-eq0.true)))

pub overflow_add-next : goal.overflow_add-next
overflow_add-next c =
    let there : get_or c.args.codes.now c.place_near-p.result 0 ≢ 0 = λ e. c.if-literal-eq0.false (c.literal.ensures ∙ e) in
    omega (arith, literal_within c.args.codes.now c.place_near-p.result there, c.well_formed)

pub overflow_add-i : goal.overflow_add-i
overflow_add-i c =
    let some : get_or c.args.codes.now c.loop-a.i 0 ≢ 0 = λ e. c.if-x-eq0.false (c.literal-x.ensures ∙ e) in
    let inside : c.loop-a.i < length c.args.codes.now = literal_within c.args.codes.now c.loop-a.i some in
    omega (arith, inside, c.well_formed)

pub loop-a-smaller : goal.loop-a-smaller
loop-a-smaller c =
    let some : get_or c.args.codes.now c.loop-a.i 0 ≢ 0 = λ e. c.if-x-eq0.false (c.literal-x.ensures ∙ e) in
    let inside : c.loop-a.i < length c.args.codes.now = literal_within c.args.codes.now c.loop-a.i some in
    omega (arith, inside)

pub loop-a-preserved : goal.loop-a-preserved
loop-a-preserved c =
    let some : get_or c.args.codes.now c.loop-a.i 0 ≢ 0 = λ e. c.if-x-eq0.false (c.literal-x.ensures ∙ e) in
    let there : get_or c.args.codes.now c.place_near-p.result 0 ≢ 0 = λ e. c.if-literal-eq0.false (c.literal.ensures ∙ e) in
    let f : PlaceOf c.args.codes.now c.args.b (get_or c.args.codes.now c.loop-a.i 0) c.place_near-p.result = rw (← c.literal-x.ensures) c.place_near-p.ensures in (
      omega (arith, f.low),
      place_next f there,
      c.loop-a.invariant.2
          ∙ within_on _ c.loop-a.i _ some (place_some f there),
    )
