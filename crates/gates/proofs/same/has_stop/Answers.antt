use mathlib.Core.Path.{◌≡◌, sym, ◌∙◌}
use mathlib.Core.Bool.{true≢false}
use Prim.Native.Nat.{◌+◌, ◌-◌}
use native.Mathlib.Omega.{arith}
use lib.ListN.{length, get_or, take, drop, length-drop}
use lib.Seq.{length-take-le}
use Rattle.std.proofs.lemmas.List.{get_or-take, get_or-drop}
use Rattle.gates.proofs.LiteralPlaces.{goes_past}
use Rattle.gates.proofs.same.has_stop.Goals as goal
use Rattle.gates.proofs.same.has_stop.Goals.{then-is_stop, else-is_stop}

pub loop-y-init : goal.loop-y-init
loop-y-init c = λ e p f. let z : c.args.b + 0 ≡ c.args.b = omega arith in rw z at f

pub loop-y-preserved : goal.loop-y-preserved
loop-y-preserved c =
    let row = c.args.codes.now in
    let i = c.loop-y.y-index in
    let size : length (take (c.args.end - c.args.b) (drop c.args.b row)) ≡ c.args.end - c.args.b = length-take-le _ _ (omega (arith, length-drop c.args.b row)) in
    let z : c.args.b + (i + 1) ≡ c.args.b + i + 1 = omega arith in
    let at : get_or (take (c.args.end - c.args.b) (drop c.args.b row)) i 0 ≡ get_or row (c.args.b + i) 0 = get_or-take _ (drop c.args.b row) i 0 (omega arith) ∙ get_or-drop c.args.b row i 0 in
    elim c.if-is_stop.branch [
      | then-is_stop w ↦ λ e. absurd (true≢false (sym w.found-is ∙ e))
      | else-is_stop w ↦ λ e. rw z (goes_past _ _ _ (rw at at (sym c.is_stop.ensures ∙ w.if-is_stop.false)) _ (c.loop-y.invariant (sym w.found-is ∙ e)))
    ]

pub returns : goal.returns
returns c = λ e p f.
    let row = c.args.codes.now in
    let size : length (take (c.args.end - c.args.b) (drop c.args.b row)) ≡ c.args.end - c.args.b = length-take-le _ _ (omega (arith, length-drop c.args.b row)) in
    let z : c.args.b + c.loop-y.y-index ≡ c.args.end = omega arith in
    c.loop-y.invariant e p (rw z f)
