use mathlib.Core.Path.{sym, ◌∙◌}
use native.Mathlib.Omega.{arith}
use Rattle.gates.proofs.LiteralPlaces.{place_within}
use Rattle.gates.proofs.same.place_near.Goals as goal

pub returns-then-literal-x : goal.returns-then-literal-x
returns-then-literal-x c =
    let start = c in
    place_within start.requires.b_le_next.0 start.requires.b_le_next.1 start.requires.le_x (sym c.literal.ensures ∙ c.if-literal-x.true)

pub returns-then-literal-x-2 : goal.returns-then-literal-x-2
returns-then-literal-x-2 c =
    let start = c in
    place_within (omega (arith, c.if-next-b-ge2.true, start.requires.b_le_next.0)) (omega (arith, start.requires.b_le_next.1)) start.requires.le_x (sym c.literal-then-next-b-ge2.ensures ∙ c.if-literal-x-2.true)
