use mathlib.Core.Path.{◌≡◌, refl, sym, ◌∙◌}
use mathlib.Core.Bool.{Bool, true, false, not, beq}
use native.Mathlib.Omega.{arith}
use Rattle.clauses.specs.Sign.{plus, is_inverse}
use Rattle.gates.proofs.Masks.{odd_end, odd_on}
use Rattle.gates.proofs.xor.is_mask_odd.Goals as goal

differ_plus : (a b : Bool) → not (beq a b) ≡ plus a b
differ_plus true true = refl
differ_plus true false = refl
differ_plus false true = refl
differ_plus false false = refl

pub loop-preserved : goal.loop-preserved
unfolding is_inverse
loop-preserved c = rw differ_plus (sym (odd_on c.args.clause.now c.loop.index c.loop.m c.loop.odd c.loop-test.true) ∙ c.loop.invariant)

pub returns : goal.returns
returns c = sym (odd_end c.args.clause.now c.loop.index c.loop.m c.loop.odd (omega arith)) ∙ c.loop.invariant
