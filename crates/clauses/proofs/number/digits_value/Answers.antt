use native.Mathlib.Omega.{arith}
use Rattle.clauses.proofs.Digits.{digit_at, digits_end, digits_room, digits_start, digits_step}
use Rattle.clauses.proofs.number.digits_value.Goals as goal

pub loop-digit-init : goal.loop-digit-init
loop-digit-init c = digits_start _

pub overflow_mul-n : goal.overflow_mul-n
overflow_mul-n c = omega (arith, digits_room _ c.requires.0 c.requires.1 _ _ c.loop-digit.invariant c.loop-digit-test.true)

pub overflow_sub-digit : goal.overflow_sub-digit
overflow_sub-digit c = (digit_at _ c.requires.0 c.requires.1 _ _ c.loop-digit.invariant c.loop-digit-test.true).low

pub overflow_add-n : goal.overflow_add-n
overflow_add-n c =
    omega (arith, c.from.ensures, (digit_at _ c.requires.0 c.requires.1 _ _ c.loop-digit.invariant c.loop-digit-test.true).high, digits_room _ c.requires.0 c.requires.1 _ _ c.loop-digit.invariant c.loop-digit-test.true)

pub loop-digit-preserved : goal.loop-digit-preserved
loop-digit-preserved c = rw c.from.ensures (digits_step _ c.requires.0 c.requires.1 _ _ c.loop-digit.invariant c.loop-digit-test.true)

pub returns : goal.returns
returns c = digits_end _ _ _ c.loop-digit.invariant c.loop-digit-test.false
