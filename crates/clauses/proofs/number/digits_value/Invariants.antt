use Rattle.clauses.proofs.Digits.{DigitsTo}
use Rattle.clauses.proofs.number.digits_value.Given as goal

abbrev pub invariant-loop-digit : goal.invariant-loop-digit
invariant-loop-digit l = DigitsTo l.digits l.n l.digit-index
