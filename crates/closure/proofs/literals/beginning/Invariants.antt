use Rattle.std.proofs.Common.{◌≡◌}
use Rattle.clauses.specs.Row.{start_of}
use Rattle.closure.proofs.literals.beginning.Given as goal

abbrev pub invariant-loop-q : goal.invariant-loop-q
invariant-loop-q l = start_of l.codes l.p ≡ start_of l.codes l.q
