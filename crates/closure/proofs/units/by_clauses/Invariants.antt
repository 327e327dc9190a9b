use Rattle.std.proofs.Common.{ℕ, ◌<◌, get_or}
use Rattle.closure.specs.Passing.{ClauseJoined}
use Rattle.closure.specs.Marked.{Went}
use Rattle.closure.proofs.units.by_clauses.Given as goal

abbrev pub invariant-loop-start : goal.invariant-loop-start
invariant-loop-start l = Went l.codes l.marks l.old l.initial.new l.initial.t l.new l.t × ((j : ℕ) → j < l.start-index → ClauseJoined l.codes l.marks l.old l.new l.t (get_or l.list j 0))
