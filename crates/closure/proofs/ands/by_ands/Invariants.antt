use Rattle.std.proofs.Common.{ℕ, ◌<◌, get_or}
use Rattle.closure.specs.Holding.{Blank}
use Rattle.closure.specs.Marked.{Went}
use Rattle.closure.proofs.AndOutputs.{AllAnds}
use Rattle.closure.proofs.ands.by_ands.Given as goal

abbrev pub invariant-loop-start : goal.invariant-loop-start
invariant-loop-start l = Went l.codes l.marks l.old l.initial.new l.initial.t l.new l.t × ((j : ℕ) → j < l.start-index → AllAnds l.codes l.marks l.old l.new l.t (get_or l.list j 0)) × Blank l.held
