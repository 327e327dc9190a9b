use Rattle.clauses.specs.Chains.{Chained}
use Rattle.closure.specs.Occurrences.{net_at}
use Rattle.closure.proofs.occurrences.index_row.Given as goal

abbrev pub invariant-loop-q : goal.invariant-loop-q
invariant-loop-q l = Chained (net_at l.codes) l.q l.occurs l.links
