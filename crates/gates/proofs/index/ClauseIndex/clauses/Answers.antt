use Rattle.clauses.proofs.Rows.{starts_first}
use Rattle.gates.proofs.ClauseChains.{start_is}
use Rattle.gates.proofs.index.ClauseIndex.clauses.Goals as goal

pub invariant_of-result : goal.invariant_of-result
invariant_of-result c = record { starts = λ h. start_is _ _ (starts_first _ h) }
