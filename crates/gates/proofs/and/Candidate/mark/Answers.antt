use native.Mathlib.Omega.{arith}
use Rattle.gates.proofs.ClauseParts.{clause_literal}
use Rattle.gates.proofs.and.Candidate.mark.Goals as goal

pub mark_literal-requires-clause-literal_at : goal.mark_literal-requires-clause-literal_at
mark_literal-requires-clause-literal_at c = clause_literal c.args.self.now.clause _ (omega arith) (omega arith)
