use Rattle.gates.proofs.ClauseParts.{clause_spans}
use Rattle.gates.proofs.Marks.{part_clause, end_inside}
use Rattle.gates.proofs.clause.Clause.literals.Goals as goal

pub slice_bounds-result-end : goal.slice_bounds-result-end
slice_bounds-result-end c = end_inside (clause_spans c.args.self.now)

pub returns : goal.returns
returns c = part_clause (clause_spans c.args.self.now)
