use mathlib.Core.Path.{sym, ◌∙◌}
use native.Mathlib.Omega.{arith}
use Rattle.gates.specs.Mark.{xor_at}
use Rattle.gates.proofs.ClauseParts.{clause_starts, clause_ends}
use Rattle.gates.proofs.HowMany.{many_le}
use Rattle.gates.proofs.Marking.{candidate_xor, marking_xor, marking_end}
use Rattle.gates.proofs.and.Candidate.mark_end.Goals as goal

pub bounds-marks-self : goal.bounds-marks-self
bounds-marks-self c = omega (arith, clause_ends c.args.self.now.clause, c.requires.marks_len)

pub add_xors-requires : goal.add_xors-requires
add_xors-requires c =
    let clause = c.args.self.now.clause in
    omega (arith, clause_ends clause, clause.list.normal.entries, c.requires.marking.xor-count, many_le (xor_at clause.list.codes.now) clause.end)

pub returns-then-is_xor-clause-marking_2 : goal.returns-then-is_xor-clause-marking_2
returns-then-is_xor-clause-marking_2 c =
    let clause = c.args.self.now.clause in
    rw c.add_xors.ensures (marking_xor c.requires.marking _ (clause_starts clause) clause.ends (clause_ends clause) (omega (arith, clause_ends clause, c.requires.marks_len)) (candidate_xor _ _ c.args.self.now.first ∙ sym c.is_xor.ensures ∙ c.if-is_xor.true))

pub returns-else-is_xor-clause-marking_2 : goal.returns-else-is_xor-clause-marking_2
returns-else-is_xor-clause-marking_2 c =
    let clause = c.args.self.now.clause in
    marking_end c.requires.marking _ (clause_starts clause) clause.ends (clause_ends clause) (candidate_xor _ _ c.args.self.now.first ∙ sym c.is_xor.ensures ∙ c.if-is_xor.false)
