use mathlib.Core.Path.{sym, ◌∙◌}
use native.Mathlib.Omega.{arith}
use Rattle.gates.specs.Mark.{and_at}
use Rattle.gates.proofs.HowMany.{many_le}
use Rattle.gates.proofs.Marks.{literal_inside}
use Rattle.gates.proofs.Marking.{candidate_and, marking_and, marking_literal}
use Rattle.gates.proofs.and.Candidate.mark_literal.Goals as goal

pub add_ands-requires : goal.add_ands-requires
add_ands-requires c =
    let list = c.args.self.now.clause.list in
    omega (arith, literal_inside _ _ _ c.requires.literal_at, list.normal.entries, c.requires.marking.and-count, many_le (and_at list.codes.now) c.args.p)

pub returns-then-is_and-clause-marking_2 : goal.returns-then-is_and-clause-marking_2
returns-then-is_and-clause-marking_2 c =
    rw c.add_ands.ensures (marking_and c.requires.marking c.requires.literal_at (omega (arith, literal_inside _ _ _ c.requires.literal_at, c.requires.marks_len)) (candidate_and _ _ _ c.args.self.now.first ∙ sym c.is_and.ensures ∙ c.if-is_and.true))

pub returns-else-is_and-clause-marking_2 : goal.returns-else-is_and-clause-marking_2
returns-else-is_and-clause-marking_2 c =
    marking_literal c.requires.marking c.requires.literal_at (candidate_and _ _ _ c.args.self.now.first ∙ sym c.is_and.ensures ∙ c.if-is_and.false)
