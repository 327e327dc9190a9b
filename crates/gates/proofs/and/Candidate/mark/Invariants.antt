use mathlib.Core.Path.{◌≡◌}
use lib.ListN.{length}
use Rattle.gates.specs.Mark.{Marking}
use Rattle.gates.proofs.and.Candidate.mark.Given as goal

abbrev pub invariant-loop-p : goal.invariant-loop-p
invariant-loop-p l =
    (length l.marks ≡ length l.initial.marks) × Marking l.self.clause.list.codes.now l.marks l.p l.counts.ands l.counts.xors × (l.counts.ites ≡ l.initial.counts.ites)
