use mathlib.Core.Path.{◌≡◌, ◌∙◌}
use native.Mathlib.Omega.{arith}
use lib.ListN.{length}
use Rattle.std.proofs.Common.{rules}
use Rattle.clauses.proofs.Fills.{zero_at}
use Rattle.gates.proofs.Marked.{gates_found, gates_counted}
use Rattle.gates.proofs.Marking.{marking_none, marks_small}
use Rattle.gates.proofs.finder.mark_gates.Goals as goal

pub mark_clauses-requires-clause-marking : goal.mark_clauses-requires-clause-marking
mark_clauses-requires-clause-marking c =
    let ands : c.default-counts.result.ands ≡ 0 = search rules in
    let xors : c.default-counts.result.xors ≡ 0 = search rules in
    rw (ands, xors) (marking_none _ _ (λ q. rw (c.fill.ensures.after (λ y e. e)) (zero_at (length c.args.marks.now) q)))

pub mark_ites-requires-clause-marks_in_bounds : goal.mark_ites-requires-clause-marks_in_bounds
mark_ites-requires-clause-marks_in_bounds c =
    let clauses = c.mark_clauses in
    (omega (arith, clauses.auto.marks, c.fill.ensures.len, c.requires.marks_len), marks_small clauses.ensures.marking_2)

pub mark_ites-requires-clause-ites_value : goal.mark_ites-requires-clause-ites_value
mark_ites-requires-clause-ites_value c =
    let ites : c.default-counts.result.ites ≡ 0 = search rules in
    c.mark_clauses.ensures.ites_value ∙ ites

pub returns : goal.returns
returns c =
    let normal = c.args.list.now.normal in
    let clauses = c.mark_clauses in
    let sides = c.mark_ites.ensures in
    λ cs same. (
      gates_found normal clauses.ensures.marking_2 sides.sided c.mark_pairs.ensures same (clauses.auto.marks ∙ c.fill.ensures.len ∙ c.requires.marks_len),
      rw (sides.ands_value.0, sides.ands_value.1, sides.ites_value_2) (gates_counted normal clauses.ensures.marking_2 sides.sided c.mark_pairs.ensures same),
    )
