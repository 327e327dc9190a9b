use mathlib.Core.Path.{◌≡◌, sym, ◌∙◌}
use Prim.Native.Nat.{◌+◌}
use native.Mathlib.Omega.{arith}
use Rattle.clauses.specs.Row.{Spans, start_of}
use Rattle.gates.proofs.ClauseKinds.{three_size, three_start, three_literal}
use Rattle.gates.proofs.ClauseParts.{clause_starts}
use Rattle.gates.proofs.Halves.{paired_by}
use Rattle.gates.proofs.Marks.{part_clause, end_inside}
use Rattle.gates.proofs.Queries.{nets_once, masked_once}
use Rattle.gates.proofs.clause.Clause.is_paired.Goals as goal

pub slice_bounds-literals-end : goal.slice_bounds-literals-end
slice_bounds-literals-end c =
    let clause = c.args.self.now in
    let spans : Spans clause.list.codes.now clause.start (clause.start + 3) = record { inside = omega (arith, clause.inside); is = omega (arith, three_size _ _ c.requires.kind) } in
    end_inside spans

pub others_mask-requires : goal.others_mask-requires
others_mask-requires c = let at = c.requires.literal_at in (at.low, omega (arith, at.high, three_size _ _ c.requires.kind))

pub is_present-requires : goal.is_present-requires
is_present-requires c =
    let clause = c.args.self.now in
    let spans : Spans clause.list.codes.now clause.start (clause.start + 3) = record { inside = omega (arith, clause.inside); is = omega (arith, three_size _ _ c.requires.kind) } in
    rw (part_clause spans) (masked_once _ _ (nets_once clause.list.normal _ (clause_starts clause)))

pub returns : goal.returns
returns c =
    let clause = c.args.self.now in
    let spans : Spans clause.list.codes.now clause.start (clause.start + 3) = record { inside = omega (arith, clause.inside); is = omega (arith, three_size _ _ c.requires.kind) } in
    let s : start_of clause.list.codes.now c.args.p ≡ clause.start = three_start clause.list.normal _ _ c.requires.literal_at in
    rw (part_clause spans, c.others_mask.ensures) at c.is_present.ensures ∙ sym (rw s at (paired_by _ _ (three_literal clause.list.normal _ _ c.requires.kind c.requires.literal_at)))
