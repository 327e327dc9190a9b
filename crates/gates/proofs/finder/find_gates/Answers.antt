use mathlib.Core.Path.{◌≡◌, sym, ◌∙◌, ap}
use Prim.Native.Nat.{ℕ, ◌≤◌}
use native.Mathlib.Omega.{arith}
use lib.Seq.{length-take-le, take_at, drop_at}
use lib.ListN.{length, take, drop, length-replicate}
use Rattle.clauses.specs.Clause.{clauses_of}
use Rattle.gates.specs.Normal.{normal_row}
use Rattle.gates.proofs.NormalForm.{normal_length, normal-row, normal_present}
use Rattle.gates.proofs.finder.find_gates.Goals as goal

pub prepare-n-requires : goal.prepare-n-requires
prepare-n-requires c =
    record { row_len_bound = c.requires.row_len_bound; row_in_bounds = c.requires.row_in_bounds; row_in_bounds_2 = omega (arith, c.requires.row_len_bound, length-replicate {A = ℕ} 32768 0); max_code_in_bounds = omega (arith, length-replicate {A = ℕ} 2050 0); small_entries = c.requires.small_entries; row_value = c.requires.row_value }

pub invariant_of-list : goal.invariant_of-list
invariant_of-list c =
    let row = c.args.row.now in
    let part : take c.prepare-n.result c.prepare-n.new.codes ≡ normal_row row = ap (λ (n : ℕ). take n c.prepare-n.new.codes) c.prepare-n.ensures.value ∙ c.prepare-n.ensures.codes_after in
    rw part (record { normal = normal-row row c.requires.row_len_bound c.requires.small_entries c.requires.row_value; indexed = c.prepare-n.ensures.indexed })

pub slice_bounds-mark_gates-end-2 : goal.slice_bounds-mark_gates-end-2
slice_bounds-mark_gates-end-2 c =
    let fits : c.prepare-n.result ≤ length c.args.row.now = omega (arith, c.prepare-n.ensures.value, normal_length c.args.row.now c.requires.row_value) in
    omega (arith, fits, c.requires.row_in_bounds_2)

pub slice_bounds-mark_gates-end-3 : goal.slice_bounds-mark_gates-end-3
slice_bounds-mark_gates-end-3 c =
    let fits : c.prepare-n.result ≤ length c.args.row.now = omega (arith, c.prepare-n.ensures.value, normal_length c.args.row.now c.requires.row_value) in
    sym (length-take-le _ _ (omega (arith, fits, c.requires.row_in_bounds_2)))

pub mark_gates-counts-requires : goal.mark_gates-counts-requires
mark_gates-counts-requires c =
    let fits : c.prepare-n.result ≤ length c.args.row.now = omega (arith, c.prepare-n.ensures.value, normal_length c.args.row.now c.requires.row_value) in
    let part : take c.prepare-n.result c.prepare-n.new.codes ≡ normal_row c.args.row.now = ap (λ (n : ℕ). take n c.prepare-n.new.codes) c.prepare-n.ensures.value ∙ c.prepare-n.ensures.codes_after in
    rw part (record {
      max_code_in_bounds = omega (arith, c.prepare-n.auto.seen, length-replicate {A = ℕ} 2050 0);
      marks_len = length-take-le _ _ (omega (arith, fits, c.requires.row_in_bounds_2)) ∙ c.prepare-n.ensures.value;
    })

pub returns : goal.returns
returns c =
    let fits : c.prepare-n.result ≤ length c.args.row.now = omega (arith, c.prepare-n.ensures.value, normal_length c.args.row.now c.requires.row_value) in
    let part : take c.prepare-n.result c.prepare-n.new.codes ≡ normal_row c.args.row.now = ap (λ (n : ℕ). take n c.prepare-n.new.codes) c.prepare-n.ensures.value ∙ c.prepare-n.ensures.codes_after in
    let start = c in let row = start.args.row.now in let n = c.prepare-n.ensures.value in let size = c.mark_gates-counts.auto.marks ∙ length-take-le _ _ (omega (arith, fits, start.requires.row_in_bounds_2)) ∙ n in let found = (rw part at c.mark_gates-counts.ensures) (clauses_of row) (normal_present row) in record { entries_value = n; codes_after = c.prepare-n.ensures.codes_after; found = rw (take_at _ _ (length (normal_row row)) size) found.0; marks_unchanged = drop_at c.mark_gates-counts.new.marks _ (length (normal_row row)) size ∙ ap (λ (k : ℕ). drop k start.args.marks.now) n; are_counts = found.1 }
