use mathlib.Core.Path.{◌∙◌, sym, ap, subst⁻¹}
use Prim.Native.Nat.{ℕ, ◌≤◌}
use native.Mathlib.Omega.{arith}
use native.Mathlib.Nat.{le_trans}
use lib.ListN.{length, replicate}
use lib.Seq.{length-take-le}
use Rattle.clauses.specs.Limit.{max_nets}
use Rattle.closure.specs.Closing.{max_work}
use Rattle.closure.proofs.Finishing.{passed_findable, finder_left, steps_bound, steps_accepted}
use Rattle.closure.proofs.close.close_in.Goals as goal

pub find_gates-f-requires : goal.find_gates-f-requires
find_gates-f-requires c =
    let s = c in let q = passed_findable s.args.v s.args.row.now s.args.leads.now s.args.work.now s.requires.passed in record { row_len_bound = s.requires.passed.entries; row_in_bounds = subst⁻¹ (λ (m : ℕ). length s.args.row.now ≤ m) s.requires.codes_len.0 s.requires.passed.entries; row_in_bounds_2 = subst⁻¹ (λ (m : ℕ). length s.args.row.now ≤ m) s.requires.codes_len.1 s.requires.passed.entries; small_entries = q.0; row_value = q.1 }

pub slice_bounds-fill-end-2 : goal.slice_bounds-fill-end-2
slice_bounds-fill-end-2 c = let s = c in sym (length-take-le max_work s.args.work.now s.requires.passed.work_room)

pub close_first-e-requires : goal.close_first-e-requires
close_first-e-requires c =
    let s = c in let f = c.find_gates-f in let q = finder_left s.args.v s.args.row.now s.args.leads.now s.args.work.now s.requires.passed _ _ _
    f.ensures.entries_value f.ensures.codes_after f.ensures.found in let few = le_trans q.few s.requires.passed.entries in record {
      n_in_bounds = (
        subst⁻¹ (λ (m : ℕ). f.result.entries ≤ m) (f.auto.codes ∙ s.requires.codes_len.0) few,
        subst⁻¹ (λ (m : ℕ). f.result.entries ≤ m) (f.auto.marks ∙ s.requires.codes_len.1) few,
        few,
      );
      found = q.found;
      fits = q.fits;
      v_le_max_nets = (
        s.requires.passed.nets,
        s.requires.passed.lead_room,
        subst⁻¹ (λ (m : ℕ). s.args.v ≤ m) s.requires.codes_len.2 s.requires.passed.nets,
        subst⁻¹ (λ (m : ℕ). s.args.v ≤ m) s.requires.codes_len.3 s.requires.passed.nets,
      );
    }

pub overflow_add-v : goal.overflow_add-v
overflow_add-v c = let s = c in let h : s.args.v ≤ max_nets = s.requires.passed.nets in omega arith

pub shape_of-codes-then-v-e : goal.shape_of-codes-then-v-e
shape_of-codes-then-v-e c = c.find_gates-f.auto.codes

pub returns-then-v-e : goal.returns-then-v-e
returns-then-v-e c =
    let s = c in
    let f = c.find_gates-f in
    let q = finder_left s.args.v s.args.row.now s.args.leads.now s.args.work.now s.requires.passed _ _ _
    f.ensures.entries_value f.ensures.codes_after f.ensures.found in
    let h = steps_bound s.args.v s.args.row.now s.args.limit s.args.leads.now s.args.work.now s.requires.passed _ _ _ _ _ _ q f.ensures.are_counts _ _ _ _ c.close_first-e.ensures in
    absurd (omega (arith, c.if-v-e.true))

pub shape_of-codes : goal.shape_of-codes
shape_of-codes c = c.find_gates-f.auto.codes

pub returns : goal.returns
returns c =
    let s = c in
    let f = c.find_gates-f in
    let q = finder_left s.args.v s.args.row.now s.args.leads.now s.args.work.now s.requires.passed _ _ _
    f.ensures.entries_value f.ensures.codes_after f.ensures.found in
    steps_accepted s.args.v s.args.row.now s.args.limit s.args.leads.now s.args.work.now s.requires.passed _ _ _ _ _ _ q f.ensures.are_counts _ _ _ _ c.close_first-e.ensures _
    (c.fill.ensures.after (λ y e. cc) ∙ ap (λ (k : ℕ). replicate k 0) (length-take-le max_work s.args.work.now s.requires.passed.work_room))
