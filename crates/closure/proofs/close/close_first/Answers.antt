use mathlib.Core.Path.{refl, ◌∙◌, sym, subst⁻¹}
use Prim.Native.Nat.{ℕ, ◌≤◌}
use lib.ListN.{take}
use lib.Seq.{length-take-le}
use Rattle.clauses.specs.Clause.{clauses_in}
use Rattle.clauses.specs.Limit.{max_nets, max_entries}
use Rattle.clauses.specs.Listing.{Fits}
use Rattle.closure.proofs.close.close_first.Goals as goal

pub slice_bounds-close_codes-end : goal.slice_bounds-close_codes-end
slice_bounds-close_codes-end c = let s = c in sym (length-take-le s.args.n s.args.codes.now s.requires.n_in_bounds.0)

pub slice_bounds-close_codes-end-2 : goal.slice_bounds-close_codes-end-2
slice_bounds-close_codes-end-2 c = let s = c in sym (length-take-le s.args.n s.args.marks.now s.requires.n_in_bounds.1)

pub slice_bounds-close_codes-end-4 : goal.slice_bounds-close_codes-end-4
slice_bounds-close_codes-end-4 c = let s = c in sym (length-take-le s.args.v s.args.leads.now s.requires.v_le_max_nets.1)

pub slice_bounds-close_codes-end-6 : goal.slice_bounds-close_codes-end-6
slice_bounds-close_codes-end-6 c = let s = c in sym (length-take-le s.args.v s.args.next.now s.requires.v_le_max_nets.2)

pub slice_bounds-close_codes-end-8 : goal.slice_bounds-close_codes-end-8
slice_bounds-close_codes-end-8 c = let s = c in sym (length-take-le s.args.v s.args.older.now s.requires.v_le_max_nets.3)

pub close_codes-requires : goal.close_codes-requires
close_codes-requires c =
    let s = c in let k = length-take-le s.args.v s.args.leads.now s.requires.v_le_max_nets.1 in record {
      found = s.requires.found;
      fits = subst⁻¹ (λ (m : ℕ). Fits m (clauses_in (take s.args.n s.args.codes.now))) k s.requires.fits;
      leads_len_bound = (
        subst⁻¹ (λ (m : ℕ). m ≤ max_nets) k s.requires.v_le_max_nets.0,
        subst⁻¹ (λ (m : ℕ). m ≤ max_entries) (length-take-le s.args.n s.args.codes.now s.requires.n_in_bounds.0) s.requires.n_in_bounds.2,
      );
      next_len = (length-take-le s.args.v s.args.next.now s.requires.v_le_max_nets.2 ∙ sym k, length-take-le s.args.v s.args.older.now s.requires.v_le_max_nets.3 ∙ sym k);
    }

pub returns : goal.returns
returns c =
    let s = c in
    let k = length-take-le s.args.v s.args.leads.now s.requires.v_le_max_nets.1 in
    let e = c.close_codes.ensures in
    record { last = _; ends = rw k at e.leads_after; left = rw k at e.groups_value; row = refl }
