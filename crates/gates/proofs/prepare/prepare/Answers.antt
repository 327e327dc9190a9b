use mathlib.Core.Path.{◌≡◌, sym, ◌∙◌, ap}
use Prim.Native.Nat.{ℕ, ◌≤◌}
use native.Mathlib.Omega.{arith}
use lib.ListN.{length, take}
use Rattle.gates.specs.Normal.{normal_row}
use Rattle.gates.proofs.NormalForm.{normal_length, normal-row}
use Rattle.gates.proofs.prepare.prepare.Goals as goal

pub slice_bounds-make_index-end : goal.slice_bounds-make_index-end
slice_bounds-make_index-end c =
    let fits : c.normalise-n.result ≤ length c.args.row.now = omega (arith, c.normalise-n.ensures.value, normal_length c.args.row.now c.requires.row_value) in
    omega (arith, fits, c.normalise-n.auto.codes, c.requires.row_in_bounds)

pub slice_bounds-make_index-end-2 : goal.slice_bounds-make_index-end-2
slice_bounds-make_index-end-2 c =
    let part : take c.normalise-n.result c.normalise-n.new.codes ≡ normal_row c.args.row.now = c.normalise-n.ensures.codes_after in
    c.normalise-n.ensures.value ∙ sym (ap length part)

pub make_index-requires : goal.make_index-requires
make_index-requires c =
    let fits : c.normalise-n.result ≤ length c.args.row.now = omega (arith, c.normalise-n.ensures.value, normal_length c.args.row.now c.requires.row_value) in
    let part : take c.normalise-n.result c.normalise-n.new.codes ≡ normal_row c.args.row.now = c.normalise-n.ensures.codes_after in
    let start = c in rw part
    (record { normal = normal-row start.args.row.now start.requires.row_len_bound start.requires.small_entries start.requires.row_value; codes_in_bounds = omega (arith, fits, c.normalise-n.ensures.value, start.requires.row_in_bounds_2) })

pub returns : goal.returns
returns c =
    let part : take c.normalise-n.result c.normalise-n.new.codes ≡ normal_row c.args.row.now = c.normalise-n.ensures.codes_after in
    record { value = c.normalise-n.ensures.value; codes_after = ap (λ (n : ℕ). take n c.normalise-n.new.codes) (sym c.normalise-n.ensures.value) ∙ part; indexed = rw part at c.make_index.ensures }
