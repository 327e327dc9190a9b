use Rattle.clauses.specs.declared.tally.EntryTally.{EntryTally}
use Prim.Native.Nat.{ℕ, ◌≤◌}
use Rattle.clauses.proofs.ReadingTests.{numbers_accepted, numbers_entries, numbers_short, numbers_sizes}
use Rattle.clauses.proofs.Tests.{sizes_within}
use Rattle.clauses.specs.Reading.{accepted, refused}
use Rattle.clauses.specs.Tally.{tally_of}
use lib.IntN.{ℤ}
use lib.ListN.{length, length-take}
use Rattle.std.proofs.lemmas.Result.{err_from_is_err_and}
use mathlib.Core.List.{List}
use mathlib.Core.Path.{◌≡◌, ap, sym}
use native.Mathlib.Omega.{arith}
use Rattle.clauses.proofs.reading.read_numbers.Goals as goal

-- the tally's number of entries
count : (t : EntryTally) (v : ℕ) (numbers : List ℤ) → t ≡ tally_of v numbers → t.entries ≡ length numbers
unfolding tally_of
count t v numbers e = ap (λ (t : EntryTally). t.entries) e

room : (row : List ℤ) (t : EntryTally) (v : ℕ) (numbers : List ℤ) → t ≡ tally_of v numbers → t.entries ≤ length row → length numbers ≤ length row
room row t v numbers e h = omega (arith, count t v numbers e)

pub returns-then-row-entries : goal.returns-then-row-entries
unfolding refused
returns-then-row-entries c numbers k e = sym (numbers_short c.args.row.now (record { nets = c.args.v; clauses = c.args.c }) numbers (omega (arith, count c.args.t c.args.v numbers e, c.if-row-entries.true)))

pub returns-in_err-check_sizes : goal.returns-in_err-check_sizes
unfolding refused
returns-in_err-check_sizes c numbers k e =
    let p = err_from_is_err_and c.from_residual.result c.from_residual.ensures.1 in
    rw (p.1, p.2)
    (sym (numbers_sizes c.args.row.now (record { nets = c.args.v; clauses = c.args.c }) numbers (room c.args.row.now c.args.t c.args.v numbers e c.if-row-entries.false) _ (rw (← count c.args.t c.args.v numbers e) (sym c.in_err-check_sizes.ensures))))

pub returns-in_err-check_entries : goal.returns-in_err-check_entries
unfolding refused
returns-in_err-check_entries c numbers k e =
    let p = err_from_is_err_and c.from_residual-in_err-check_entries.result c.from_residual-in_err-check_entries.ensures.1 in
    rw (p.1, p.2)
    (sym
    (numbers_entries c.args.row.now (record { nets = c.args.v; clauses = c.args.c }) numbers (room c.args.row.now c.args.t c.args.v numbers e c.if-row-entries.false)
    (rw (← count c.args.t c.args.v numbers e) (sym c.in_ok-check_sizes.ensures))
    _ (rw (← e) (sym c.in_err-check_entries.ensures))))

pub slice_bounds-copy_from_slice-end-3 : goal.slice_bounds-copy_from_slice-end-3
slice_bounds-copy_from_slice-end-3 c =
    let few = sizes_within c.args.v c.args.c c.args.t.entries (sym c.in_ok-check_sizes.ensures) in
    omega (arith, few.2, c.requires, length-take c.args.t.entries c.args.kept.now)

pub copy_from_slice-requires : goal.copy_from_slice-requires
copy_from_slice-requires c =
    let few = sizes_within c.args.v c.args.c c.args.t.entries (sym c.in_ok-check_sizes.ensures) in
    omega (arith, few.2, c.requires, length-take c.args.t.entries c.args.kept.now, length-take c.args.t.entries c.args.row.now)

pub returns : goal.returns
unfolding accepted
returns c numbers k e =
    let sizes = sym c.in_ok-check_sizes.ensures in
    let few = sizes_within c.args.v c.args.c c.args.t.entries sizes in
    let held = k (omega (arith, few.2, c.requires, count c.args.t c.args.v numbers e)) in
    rw (c.copy_from_slice.ensures.after, count c.args.t c.args.v numbers e, held)
    (sym
    (numbers_accepted c.args.row.now (record { nets = c.args.v; clauses = c.args.c }) numbers (room c.args.row.now c.args.t c.args.v numbers e c.if-row-entries.false)
    (rw (← count c.args.t c.args.v numbers e) sizes)
    (rw (← e) (sym c.in_ok-check_entries.ensures))))
