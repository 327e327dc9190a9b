use mathlib.Core.Path.{◌≡◌, refl, sym, ◌∙◌}
use Prim.Native.Nat.{ℕ, ◌+◌, ◌-◌, ◌<◌}
use native.Mathlib.Omega.{arith}
use lib.ListN.{length, length-set}
use Rattle.clauses.specs.Row.{Starts}
use Rattle.gates.proofs.Buckets.{bucket_below}
use Rattle.gates.proofs.ClauseChains.{chained_none, chained_past, chained_put, chained_all, start_true, start_false}
use Rattle.gates.proofs.index.make_index.Goals as goal

pub loop-b-init : goal.loop-b-init
loop-b-init c =
    chained_none (length c.args.index.now) (c.fill.ensures.after (λ y e. e)) (omega (arith, c.requires.codes_in_bounds)) refl

pub bucket_at-h-requires-clause-starts : goal.bucket_at-h-requires-clause-starts
bucket_at-h-requires-clause-starts c =
    start_true _ _ (omega (arith, c.loop-b.invariant.inside, c.loop-b-test.true)) (sym c.is_start.ensures ∙ c.if-is_start.true)

pub offset_bounds-index-h : goal.offset_bounds-index-h
offset_bounds-index-h c = omega (arith, bucket_below _ c.bucket_at-h.ensures)

pub bounds-index-h : goal.bounds-index-h
bounds-index-h c = omega (arith, bucket_below _ c.bucket_at-h.ensures, c.loop-b.invariant.room, c.fill.ensures.len, c.requires.codes_in_bounds)

pub offset_bounds-index-h-then-is_start : goal.offset_bounds-index-h-then-is_start
offset_bounds-index-h-then-is_start c = omega (arith, bucket_below _ c.bucket_at-h.ensures)

pub bounds-index-h-then-is_start : goal.bounds-index-h-then-is_start
bounds-index-h-then-is_start c =
    rw length-set (omega (arith, bucket_below _ c.bucket_at-h.ensures, c.loop-b.invariant.room, c.fill.ensures.len, c.requires.codes_in_bounds))

pub loop-b-preserved-then-is_start : goal.loop-b-preserved-then-is_start
loop-b-preserved-then-is_start c =
    let b : ℕ = c.loop-b.b - 1 in
    let back : b + 1 ≡ c.loop-b.b = omega (arith, c.loop-b-test.true) in
    let inside : b < length c.args.codes.now = omega (arith, c.loop-b.invariant.inside, c.loop-b-test.true) in
    let starts : Starts c.args.codes.now b = start_true _ _ inside (sym c.is_start.ensures ∙ c.if-is_start.true) in
    chained_put (rw back c.loop-b.invariant) starts (omega (arith, c.fill.ensures.len, c.requires.codes_in_bounds)) c.bucket_at-h.ensures

pub loop-b-preserved : goal.loop-b-preserved
loop-b-preserved c =
    let b : ℕ = c.loop-b.b - 1 in
    let back : b + 1 ≡ c.loop-b.b = omega (arith, c.loop-b-test.true) in
    let inside : b < length c.args.codes.now = omega (arith, c.loop-b.invariant.inside, c.loop-b-test.true) in
    chained_past (rw back c.loop-b.invariant) (start_false c.args.codes.now b (sym c.is_start.ensures ∙ c.if-is_start.false))

pub returns : goal.returns
returns c =
    let z : c.loop-b.b ≡ 0 = omega (arith, c.loop-b-test.false) in
    chained_all (rw z at c.loop-b.invariant) (omega (arith, c.fill.ensures.len, c.requires.codes_in_bounds))
