use Prim.Native.Nat.{◌-◌}
use native.Mathlib.Omega.{arith}
use Rattle.closure.proofs.Tests.{told_true, told_false}
use Rattle.closure.proofs.SideTables.{looking_low, looking_on, looking_falls, looking_hit, looking_miss}
use Rattle.closure.proofs.side_table.KeptSides.last_along.Goals as goal

pub is_entry-requires : goal.is_entry-requires
is_entry-requires g c =
    let m = c.requires.1 in
    let h = looking_low m (c.loop-k.invariant _ m) c.loop-k-test.true in
    (omega arith, (omega (arith, h, c.args.self.now.table.chained.low, c.loop-k-test.true), m.threes (c.loop-k.k - 1) (omega (arith, h, c.loop-k-test.true))))

pub returns-then-is_entry : goal.returns-then-is_entry
returns-then-is_entry g c = λ bound m. looking_hit m (c.loop-k.invariant bound m) c.loop-k-test.true (told_true c.if-is_entry.true c.is_entry.ensures)

pub offset_bounds-self-k : goal.offset_bounds-self-k
offset_bounds-self-k g c = let m = c.requires.1 in omega (arith, looking_low m (c.loop-k.invariant _ m) c.loop-k-test.true, c.args.self.now.table.chained.low)

pub bounds-self-k : goal.bounds-self-k
bounds-self-k g c = let m = c.requires.1 in omega (arith, looking_low m (c.loop-k.invariant _ m) c.loop-k-test.true, c.args.self.now.table.chained.low, c.loop-k-test.true)

pub loop-k-smaller : goal.loop-k-smaller
loop-k-smaller g c = let m = c.requires.1 in looking_falls m (c.loop-k.invariant _ m) c.loop-k-test.true

pub loop-k-preserved : goal.loop-k-preserved
loop-k-preserved g c = λ bound m. looking_on m (c.loop-k.invariant bound m) c.loop-k-test.true (told_false c.if-is_entry.false c.is_entry.ensures)

pub returns : goal.returns
returns g c = λ bound m. looking_miss m (c.loop-k.invariant bound m) (omega (arith, c.loop-k-test.false))
