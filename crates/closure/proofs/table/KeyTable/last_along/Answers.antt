use native.Mathlib.Omega.{arith}
use Rattle.closure.proofs.Tables.{seek_begins, seek_room, seek_found, seek_ends, seek_falls, seek_on}
use Rattle.closure.proofs.table.KeyTable.last_along.Goals as goal

pub loop-k-init : goal.loop-k-init
loop-k-init g c = λ bound h. seek_begins h

pub offset_bounds-self-k : goal.offset_bounds-self-k
offset_bounds-self-k g c = let h = c.requires.1 in omega (arith, (seek_room h (c.loop-k.invariant _ h) c.loop-k-test.true).0, c.well_formed)

pub bounds-self-k : goal.bounds-self-k
bounds-self-k g c = let h = c.requires.1 in omega (arith, (seek_room h (c.loop-k.invariant _ h) c.loop-k-test.true).0, c.loop-k-test.true)

pub returns-then-self-k : goal.returns-then-self-k
returns-then-self-k g c = λ bound h. seek_found h (c.loop-k.invariant bound h) c.loop-k-test.true c.if-self-k.true

pub offset_bounds-self-k-in-loop-k : goal.offset_bounds-self-k-in-loop-k
offset_bounds-self-k-in-loop-k g c = let h = c.requires.1 in omega (arith, (seek_room h (c.loop-k.invariant _ h) c.loop-k-test.true).1)

pub bounds-self-k-in-loop-k : goal.bounds-self-k-in-loop-k
bounds-self-k-in-loop-k g c = let h = c.requires.1 in omega (arith, (seek_room h (c.loop-k.invariant _ h) c.loop-k-test.true).1, c.loop-k-test.true)

pub loop-k-smaller : goal.loop-k-smaller
loop-k-smaller g c = let h = c.requires.1 in seek_falls h (c.loop-k.invariant _ h) c.loop-k-test.true

pub loop-k-preserved : goal.loop-k-preserved
loop-k-preserved g c = λ bound h. seek_on h (c.loop-k.invariant bound h) c.loop-k-test.true c.if-self-k.false

pub returns : goal.returns
returns g c = λ bound h. seek_ends h (c.loop-k.invariant bound h) (omega (arith, c.loop-k-test.false))
