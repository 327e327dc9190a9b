use mathlib.Core.Path.{◌≡◌}
use Prim.Native.Nat.{◌+◌, ◌%◌, ◌<◌}
use lib.ListN.{drop}
use Rattle.gates.specs.Index.{sum, buckets}
use Rattle.gates.specs.Mask.{masked}
use Rattle.gates.proofs.index.bucket_of.Given as goal

abbrev pub invariant-loop-x : goal.invariant-loop-x
invariant-loop-x l = (l.sum < buckets) × ((l.sum + sum (masked l.m (drop l.x-index l.q))) % buckets ≡ sum (masked l.mask l.q) % buckets)
