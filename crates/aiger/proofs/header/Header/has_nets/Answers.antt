use mathlib.Core.Path.{◌≡◌}
use mathlib.Core.Bool.{not}
use Prim.Native.Nat.{ℕ, ◌+◌, ◌≤◌}
use native.Mathlib.Omega.{arith}
use native.Mathlib.Decide.{dec_le}
use borrow.Author.Tests.{le-leb, lt-leb, le-ltb, lt-ltb}
use lib.Dec.{leb, ltb}
use Rattle.aiger.specs.Reading.{is_header_bad}
use Rattle.aiger.proofs.header.Header.has_nets.Goals as goal

leb-not-ltb : (m n : ℕ) → leb m n ≡ not (ltb n m)
leb-not-ltb m n = go (dec_le m n)
  where
    go : Dec (m ≤ n) → leb m n ≡ not (ltb n m)
    go (yes h) = rw (le-leb m n h, le-ltb n m h)
    go (no h) = rw (lt-leb m n (omega arith), lt-ltb n m (omega arith))

pub returns : goal.returns
unfolding is_header_bad
returns c = let h = c.args.self in leb-not-ltb (h.inputs + h.latches + h.ands) h.nets
