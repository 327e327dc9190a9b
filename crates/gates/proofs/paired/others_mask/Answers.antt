use mathlib.Core.Path.{◌≡◌}
use Prim.Native.Nat.{◌-◌}
use native.Mathlib.Omega.{arith}
use Rattle.gates.proofs.paired.others_mask.Goals as goal

pub returns-in-0 : goal.returns-in-0
returns-in-0 c = let e : c.args.p - c.args.b ≡ 0 = omega arith in rw e

pub returns-in-1 : goal.returns-in-1
returns-in-1 c = let e : c.args.p - c.args.b ≡ 1 = omega arith in rw e

pub returns-in_default : goal.returns-in_default
returns-in_default c = let e : c.args.p - c.args.b ≡ 2 = omega arith in rw e
