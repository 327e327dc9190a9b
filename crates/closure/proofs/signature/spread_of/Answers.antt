use mathlib.Core.Path.{refl}
use Prim.Native.Nat.{◌%◌}
use native.Mathlib.Omega.{arith}
use Rattle.closure.specs.Matching.{spread_of}
use Rattle.closure.proofs.Signatures.{product_fits}
use Rattle.closure.proofs.signature.spread_of.Goals as goal

pub overflow_mul-result : goal.overflow_mul-result
overflow_mul-result c = omega (arith, product_fits (c.args.s % 4294967291) (c.args.s % 4294967279) (omega arith) (omega arith))

pub returns : goal.returns
unfolding spread_of
returns c = refl
