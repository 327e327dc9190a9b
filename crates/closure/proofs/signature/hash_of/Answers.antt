use mathlib.Core.Path.{refl}
use Prim.Native.Nat.{ℕ, ◌*◌, ◌%◌}
use native.Mathlib.Omega.{arith}
use Rattle.closure.specs.Matching.{hash_of}
use Rattle.closure.proofs.Signatures.{product_fits}
use Rattle.closure.proofs.signature.hash_of.Goals as goal

pub overflow_mul-square : goal.overflow_mul-square
overflow_mul-square c = let x : ℕ = c.args.y * 2654435761 % 4294967291 in omega (arith, product_fits x x (omega arith) (omega arith))

pub overflow_mul-result : goal.overflow_mul-result
overflow_mul-result c =
    let x : ℕ = c.args.y * 2654435761 % 4294967291 in omega (arith, product_fits (x * x % 4294967291) (x * x % 4294967291) (omega arith) (omega arith))

pub returns : goal.returns
unfolding hash_of
returns c = refl
