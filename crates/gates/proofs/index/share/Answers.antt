use mathlib.Core.Path.{refl}
use native.Mathlib.Omega.{arith}
use Rattle.gates.specs.Index.{share}
use Rattle.gates.proofs.Buckets.{share_small}
use Rattle.gates.proofs.index.share.Goals as goal

pub overflow_mul-result-2 : goal.overflow_mul-result-2
unfolding share
overflow_mul-result-2 c = omega (arith, share_small c.args.x)

pub returns : goal.returns
unfolding share
returns c = refl
