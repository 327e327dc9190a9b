use native.Mathlib.Omega.{arith}
use Rattle.gates.specs.Mask.{masked}
use Rattle.gates.proofs.Buckets.{share_small, rest_end, rest_on, clause_bucket}
use Rattle.gates.proofs.Queries.{once_distinct}
use Rattle.gates.proofs.index.bucket_of.Goals as goal

pub loop-x-init : goal.loop-x-init
loop-x-init c = (omega arith, omega arith)

pub overflow_add-sum : goal.overflow_add-sum
overflow_add-sum c = omega (arith, c.share.ensures, share_small c.flipped.result)

pub loop-x-preserved : goal.loop-x-preserved
loop-x-preserved c = (
  omega arith,
  omega (arith, rest_on c.args.q.now c.loop-x.x-index c.loop-x.m (omega arith), rw c.flipped.ensures at c.share.ensures, c.loop-x.invariant.1),
)

pub returns : goal.returns
returns c =
    let e = rest_end c.args.q.now c.loop-x.x-index c.loop-x.m (omega arith) in
    clause_bucket (masked c.args.mask c.args.q.now) (once_distinct c.requires) c.loop-x.sum c.loop-x.invariant.0 (omega (arith, e, c.loop-x.invariant.1))
