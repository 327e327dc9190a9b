use Rattle.std.proofs.Common.{◌+◌, ◌*◌, ◌<◌, arith}
use Rattle.clauses.specs.Limit.{max_nets}
use Rattle.closure.proofs.Holding.{put_begin, put_skip, put_on, held_all}
use Rattle.closure.proofs.Signatures.{share_small, summed_begin, summed_fits, summed_skip, summed_on}
use Rattle.closure.proofs.inputs.Inputs.hold_sum.Goals as goal
use Rattle.closure.proofs.inputs.Inputs.hold_sum.Goals.{then-q-self, else-q-self}

pub loop-q-init : goal.loop-q-init
loop-q-init c = let i = c.args.self.now in (put_begin, summed_begin i.codes.now i.old.now i.start i.output)

pub overflow_add-sum : goal.overflow_add-sum
overflow_add-sum c =
    let i = c.args.self.now in
    let l = c.loop-q in
    omega (arith, c.share-sum.ensures, share_small l.held c.lead_of-y.result, summed_fits i.codes.now i.old.now i.start i.output l.q l.sum l.invariant.1)

pub loop-q-preserved : goal.loop-q-preserved
loop-q-preserved c =
    let l = c.loop-q in
    let v = l.invariant in
    let i = c.args.self.now in
    let codes = i.codes.now in
    let old = i.old.now in
    elim c.if-q-self.branch [
      | then-q-self w ↦
          let y = w.lead_of-y.result in
          let is = w.lead_of-y.ensures in
          let small : y < 2 * max_nets + 2 = omega (arith, is, i.low l.q (omega (arith, c.loop-q-test.true, i.clause.inside))) in
          let sum = summed_on codes old i.start i.output l.q (held_all l.auto.held c.requires v.0) l.auto.q w.if-q-self.true y is small l.sum v.1 in
          rw (w.held-is, w.sum-is) (put_on v.0 l.auto.q w.if-q-self.true y is (omega (arith, small, l.auto.held, c.requires.1)), rw w.share-sum.ensures sum)
      | else-q-self w ↦
          rw (w.held-is, w.sum-is) (put_skip v.0 (omega (arith, w.if-q-self.false)), summed_skip codes old i.start i.output l.q l.sum (omega (arith, w.if-q-self.false)) v.1)
    ]
