use Rattle.std.proofs.Common.{◌-◌, arith}
use Rattle.closure.proofs.WorklistSteps.{listed_then, list_next, clause-of, not_told}
use Rattle.closure.proofs.worklist.Worklist.list_net.Goals as goal
use Rattle.closure.proofs.worklist.Worklist.list_net.Goals.{then-constant, else-constant+else-occurrences-at}

pub list_clause-requires : goal.list_clause-requires
list_clause-requires c =
    let o = c.args.occurrences.now in
    let v = c.loop-k.invariant in
    let t = c.loop-k-test.true in record {
      ended = (o.ended, clause-of o.codes.now o.starts.now o.clauses c.args.w (c.loop-k.k - 1) c.requires.net.0 (omega (arith, v.1.low, t)) (v.1.at t), o.entries);
      listing = v.0.listing;
    }

pub loop-k-preserved : goal.loop-k-preserved
loop-k-preserved c =
    let a = c.args in
    let o = a.occurrences.now in
    let l = c.loop-k in
    let v = l.invariant in
    let next = list_next o.codes.now o.starts.now o.reads.now o.occurs.now o.links.now a.constant a.w l.k l.self.seen.now in
    elim c.if-constant.branch [
      | then-constant w ↦
          let e = w.list_clause.ensures in
          rw w.self-is (listed_then v.0 e.listed, next w.list_clause.new.self.seen.now o.chains e.listed.keeps c.loop-k-test.true (λ h. e.seen) v.1)
      | else-constant+else-occurrences-at w ↦
          rw w.self-is (v.0, next l.self.seen.now o.chains (λ x h. h) c.loop-k-test.true (not_told o.starts.now o.reads.now a.constant l.self.seen.now (l.k - 1) w.if-constant.false w.if-occurrences-at.false) v.1)
    ]
