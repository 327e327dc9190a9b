use Rattle.std.proofs.Common.{List, Bool, ℕ, ◌+◌, ltb, length, get_or, arith}
use Rattle.closure.specs.Worklist.{has_moved, SeesTold}
use Rattle.closure.proofs.WorklistSteps.{nets_more, nets_all, listed_then}
use Rattle.closure.proofs.worklist.Worklist.list_moved.Goals as goal

pub loop-w-preserved : goal.loop-w-preserved
loop-w-preserved c =
    let a = c.args in
    let o = a.occurrences.now in
    let v = c.loop-w.invariant in
    let e = c.list_net.ensures in
    let f = c.in-Some.ensures in
    let told : List Bool → ℕ → Type 0 = λ seen x. SeesTold o.codes.now o.starts.now o.reads.now (x + 1) (ltb (get_or a.old.now x 0) 2) seen in (
      listed_then v.0 e.listed,
      omega (arith, f.0),
      nets_more (has_moved a.older.now a.old.now) (told c.loop-w.self.seen.now) (told c.list_net.new.self.seen.now) c.loop-w.from (length a.old.now) (λ x g q i j k. e.listed.keeps _ (g q i j k)) v.2 c.in-Some.w f.1 e.told,
    )

pub returns : goal.returns
returns c =
    let a = c.args in
    let o = a.occurrences.now in
    let v = c.loop-w.invariant in
    let told : ℕ → Type 0 = λ x. SeesTold o.codes.now o.starts.now o.reads.now (x + 1) (ltb (get_or a.old.now x 0) 2) c.loop-w.self.seen.now in
    record { listed = v.0; told = nets_all (has_moved a.older.now a.old.now) told told c.loop-w.from (length a.old.now) (λ x g. g) v.2 c.in_default.ensures }
