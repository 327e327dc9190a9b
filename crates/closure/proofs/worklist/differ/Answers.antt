use Rattle.std.proofs.Common.{◌<◌, length, subst}
use Rattle.std.proofs.lemmas.List.{length_push}
use Rattle.std.proofs.lemmas.Slice.Zip.{zip_turn}
use Rattle.closure.proofs.WorklistSteps.{compared_more}
use Rattle.closure.proofs.worklist.differ.Goals as goal

pub loop-a-preserved : goal.loop-a-preserved
loop-a-preserved c =
    let a = c.args in
    let l = c.loop-a in
    let t = zip_turn a.older.now a.old.now l.yielded c.into_iter-a-iterator.result l.a-iterator c.next.new.self c.next.result (cc) (cc) l.yielded_by _ c.in-Some.is c.next.ensures.steps in
    λ e k h. compared_more a.older.now a.old.now (length l.yielded) l.any _ _ (t.2 0) (t.3 0) l.invariant e k (subst (λ n. k < n) (length_push l.yielded (c.in-Some.a, c.in-Some.b)) h)
