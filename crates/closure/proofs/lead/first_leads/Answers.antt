use Rattle.std.proofs.Common.{◌≡◌, ℕ, suc, ◌+◌, ◌*◌, ◌<◌, length, sym, ◌∙◌, arith}
use Rattle.std.proofs.lemmas.List.{ext_get_or}
use Rattle.clauses.specs.Code.{nets_of}
use Rattle.rules.proofs.Closing.{nets_of_length, nets_of_at}
use Rattle.closure.proofs.lead.first_leads.Goals as goal

same : (k : ℕ) → 2 * k + 2 ≡ 2 * suc k
same k = omega arith

pub returns : goal.returns
returns c =
    let l = c.loop-i.leads in
    let v = length c.args.leads.now in
    ext_get_or 0 l (nets_of v) (c.loop-i.auto.leads ∙ sym (nets_of_length v))
    (λ k h. let q : k < v = omega arith in c.loop-i.invariant k (omega arith) ∙ same k ∙ sym (nets_of_at v k 0 q))
