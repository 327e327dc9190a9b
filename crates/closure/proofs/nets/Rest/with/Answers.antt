use Rattle.std.proofs.Common.{◌≡◌, Bool, true, false, not, ◌∙◌, refl, ap}
use mathlib.Core.Bool.{beq}
use Rattle.clauses.specs.Sign.{plus}
use Rattle.closure.proofs.OddNets.{rest_constant, rest_net}
use Rattle.closure.proofs.nets.Rest.with.Goals as goal
use Rattle.closure.proofs.nets.Rest.with.Goals.{then-w-eq0, else-w-eq0}

-- one of two bits is set, and not both
differ : (a b : Bool) → not (beq a b) ≡ plus a b
differ true true = refl
differ true false = refl
differ false true = refl
differ false false = refl

pub returns : goal.returns
returns c =
    let s = c.args in
    λ f x xs e d h.
    let odd = differ c.is_inverse.result s.self.odd ∙ ap (λ (b : Bool). plus b s.self.odd) c.is_inverse.ensures in
    elim c.if-w-eq0.branch [
      | then-w-eq0 w ↦ rw w.result-is (rest_constant f x xs s.lead e s.self h w.if-w-eq0.true _ odd)
      | else-w-eq0 w ↦ rw w.result-is (rest_net f x xs s.lead e s.self h w.if-w-eq0.false _ odd d _ w.toggle.ensures.nets)
    ]
