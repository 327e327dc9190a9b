use Rattle.std.proofs.Common.{ℕ, ◌-◌, ◌<◌, ◌≤◌, get_or, sym, ◌∙◌, arith}
use mathlib.Core.Path.{subst⁻¹}
use Rattle.clauses.specs.Code.{net}
use Rattle.rules.specs.Answer.{lead_of}
use Rattle.closure.specs.Xors.{others}
use Rattle.closure.proofs.XorRests.{rest_begins, rest_skips, rest_goes_on, rest_digits, rest_room, net_small}
use Rattle.closure.proofs.nets.rest_of.Goals as goal
use Rattle.closure.proofs.nets.rest_of.Goals.{then-q-p, else-q-p}

pub loop-q-init : goal.loop-q-init
loop-q-init c = let s = c.args in rest_begins s.old.now s.codes.now s.b s.p

pub with-r-requires : goal.with-r-requires
with-r-requires c =
    let l = c.loop-q in (
      subst⁻¹ (λ (x : ℕ). net x < 65536) c.lead_of.ensures (net_small c.requires l.q l.auto.q c.loop-q-test.true),
      rest_room c.requires l.q l.r l.auto.q c.loop-q-test.true c.if-q-p.true l.invariant,
    )

pub loop-q-preserved : goal.loop-q-preserved
loop-q-preserved c =
    let s = c.args in
    let l = c.loop-q in
    let few : l.q - s.b ≤ s.n = omega (arith, c.loop-q-test.true) in
    elim c.if-q-p.branch [
      | then-q-p w ↦
          rest_goes_on s.old.now s.codes.now s.b s.p l.q c.if-q-p.r l.auto.q w.if-q-p.true
          (w.r-is
          ∙ w.with-r.ensures (lead_of s.old.now) (get_or s.codes.now l.q 0) (others s.codes.now s.p s.b (l.q - s.b)) (sym w.lead_of.ensures) (rest_digits c.requires (l.q - s.b) few)
          l.invariant)
      | else-q-p w ↦ rest_skips s.old.now s.codes.now s.b s.p l.q c.if-q-p.r l.auto.q w.if-q-p.false (w.r-is ∙ l.invariant)
    ]
