use mathlib.Core.Path.{◌≡◌, sym, ◌∙◌}
use native.Mathlib.Nat.{pow-le-pow_right}
use native.Mathlib.Omega.{arith}
use lib.ListN.{length}
use Rattle.clauses.specs.Clause.{clauses_in}
use Rattle.gates.proofs.Masks.{masks_pass, mask_fails, mask_none}
use Rattle.gates.proofs.index.ClauseIndex.is_every_mask_present.Goals as goal

pub loop-mask-init : goal.loop-mask-init
loop-mask-init c = λ k h. let z : k ≡ 0 = omega arith in rw z (mask_none _ _ c.requires.clause_value)

pub returns-then-not-is_mask_present : goal.returns-then-not-is_mask_present
returns-then-not-is_mask_present c =
    sym (mask_fails (clauses_in c.args.self.now.codes.now) c.args.clause.now c.loop-mask.mask (sym c.is_mask_present.ensures ∙ c.if-not-is_mask_present.true))

pub returns : goal.returns
returns c =
    let masks = pow-le-pow_right {n = 2} (omega arith) {i = length c.args.clause.now} {j = 5} c.requires.clause_len_bound in
    sym (masks_pass (clauses_in c.args.self.now.codes.now) c.args.clause.now (λ k h. c.loop-mask.invariant k (omega (arith, masks, c.loop-mask-test.false))))
