use mathlib.Core.Path.{sym, ◌∙◌}
use native.Mathlib.Omega.{arith}
use native.Mathlib.Decide.{ℕ_discrete}
use borrow.Author.Tests.{eq-eqb, ne_eqb}
use lib.ListN.{get_or}
use Rattle.gates.proofs.MateCounts.{none_with, one_with, one_without}
use Rattle.gates.proofs.ites.Halves.one_inverse.Goals as goal

pub returns-in-0 : goal.returns-in-0
returns-in-0 c = none_with _ _ _ _ (sym (c.args.self.now.sized.size c.args.y) ∙ c.in-0.is)

pub returns-in-1 : goal.returns-in-1
returns-in-1 c =
    let sized = c.args.self.now.sized in
    let one = sym (sized.size c.args.y) ∙ c.in-1.is in
    let some = sized.some c.args.y (omega (arith, c.in-1.is)) in
    elim (ℕ_discrete (get_or c.args.self.now.sides.now c.args.y 0) c.inverse-not_z.result) [
      | yes e ↦ rw (c.from.ensures, eq-eqb _ _ e, ← c.inverse-not_z.ensures) (one_with _ _ _ one _ some _ e)
      | no n ↦ rw (c.from.ensures, ne_eqb _ _ n, ← c.inverse-not_z.ensures) (one_without _ _ _ one _ some _ n)
    ]
