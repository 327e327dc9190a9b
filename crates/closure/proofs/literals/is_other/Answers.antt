use mathlib.Core.Path.{◌∙◌, sym, ap}
use mathlib.Core.Bool.{not}
use Prim.Native.Nat.{ℕ}
use lib.Dec.{eqb}
use borrow.Author.Tests.{eq-eqb}
use Rattle.closure.proofs.Searches.{other_skip, other_false, other_rest}
use Rattle.closure.proofs.literals.is_other.Goals as goal

pub returns-then-q-skip : goal.returns-then-q-skip
returns-then-q-skip c = other_skip _ _ _ _ _ c.if-q-skip.true

pub returns-then-x-ne0 : goal.returns-then-x-ne0
returns-then-x-ne0 c =
    ap (λ (x : ℕ). not (eqb x c.args.y)) c.lead_of-x.ensures ∙ other_rest _ _ _ _ _ c.if-q-skip.false (λ e. c.if-x-ne0.true (c.lead_of-x.ensures ∙ e))

pub returns-else-x-ne0 : goal.returns-else-x-ne0
returns-else-x-ne0 c = ap not (eq-eqb _ 0 c.if-x-ne0.false) ∙ other_false _ _ _ _ c.args.q c.if-q-skip.false (sym c.lead_of-x.ensures ∙ c.if-x-ne0.false)
