use mathlib.Core.Path.{sym}
use borrow.Author.Tests.{eq-eqb}
use Rattle.gates.proofs.Twos.{no_and}
use Rattle.gates.proofs.and.Candidate.is_and.Goals as goal

pub returns-else-self-inverse-ne0 : goal.returns-else-self-inverse-ne0
returns-else-self-inverse-ne0 c =
    rw (eq-eqb _ _ c.if-self-inverse-ne0.false)
    (sym (no_and c.args.self.now.clause.list.normal c.args.self.now.listed _ _ c.args.self.now.first c.requires (rw (← c.inverse.ensures) c.if-self-inverse-ne0.false)))
