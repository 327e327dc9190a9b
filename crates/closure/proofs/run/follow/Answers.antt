use mathlib.Core.Path.{refl, sym, ◌∙◌}
use native.Mathlib.Omega.{arith}
use Rattle.closure.specs.Rounds.{Followed}
use Rattle.closure.proofs.run.follow.Goals as goal

pub returns-then-still : goal.returns-then-still
returns-then-still c = rw c.end_with.ensures (Followed.settled (sym c.is_still-still.ensures ∙ c.if-still.true) refl)

pub returns-then-rounds-limit : goal.returns-then-rounds-limit
returns-then-rounds-limit c = rw c.end_with-then-rounds-limit.ensures (Followed.stopped (sym c.is_still-still.ensures ∙ c.if-still.false) c.if-rounds-limit.true refl)

pub returns-then-t : goal.returns-then-t
returns-then-t c =
    rw c.end_with-then-t.ensures
    (Followed.clashed (sym c.is_still-still.ensures ∙ c.if-still.false) (omega (arith, c.if-rounds-limit.false, c.requires.rounds_le_limit)) c.if-t.true (c.fill.ensures.after (λ y e. e)))

pub returns : goal.returns
returns c =
    Followed.made (sym c.is_still-still.ensures ∙ c.if-still.false) (omega (arith, c.if-rounds-limit.false, c.requires.rounds_le_limit)) c.if-t.false c.copy_from_slice-2.ensures.after c.copy_from_slice.ensures.after
