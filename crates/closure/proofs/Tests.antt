-- What the answer of a test tells.
-- Assumes nothing.
use mathlib.Core.Path.{◌≡◌, subst}
use mathlib.Core.Bool.{Bool, true, false}
use Rattle.closure.specs.Passing.{Tells}

pub told_true : {P : Type 0} {r : Bool} → r ≡ true → Tells P r → P
told_true {P = P} e h = subst (Tells P) e h

pub told_false : {P : Type 0} {r : Bool} → r ≡ false → Tells P r → ¬ P
told_false {P = P} e h = subst (Tells P) e h
