-- A test of every element, as the library's iterators make it.
-- Assumes nothing.
use mathlib.Core.Path.{◌≡◌, refl}
use mathlib.Core.Bool.{Bool}
use mathlib.Core.List.{List, [], ◌∷◌}
use Prim.Native.Nat.{ℕ}
use borrow.Table.Steps.{cases}
use Rattle.std.specs.List.{list_all}
use Rattle.clauses.specs.Lists.{all}

pub every : (f : ℕ → Bool) (c : List ℕ) → list_all f c ≡ all f c
unfolding all
every f [] = refl
every f (x ∷ c) = cases (f x) (λ t. rw (t, all) (every f c)) (λ t. rw (t, all))
