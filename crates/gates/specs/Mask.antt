-- Masks: literals with some inverted, as the bits of a number say. Only inner contracts cite these.
-- Assumes nothing.
use Rattle.std.specs.Prelude.{Bool, false, List, [], ◌∷◌, ℕ, ◌/◌}
use Rattle.clauses.specs.Sign.{plus, flip, is_inverse}

-- the literals, those inverted whose bit is set in the mask: the lowest bit is the first literal's
unfoldable pub masked : ℕ → List ℕ → List ℕ
masked m [] = []
masked m (l ∷ ls) = flip (is_inverse m) l ∷ masked (m / 2) ls

-- whether these are an odd number
unfoldable pub mask_odd : ℕ → List ℕ → Bool
mask_odd m [] = false
mask_odd m (l ∷ ls) = plus (is_inverse m) (mask_odd (m / 2) ls)
