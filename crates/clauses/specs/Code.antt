-- Literal codes, AIGER's numbering: F is 0, T is 1, net w is 2w and its inverse 2w + 1.
-- Assumes nothing.
use Rattle.std.specs.Prelude.{List, map, ℕ, suc, ◌+◌, ◌-◌, ◌*◌, ◌/◌, ◌%◌, ℤ, pos, negsuc}
use Rattle.clauses.specs.Lists.{from}

-- 'Entry v is net v, entry -v its inverse; both are literals.'
unfoldable pub code_of : ℤ → ℕ
code_of (pos w) = 2 * w
code_of (negsuc w) = 2 * suc w + 1

-- the inverse of a literal or a constant
abbrev pub negate : ℕ → ℕ
negate c = c + 1 - 2 * (c % 2)

-- the net of a literal; 0 for the constants
abbrev pub net : ℕ → ℕ
net c = c / 2

-- nets 1 to V
unfoldable pub nets_of : ℕ → List ℕ
nets_of v = map (λ w. 2 * w) (from 1 v)
