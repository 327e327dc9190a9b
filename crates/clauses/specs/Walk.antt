-- 'A clause is walked as a run of entries up to its zero': a step along a literal row.
-- Assumes nothing.
use Rattle.std.specs.Prelude.{cond, List, ℕ, ◌+◌, ltb, ℤ, length}
use Rattle.clauses.specs.declared.walk.Walk.{Walk}

-- the place after a place; past the row's end, the same
abbrev pub place_after : List ℤ → ℕ → ℕ
place_after row at = cond (ltb at (length row)) (at + 1) at

-- the walk after a step
abbrev pub advanced : Walk → Walk
advanced w = record { row = w.row; at = place_after w.row.now w.at }
