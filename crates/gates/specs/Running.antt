-- 'The running counts of ands, xors and ites grow as gates are found': the counts with n more of one kind.
-- Assumes nothing.
use Rattle.std.specs.Prelude.{ℕ, ◌+◌}
use Rattle.gates.specs.declared.counts.Counts.{Counts}

abbrev pub with_ands : Counts → ℕ → Counts
with_ands c n = record { ands = c.ands + n; xors = c.xors; ites = c.ites }

abbrev pub with_xors : Counts → ℕ → Counts
with_xors c n = record { ands = c.ands; xors = c.xors + n; ites = c.ites }

abbrev pub with_ites : Counts → ℕ → Counts
with_ites c n = record { ands = c.ands; xors = c.xors; ites = c.ites + n }
