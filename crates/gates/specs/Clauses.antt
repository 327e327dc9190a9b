-- The clauses of a row of codes, one after another. Inner contracts alone cite it.
-- Assumes nothing.
use Rattle.std.specs.Prelude.{◌≡◌, Option, None, Some, ◌+◌, ◌≤◌, length}
use Rattle.gates.specs.declared.clause.Clause.{Clause}
use Rattle.gates.specs.declared.clause.Clauses.{Clauses}

-- the clause at the place where the walk stands is given, and the walk stands behind it; or none, at the row's end
abbrev pub GivesClause : Clauses → Option Clause → Clauses → Type 0
GivesClause old None new = (length old.list.codes.now ≤ old.start) × (new ≡ old)
GivesClause old (Some clause) new = (clause.list ≡ old.list) × (clause.start ≡ old.start) × (new.list ≡ old.list) × (new.start ≡ clause.end + 1)
