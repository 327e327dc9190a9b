-- The index of a row and a worklist that is being made, each as one value. Only inner contracts cite these.
-- Assumes nothing.
use Rattle.std.specs.Prelude.{◌≡◌, List, ℕ, ◌≤◌, length}
use Rattle.closure.specs.declared.occurrences.Occurrences.{Occurrences}
use Rattle.closure.specs.declared.worklist.Worklist.{Worklist}
use Rattle.closure.specs.Occurrences.{Indexed}
use Rattle.closure.specs.Worklist.{Keeps, Working}

-- the index is that of the row with these marks
abbrev pub IndexOf : Occurrences → List ℕ → Type 0
IndexOf o marks = Indexed o.codes.now marks o.starts.now o.reads.now o.occurs.now o.links.now

-- the clauses that are seen are on the worklist, and there is room for all clauses of the row
pub record Listing (row : List ℕ) (w : Worklist) : Type 0 where
  pub working : Working row w.seen.now w.list.now w.work.clauses w.work.entries
  pub list_room : length row ≤ length w.list.now
  pub seen_room : length row ≤ length w.seen.now

-- more clauses may be seen, in the same rows
pub record Listed (row : List ℕ) (w w' : Worklist) : Type 0 where
  pub listing : Listing row w'
  pub keeps : Keeps w.seen.now w'.seen.now
  pub list_same : w'.list.ghost_name ≡ w.list.ghost_name
  pub seen_same : w'.seen.ghost_name ≡ w.seen.ghost_name
  pub list_size : length w'.list.now ≡ length w.list.now
  pub seen_size : length w'.seen.now ≡ length w.seen.now
