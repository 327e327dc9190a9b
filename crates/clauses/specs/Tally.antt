-- What tests 10 to 12 need to know of a row's entries.
-- Assumes nothing.
use Rattle.std.specs.Prelude.{true, cond, ◌&&◌, List, [], ◌∷◌, ℕ, ◌+◌, eqb, leb, ℤ, length}
use Rattle.clauses.specs.Refusal.{first_over, is_ended, zeros}
use Rattle.clauses.specs.declared.tally.EntryTally.{EntryTally}

-- the tally of a row
unfoldable pub tally_of : ℕ → List ℤ → EntryTally
tally_of v row = record { entries = length row; within = first_over v row; zeros = zeros row; ended = is_ended row }

-- the tally of no entry
abbrev pub start : EntryTally
start = record { entries = 0; within = 0; zeros = 0; ended = true }

-- the tally after one entry more, of magnitude m
unfoldable pub step : ℕ → EntryTally → ℕ → EntryTally
step v t m =
    record {
      entries = t.entries + 1;
      within = cond (eqb t.within t.entries && leb m v) (t.within + 1) t.within;
      zeros = cond (eqb m 0) (t.zeros + 1) t.zeros;
      ended = eqb m 0;
    }

-- the tally after more entries, of the magnitudes ms
unfoldable pub tallied : ℕ → EntryTally → List ℕ → EntryTally
tallied v t [] = t
tallied v t (m ∷ ms) = tallied v (step v t m) ms
