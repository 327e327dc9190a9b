-- What the steps of closing leave for each other. Only inner contracts cite these.
-- Assumes nothing.
use Rattle.std.specs.Prelude.{◌≡◌, true, List, [], ◌∷◌, ◌++◌, ℕ, ◌≤◌, ℤ, length, drop}
use Rattle.clauses.specs.Limit.{max_nets, max_entries}
use Rattle.clauses.specs.Clause.{clauses_of}
use Rattle.clauses.specs.Refusal.{decide, first_over, is_ended}
use Rattle.rules.specs.Answer.{own}
use Rattle.rules.specs.Compute.{ended, closed, answer}
use Rattle.closure.specs.Closing.{max_work, too_many_rounds, Outcome, refused, accepted}
use Rattle.rules.specs.declared.Verdict.{Verdict}

-- what tests 5 to 12 leave: the limits, the room, the entries of nets 1 to V and the 0 at the end
pub record Passed (v : ℕ) (row : List ℤ) (leads work : List ℕ) : Type 0 where
  pub nets : v ≤ max_nets
  pub entries : length row ≤ max_entries
  pub lead_room : v ≤ length leads
  pub work_room : max_work ≤ length work
  pub within : length row ≤ first_over v row
  pub ended : is_ended row ≡ true

-- what is left of closing once tests 5 to 12 have passed: test 14, and the answer
unfoldable pub close_rounds : ℕ → List ℤ → ℕ → List ℕ → List ℕ → Outcome
close_rounds v row limit leads work =
    let a = answer v (clauses_of row) limit in
    decide (refused leads work) (accepted v leads work a) (too_many_rounds v a ∷ [])

-- the rounds have ended, with leads that stand at the start of the lead row; the rest of it is as it was
pub record ClosedTo (v : ℕ) (cs : List (List ℕ)) (limit : ℕ) (leads leads' : List ℕ) (w : Verdict) (n g : ℕ) : Type 0 where
  pub last : List ℕ
  pub ends : ended w n last ≡ closed v cs limit
  pub left : g ≡ length (own v last)
  pub row : leads' ≡ last ++ drop v leads
