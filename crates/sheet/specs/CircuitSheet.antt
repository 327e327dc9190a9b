-- What the sheet of a circuit says of it.
-- Assumes nothing.
use Rattle.std.specs.Prelude.{◌≡◌, ◌≢◌, Bool, List, ℕ, suc, ◌+◌, ◌*◌, ◌<◌, get_or}
use Rattle.clauses.specs.Assignment.{Assignment}
use Rattle.clauses.specs.Clause.{clauses_of}
use Rattle.aiger.specs.Circuit.{Circuit, Runs}
use Rattle.aiger.specs.Reading.{entries_of}
use Rattle.rules.specs.declared.Verdict.TheVariants.{Contradiction, Unfinished}
use Rattle.rules.specs.Answer.{Answer}
use Rattle.rules.specs.Compute.{answer}
use Rattle.sheet.specs.Sheet.{sheet_text}

-- The sheet is that of the circuit's clauses under round limit M + 1, and finished. 'The satisfaction half of the correctness rule then speaks of the
-- circuit': every assignment that obeys every AND line and makes the output true gives each net its lead's value, and where there is a contradiction there is
-- no such assignment.
pub record CircuitSheet (k : Circuit) (sheet : List ℕ) : Type 0 where
  pub answer_is : Answer
  pub of_clauses : answer_is ≡ answer k.nets (clauses_of (entries_of k)) (k.nets + 1)
  pub sheet_is : sheet ≡ sheet_text k.nets answer_is
  pub finished : answer_is.verdict ≢ Unfinished
  pub true_leads : (value : ℕ → Bool) → Assignment value → Runs value k → (i : ℕ) → i < k.nets → value (2 * suc i) ≡ value (get_or answer_is.leads i 0)
  pub none_runs : answer_is.verdict ≡ Contradiction → (value : ℕ → Bool) → Assignment value → ¬ Runs value k
