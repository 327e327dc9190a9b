-- What closing answers to a clause list, and what the lent rows then hold.
-- Assumes nothing.
use Rattle.std.specs.Prelude.{◌≡◌, List, [], ◌∷◌, ◌++◌, ℕ, ◌+◌, ltb, ℤ, length, take, drop, replicate, Result, Ok, Err}
use Rattle.clauses.specs.Clause.{clauses_of}
use Rattle.clauses.specs.Refusal.{Test, decide, size_tests, entry_tests}
use Rattle.clauses.specs.declared.refusal.Refusal.{Refusal}
use Rattle.clauses.specs.declared.refusal.Refusal.TheVariants.{LeadsTooShort, WorkTooShort, TooManyRounds}
use Rattle.rules.specs.Answer.{Answer}
use Rattle.rules.specs.Compute.{answer}
use Rattle.closure.specs.declared.close.Summary.{Summary}

-- entries of the work row
abbrev pub max_work : ℕ
max_work = 16384

-- 8. 'The lead row has fewer than V entries.'
abbrev pub leads_too_short : ℕ → ℕ → Test
leads_too_short v entries = record { holds = ltb entries v; refusal = LeadsTooShort }

-- 9. 'The work row has fewer than 16,384 entries.'
abbrev pub work_too_short : ℕ → Test
work_too_short entries = record { holds = ltb entries max_work; refusal = WorkTooShort }

-- tests 5 to 12, of V, C, a literal row and the numbers of entries that the lead row and the work row have
abbrev pub list_tests : ℕ → ℕ → List ℤ → ℕ → ℕ → List Test
list_tests v c row leads work = size_tests v c row ++ (leads_too_short v leads ∷ work_too_short work ∷ entry_tests v c row)

-- whether a list passes them
unfoldable pub check_list : ℕ → ℕ → List ℤ → ℕ → ℕ → Result (Unit {0}) Refusal
check_list v c row leads work = decide Err (Ok tt) (list_tests v c row leads work)

-- 14. 'More than V + 1 rounds have been made; only rounds of the closing rules within the limit that change the grouping count, and idle ones
-- never do.' These are the answer's rounds.
abbrev pub too_many_rounds : ℕ → Answer → Test
too_many_rounds v a = record { holds = ltb (v + 1) a.rounds; refusal = TooManyRounds }

-- what closing answers, and what the lent lead row and work row then hold
pub record Outcome : Type 0 where
  pub result : Result Summary Refusal
  pub leads : List ℕ
  pub work : List ℕ

-- 'Everything lent keeps its contents.'
unfoldable pub refused : List ℕ → List ℕ → Refusal → Outcome
refused leads work r = record { result = Err r; leads = leads; work = work }

-- an answer but for its leads
abbrev pub summary : Answer → Summary
summary a =
    record { verdict = a.verdict; rounds = a.rounds; ands = a.ands; xors = a.xors; ites = a.ites; groups = a.groups }

-- 'Leads are handed over in a lent row of 32-bit codes, entry v - 1 for net v'; 'On acceptance the first 16,384 work entries (32-bit) are zero;
-- .. what was lent past that keeps its contents.'
unfoldable pub accepted : ℕ → List ℕ → List ℕ → Answer → Outcome
accepted v leads work a =
    record { result = Ok (summary a); leads = a.leads ++ drop v leads; work = replicate max_work 0 ++ drop max_work work }

-- 'closing 5 to 12 and 14', of V, C, a literal row, a round limit, a lent lead row and a lent work row
unfoldable pub closing_tests : ℕ → ℕ → List ℤ → ℕ → List ℕ → List ℕ → List Test
closing_tests v c row limit leads work =
    list_tests v c row (length leads) (length work) ++ (too_many_rounds v (answer v (clauses_of row) limit) ∷ [])

unfoldable pub closing : ℕ → ℕ → List ℤ → ℕ → List ℕ → List ℕ → Outcome
closing v c row limit leads work =
    decide (refused leads work) (accepted v leads work (answer v (clauses_of row) limit)) (closing_tests v c row limit leads work)

-- closing accepts the list and answers a: its leads are the first V codes of the lead row
pub record Answers (v c : ℕ) (row : List ℤ) (limit : ℕ) (leads work : List ℕ) (a : Answer) : Type 0 where
  pub accepts : (closing v c row limit leads work).result ≡ Ok (summary a)
  pub hands_over : take v (closing v c row limit leads work).leads ≡ a.leads
