-- The tests of closing: what a check of the list tells, and what acceptance leaves.
-- Assumes nothing.
use mathlib.Core.Path.{◌≡◌, ◌∙◌}
use mathlib.Core.Logic.{◌≢◌}
use mathlib.Core.List.{List, ◌∷◌}
use Prim.Native.Nat.{ℕ, ◌+◌, ◌≤◌, ◌<◌}
use native.Mathlib.Omega.{arith}
use borrow.Author.Tests.{lt-ltb, le-ltb, ltb-false, not-false}
use lib.IntN.{ℤ}
use lib.ListN.{length}
use Rattle.std.specs.Prelude.{Result, Ok, Err}
use Rattle.clauses.specs.Clause.{clauses_of}
use Rattle.clauses.specs.Listing.{Fits}
use Rattle.clauses.specs.Refusal.{Test, decide, is_ended, entry_tests}
use Rattle.clauses.specs.Tally.{tally_of}
use Rattle.clauses.specs.Check.{check_sizes, check_entries}
use Rattle.clauses.specs.declared.refusal.Refusal.{Refusal}
use Rattle.clauses.specs.declared.refusal.Refusal.TheVariants.{LeadsTooShort, WorkTooShort}
use Rattle.clauses.proofs.Deciding.{NoneHolds, decide_accepted, decide_none_holds}
use Rattle.clauses.proofs.Fitting.{entries_fit}
use Rattle.clauses.proofs.Tests.{passed, passed_none_holds, decide_append, decide_passed, decide_refused, sizes_passed, sizes_refused}
use Rattle.rules.specs.declared.Verdict.TheVariants.{Unfinished}
use Rattle.rules.specs.Compute.{answer}
use Rattle.closure.specs.Closing.{max_work, leads_too_short, work_too_short, list_tests, check_list, Outcome, refused, accepted, closing_tests, closing}
use Rattle.closure.specs.Passed.{Passed, close_rounds}
use Rattle.closure.specs.declared.close.Summary.{Summary}
use Rattle.rules.proofs.Theorems.{rounds_bound, answer_finished}

-- A check of the list

module _ (v c : ℕ) (row : List ℤ) (leads work : ℕ) where
  -- the tests behind 5 to 7
  abbrev others : List Test
  others = leads_too_short v leads ∷ work_too_short work ∷ entry_tests v c row

  pub list_sizes : (r : Refusal) → check_sizes v c (length row) ≡ Err r → check_list v c row leads work ≡ Err r
  unfolding check_list
  list_sizes r e = sizes_refused Err passed v c row others r e

  module _ (e : check_sizes v c (length row) ≡ passed) where
    behind_sizes : check_list v c row leads work ≡ decide Err passed others
    unfolding check_list
    behind_sizes = sizes_passed Err passed v c row others e

    pub list_leads : leads < v → check_list v c row leads work ≡ Err LeadsTooShort
    unfolding decide
    list_leads h = behind_sizes ∙ rw (lt-ltb _ _ h)

    module _ (h : v ≤ leads) where
      pub list_work : work < max_work → check_list v c row leads work ≡ Err WorkTooShort
      unfolding decide
      list_work k = behind_sizes ∙ rw (le-ltb _ _ h, lt-ltb _ _ k)

      pub list_entries : max_work ≤ work → check_list v c row leads work ≡ check_entries c (tally_of v row)
      unfolding decide check_entries tally_of
      list_entries k = behind_sizes ∙ rw (le-ltb _ _ h, le-ltb _ _ k)

  -- no test holds: the literals are of nets 1 to V
  pub none_holds_fits : NoneHolds (list_tests v c row leads work) → Fits v (clauses_of row)
  none_holds_fits n = entries_fit v row (ltb-false _ _ n.1.1.1.1.1.0)

-- the tests of the list, and then the rest
pub closing_parts : (v c : ℕ) (row : List ℤ) (limit : ℕ) (leads work : List ℕ)
    → closing v c row limit leads work ≡ decide (refused leads work) (close_rounds v row limit leads work) (list_tests v c row (length leads) (length work))
unfolding closing closing_tests close_rounds
closing_parts v c row limit leads work = decide_append (refused leads work) _ (list_tests v c row (length leads) (length work)) _

module _ (v c : ℕ) (row : List ℤ) (leads work : List ℕ) where
  abbrev check : Result (Unit {0}) Refusal
  check = check_list v c row (length leads) (length work)

  pub closing_refused : (limit : ℕ) (r : Refusal) → check ≡ Err r → closing v c row limit leads work ≡ refused leads work r
  unfolding check_list
  closing_refused limit r h =
      closing_parts v c row limit leads work
      ∙ decide_refused (refused leads work) (close_rounds v row limit leads work) (list_tests v c row (length leads) (length work)) r h

  pub closing_rounds : (limit : ℕ) → check ≡ passed → closing v c row limit leads work ≡ close_rounds v row limit leads work
  unfolding check_list
  closing_rounds limit h =
      closing_parts v c row limit leads work
      ∙ decide_passed (refused leads work) (close_rounds v row limit leads work) (list_tests v c row (length leads) (length work)) h

  none_holds_passed : NoneHolds (list_tests v c row (length leads) (length work)) → Passed v row leads work
  none_holds_passed n =
      record {
        nets = ltb-false _ _ n.0;
        entries = ltb-false _ _ n.1.1.0;
        lead_room = ltb-false _ _ n.1.1.1.0;
        work_room = ltb-false _ _ n.1.1.1.1.0;
        within = ltb-false _ _ n.1.1.1.1.1.0;
        ended = not-false (is_ended row) n.1.1.1.1.1.1.0;
      }

  pub list_passed : check ≡ passed → Passed v row leads work
  unfolding check_list
  list_passed h = none_holds_passed (passed_none_holds (list_tests v c row (length leads) (length work)) h)

-- Test 14 never holds, and V + 1 rounds are enough

module _ (v : ℕ) (row : List ℤ) (limit : ℕ) (leads work : List ℕ) (fit : Fits v (clauses_of row)) where
  pub never_too_many : (answer v (clauses_of row) limit).rounds ≤ v + 1
  never_too_many = let h = rounds_bound v (clauses_of row) fit limit in omega arith

  -- a limit over V is enough: the list is settled, or there is a contradiction
  pub never_unfinished : v < limit → (answer v (clauses_of row) limit).verdict ≢ Unfinished
  never_unfinished = answer_finished v (clauses_of row) fit limit

  pub rounds_accepted : close_rounds v row limit leads work ≡ accepted v leads work (answer v (clauses_of row) limit)
  unfolding close_rounds decide
  rounds_accepted = rw (le-ltb _ _ never_too_many)

-- what the result tells: it is an acceptance
is_accepted : Result Summary Refusal → Type 0
is_accepted (Ok s) = Unit {0}
is_accepted (Err r) = ⊥

abbrev Passes : Outcome → Type 0
Passes o = is_accepted o.result

refused_fails : (leads work : List ℕ) (r : Refusal) → Passes (refused leads work r) → ⊥
unfolding refused is_accepted
refused_fails leads work r p = p

module _ (v c : ℕ) (row : List ℤ) (limit : ℕ) (leads work : List ℕ) (s : Summary) (h : (closing v c row limit leads work).result ≡ Ok s) where
  none_holds : NoneHolds (list_tests v c row (length leads) (length work))
  unfolding is_accepted
  none_holds = decide_none_holds (refused leads work) (close_rounds v row limit leads work) Passes (refused_fails leads work) (list_tests v c row (length leads) (length work)) (rw (← closing_parts v c row limit leads work, h) tt)

  pub accepted_passed : Passed v row leads work
  accepted_passed = none_holds_passed v c row leads work none_holds

  pub accepted_fits : Fits v (clauses_of row)
  accepted_fits = none_holds_fits v c row (length leads) (length work) none_holds

  pub accepted_outcome : closing v c row limit leads work ≡ accepted v leads work (answer v (clauses_of row) limit)
  accepted_outcome =
      closing_parts v c row limit leads work
      ∙ decide_accepted (refused leads work) (close_rounds v row limit leads work) (list_tests v c row (length leads) (length work)) none_holds
      ∙ rounds_accepted v row limit leads work accepted_fits
