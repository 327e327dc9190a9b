-- A chain of tests is decided by its parts, and so by the checks that reading, printing and closing share.
-- Assumes nothing.
use mathlib.Core.Path.{◌≡◌, refl, ap, ◌∙◌}
use mathlib.Core.Bool.{Bool, true, false, cond}
use mathlib.Core.List.{List, [], ◌∷◌, ◌++◌}
use Prim.Native.Nat.{ℕ, ◌≤◌}
use native.Mathlib.Omega.{arith}
use lib.Dec.{ltb}
use lib.IntN.{ℤ}
use lib.ListN.{length}
use borrow.Author.Tests.{ltb-false}
use Rattle.std.specs.Prelude.{Result, Ok, Err}
use Rattle.clauses.specs.Limit.{max_nets, max_clauses, max_entries}
use Rattle.clauses.specs.Refusal.{Test, decide, too_many_nets, too_many_clauses, size_tests, entry_tests}
use Rattle.clauses.specs.Tally.{tally_of}
use Rattle.clauses.specs.Check.{check_sizes, check_entries}
use Rattle.clauses.specs.declared.refusal.Refusal.{Refusal}
use Rattle.clauses.specs.declared.refusal.Refusal.TheVariants.{TooManyEntries}
use Rattle.clauses.proofs.Deciding.{NoneHolds, decide_accepted, decide_none_holds}

-- what a chain of tests answers if it passes
abbrev pub passed : Result (Unit {0}) Refusal
passed = Ok tt

-- a chain passes only if none of its tests holds
pub passed_none_holds : (ts : List Test) → decide Err passed ts ≡ passed → NoneHolds ts
passed_none_holds ts h = decide_none_holds Err passed (λ k. k ≡ passed) (λ r e. let z : ◌≡◌ {A = ℕ} 0 1 = cc in omega arith) ts h

module _ {A : Type 0} (refused : Refusal → A) where
  -- a chain refuses as its first test does, or as the rest does
  first_refused : (b : Bool) (r s : Refusal) (rest : Result (Unit {0}) Refusal) (a : A) → cond b (Err r) rest ≡ Err s → (rest ≡ Err s → a ≡ refused s) → cond b (refused r) a ≡ refused s
  first_refused true r s rest a h k = let e : r ≡ s = cc in ap refused e
  first_refused false r s rest a h k = k h

  pub decide_append : (accepted : A) (ts us : List Test) → decide refused accepted (ts ++ us) ≡ decide refused (decide refused accepted us) ts
  unfolding decide
  decide_append accepted [] us = refl
  decide_append accepted (t ∷ ts) us = ap (cond t.holds (refused t.refusal)) (decide_append accepted ts us)

  pub decide_passed : (accepted : A) (ts : List Test) → decide Err passed ts ≡ passed → decide refused accepted ts ≡ accepted
  decide_passed accepted ts h = decide_accepted refused accepted ts (passed_none_holds ts h)

  pub decide_refused : (accepted : A) (ts : List Test) (r : Refusal) → decide Err passed ts ≡ Err r → decide refused accepted ts ≡ refused r
  unfolding decide
  decide_refused accepted [] r h = let e : ◌≡◌ {A = ℕ} 0 1 = cc in absurd (omega arith)
  decide_refused accepted (t ∷ ts) r h =
      first_refused t.holds t.refusal r (decide Err passed ts) (decide refused accepted ts) h
      (decide_refused accepted ts r)

  module _ (accepted : A) (v c : ℕ) (row : List ℤ) (ts : List Test) where
    -- tests 5 to 7 pass: the rest decides
    pub sizes_passed : check_sizes v c (length row) ≡ passed → decide refused accepted (size_tests v c row ++ ts) ≡ decide refused accepted ts
    unfolding check_sizes
    sizes_passed h = decide_append accepted (size_tests v c row) ts ∙ decide_passed (decide refused accepted ts) (size_tests v c row) h

    pub sizes_refused : (r : Refusal) → check_sizes v c (length row) ≡ Err r → decide refused accepted (size_tests v c row ++ ts) ≡ refused r
    unfolding check_sizes
    sizes_refused r h = decide_append accepted (size_tests v c row) ts ∙ decide_refused (decide refused accepted ts) (size_tests v c row) r h

    -- tests 10 to 12 pass: the rest decides
    pub entries_passed : check_entries c (tally_of v row) ≡ passed → decide refused accepted (entry_tests v c row ++ ts) ≡ decide refused accepted ts
    unfolding check_entries tally_of
    entries_passed h = decide_append accepted (entry_tests v c row) ts ∙ decide_passed (decide refused accepted ts) (entry_tests v c row) h

    pub entries_refused : (r : Refusal) → check_entries c (tally_of v row) ≡ Err r → decide refused accepted (entry_tests v c row ++ ts) ≡ refused r
    unfolding check_entries tally_of
    entries_refused r h = decide_append accepted (entry_tests v c row) ts ∙ decide_refused (decide refused accepted ts) (entry_tests v c row) r h

-- what tests 5 to 7 leave
pub sizes_within : (v c entries : ℕ) → check_sizes v c entries ≡ passed → (v ≤ max_nets) × (c ≤ max_clauses) × (entries ≤ max_entries)
unfolding check_sizes
sizes_within v c entries h =
    let n = passed_none_holds (too_many_nets v ∷ too_many_clauses c ∷ record { holds = ltb max_entries entries; refusal = TooManyEntries } ∷ []) h in
    (ltb-false max_nets v n.0, ltb-false max_clauses c n.1.0, ltb-false max_entries entries n.1.1.0)
