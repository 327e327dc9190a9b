-- Each clause of a row of codes stands, as a set, at one place that is the first of its set.
-- Assumes nothing.
use mathlib.Core.Path.{◌≡◌, refl, ◌∙◌, ap, subst⁻¹}
use mathlib.Core.Bool.{true, false, false≢true}
use mathlib.Core.List.{List}
use Prim.Native.Nat.{ℕ, ◌≤◌, ◌<◌}
use native.Mathlib.Omega.{arith}
use borrow.Author.Tests.{eq-eqb, eqb-true}
use borrow.Table.Steps.{cases}
use Rattle.clauses.specs.Clause.{Same, Present, clauses_in}
use Rattle.clauses.specs.Listing.{same_set}
use Rattle.clauses.specs.Row.{clause_at, Starts}
use Rattle.clauses.proofs.Clauses.{same_is, same_refl, same_sym, same_trans}
use Rattle.clauses.proofs.Rows.{listed_starts}
use Rattle.std.proofs.Common.{Option, Some, None}
use Rattle.gates.specs.Search.{first_place}
use Rattle.gates.specs.Mark.{is_at, is_first}
use Rattle.gates.proofs.Places.{Passed, First, place_first, place_nothing, first_only, first-place}

module _ (row : List ℕ) where
  pub first_same : {q r : List ℕ} {b : ℕ} → Same q r → First row q b → First row r b
  first_same s f = record { start = f.start; same = same_trans (same_sym s) f.same; least = λ p h k t. f.least p h k (same_trans s t) }

  pub first_is : (b : ℕ) → is_first row b ≡ true → First row (clause_at row b) b
  unfolding is_first is_at
  first_is b h = go (first_place row (clause_at row b)) refl
    where
      go : (r : Option ℕ) → first_place row (clause_at row b) ≡ r → First row (clause_at row b) b
      go (Some a) e = place_first row (clause_at row b) (e ∙ ap Some (eqb-true a b (rw e at h)))
      go None e = absurd (false≢true (rw e at h))

  pub is-first : (b : ℕ) → First row (clause_at row b) b → is_first row b ≡ true
  unfolding is_first is_at
  is-first b f = rw (first-place row (clause_at row b) f) (eq-eqb b b refl)

  -- a search for its set has found none before it
  pub passed_first : (a b : ℕ) → Starts row b → Passed row (clause_at row b) a → b ≤ a → is_first row b ≡ true
  passed_first a b s k l = is-first b (record { start = s; same = same_refl (clause_at row b); least = λ p h. k.none p (omega arith) })

  -- .. or one
  pub later_copy : (a b : ℕ) → Starts row a → a < b → same_set (clause_at row b) (clause_at row a) ≡ true → is_first row b ≡ false
  later_copy a b s l e = cases (is_first row b) (λ t. absurd ((first_is b t).least a l s (same_is (clause_at row b) (clause_at row a) e))) (λ t. t)

  -- no two of one set
  pub first_once : (a b : ℕ) → is_first row a ≡ true → is_first row b ≡ true → Same (clause_at row a) (clause_at row b) → a ≡ b
  first_once a b f g s = first_only row (clause_at row a) (first_is a f) (first_same (same_sym s) (first_is b g))

  -- where the set of a clause stands first
  pub record FirstOf (c : List ℕ) : Type 0 where
    pub place : ℕ
    pub start : Starts row place
    pub first : is_first row place ≡ true
    pub same : Same c (clause_at row place)

  pub first_of : {c : List ℕ} → Present (clauses_in row) c → FirstOf c
  first_of {c} h = go (first_place row c) refl
    where
      go : (r : Option ℕ) → first_place row c ≡ r → FirstOf c
      go (Some b) e =
          let f = place_first row c e in
          record { place = b; start = f.start; first = is-first b (first_same f.same f); same = f.same }
      go None e =
          let s = listed_starts row h.found h.listed in
          absurd (place_nothing row c e s.place s.start (subst⁻¹ (Same c) s.is h.same))
