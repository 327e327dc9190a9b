-- Laws of the search: first_place gives the first clause with the same literals, and whether there is one says whether it is present.
-- Assumes nothing.
use mathlib.Core.Path.{◌≡◌, refl, sym, ◌∙◌, ap, subst⁻¹}
use mathlib.Core.Bool.{true, false, true≢false}
use mathlib.Core.List.{List, [], ◌∷◌}
use Prim.Native.Nat.{ℕ, ◌+◌, ◌≤◌, ◌<◌}
use native.Mathlib.Omega.{arith}
use native.Mathlib.Decide.{dec_lt, ℕ_discrete}
use lib.ListN.{length, drop}
use borrow.Table.Steps.{cases}
use Rattle.clauses.specs.Clause.{Same, Present, clauses_in}
use Rattle.clauses.specs.Listing.{same_set, present}
use Rattle.clauses.specs.Row.{clause_at, Starts}
use Rattle.clauses.proofs.Clauses.{same_is, is_same, present_is, is_present}
use Rattle.clauses.proofs.Rows.{starts_first, starts_next, starts_apart, clauses_from, clauses_end, listed_starts, starts_listed}
use Rattle.std.specs.Option.{is_some}
use Rattle.std.proofs.Common.{Option, Some, None}
use Rattle.gates.specs.Search.{place_in, first_place, Proper}

module _ (row q : List ℕ) where
  -- a search has come to place b: no clause before it has the literals of q
  pub record Passed (b : ℕ) : Type 0 where
    pub start : b < length row → Starts row b
    pub none : (p : ℕ) → p < b → Starts row p → ¬ Same q (clause_at row p)

  -- the first clause with the literals of q
  pub record First (b : ℕ) : Type 0 where
    pub start : Starts row b
    pub same : Same q (clause_at row b)
    pub least : (p : ℕ) → p < b → Starts row p → ¬ Same q (clause_at row p)

module _ (row q : List ℕ) where
  passed_first : Passed row q 0
  passed_first = record { start = starts_first row; none = λ p h. absurd (omega arith) }

  passed_next : {b : ℕ} → Passed row q b → ¬ Same q (clause_at row b) → Passed row q (b + length (clause_at row b) + 1)
  passed_next {b} k n = record { start = starts_next row b; none = λ p h s. go p h s (dec_lt p b) (ℕ_discrete p b) }
    where
      go : (p : ℕ) → p < b + length (clause_at row b) + 1 → Starts row p → Dec (p < b) → Dec (p ≡ b) → ¬ Same q (clause_at row p)
      go p h s (yes l) d = k.none p l s
      go p h s (no l) (yes e) = subst⁻¹ (λ (i : ℕ). ¬ Same q (clause_at row i)) e n
      go p h s (no l) (no m) = absurd (omega (arith, starts_apart row b p s (omega arith)))

  differ : (b : ℕ) → same_set q (clause_at row b) ≡ false → ¬ Same q (clause_at row b)
  differ b e s = true≢false (sym (is_same q (clause_at row b) s) ∙ e)

  -- the clauses from place b on
  module _ (b : ℕ) (cs : List (List ℕ)) where
    empty_from : clauses_in (drop b row) ≡ [] → length row ≤ b
    empty_from e = go (dec_lt b (length row))
      where
        go : Dec (b < length row) → length row ≤ b
        go (no n) = omega arith
        go (yes h) = let z : ◌≡◌ {A = ℕ} 0 1 = cc (clauses_from row b h) in absurd (omega arith)

    more_from : (c : List ℕ) → clauses_in (drop b row) ≡ c ∷ cs → (b < length row) × (clause_at row b ≡ c) × (clauses_in (drop (b + length (clause_at row b) + 1) row) ≡ cs)
    more_from c e = go (dec_lt b (length row))
      where
        go : Dec (b < length row) → (b < length row) × (clause_at row b ≡ c) × (clauses_in (drop (b + length (clause_at row b) + 1) row) ≡ cs)
        go (no n) = let z : ◌≡◌ {A = ℕ} 0 1 = cc (clauses_end row b (omega arith)) in absurd (omega arith)
        go (yes h) = (h, cc (clauses_from row b h), cc (clauses_from row b h))

  at_from : (cs : List (List ℕ)) (b : ℕ) → Passed row q b → clauses_in (drop b row) ≡ cs → (p : ℕ) → place_in q cs b ≡ Some p → First row q p
  unfolding place_in
  at_from [] b k e p h = let z : ◌≡◌ {A = ℕ} 0 1 = cc in absurd (omega arith)
  at_from (c ∷ cs) b k e p h =
      let m = more_from b cs c e in
      cases (same_set q c) (λ t. here m t (cc (rw (t, place_in) at h)))
      (λ t. at_from cs (b + length (clause_at row b) + 1) (passed_next k (differ b (rw m.1 t))) m.2 p (rw m.1 (rw (t, place_in) at h)))
    where
      here : (b < length row) × (clause_at row b ≡ c) × (clauses_in (drop (b + length (clause_at row b) + 1) row) ≡ cs) → same_set q c ≡ true → b ≡ p → First row q p
      here m t i = rw (← i) (record { start = k.start m.0; same = same_is q (clause_at row b) (rw m.1 t); least = k.none })

  nothing_from : (cs : List (List ℕ)) (b : ℕ) → Passed row q b → clauses_in (drop b row) ≡ cs → place_in q cs b ≡ None → (p : ℕ) → Starts row p → ¬ Same q (clause_at row p)
  unfolding place_in
  nothing_from [] b k e h p s = k.none p (omega (arith, empty_from b [] e, s.inside)) s
  nothing_from (c ∷ cs) b k e h p s =
      let m = more_from b cs c e in
      cases (same_set q c) (λ t. let g = rw (t, place_in) at h in let z : ◌≡◌ {A = ℕ} 0 1 = cc in absurd (omega arith))
      (λ t. nothing_from cs (b + length (clause_at row b) + 1) (passed_next k (differ b (rw m.1 t))) m.2 (rw m.1 (rw (t, place_in) at h)) p s)

  pub place_first : {b : ℕ} → first_place row q ≡ Some b → First row q b
  unfolding first_place
  place_first {b} e = at_from (clauses_in row) 0 passed_first refl b e

  pub place_nothing : first_place row q ≡ None → (p : ℕ) → Starts row p → ¬ Same q (clause_at row p)
  unfolding first_place
  place_nothing e = nothing_from (clauses_in row) 0 passed_first refl e

  pub first_only : {a b : ℕ} → First row q a → First row q b → a ≡ b
  first_only {a} {b} f g = go (dec_lt a b) (dec_lt b a)
    where
      go : Dec (a < b) → Dec (b < a) → a ≡ b
      go (yes l) d = absurd (g.least a l f.start f.same)
      go (no l) (yes m) = absurd (f.least b m g.start g.same)
      go (no l) (no m) = omega arith

  pub first-place : {b : ℕ} → First row q b → first_place row q ≡ Some b
  first-place {b} f = go (first_place row q) refl
    where
      go : (r : Option ℕ) → first_place row q ≡ r → r ≡ Some b
      go (Some a) e = ap Some (first_only (place_first e) f)
      go None e = absurd (place_nothing e b f.start f.same)

  pub nothing_place : ((p : ℕ) → Starts row p → ¬ Same q (clause_at row p)) → first_place row q ≡ None
  nothing_place n = go (first_place row q) refl
    where
      go : (r : Option ℕ) → first_place row q ≡ r → r ≡ None
      go (Some a) e = let f = place_first e in absurd (n a f.start f.same)
      go None e = refl

  -- a clause is found exactly where it is present

  place_present : Proper row → {b : ℕ} → first_place row q ≡ Some b → present (clauses_in row) q ≡ true
  place_present h {b} e =
      let f = place_first e in
      let m = starts_listed row b f.start in
      is_present (clauses_in row) q (record { found = clause_at row b; listed = m; proper = h (clause_at row b) m; same = f.same })

  pub nothing_present : first_place row q ≡ None → present (clauses_in row) q ≡ false
  nothing_present e = cases (present (clauses_in row) q) (λ t. absurd (never (present_is (clauses_in row) q t))) (λ t. t)
    where
      never : Present (clauses_in row) q → ⊥
      never p =
          let s = listed_starts row p.found p.listed in
          place_nothing e s.place s.start (subst⁻¹ (λ (c : List ℕ). Same q c) s.is p.same)

  pub found_present : Proper row → is_some (first_place row q) ≡ present (clauses_in row) q
  found_present h = go (first_place row q) refl
    where
      go : (r : Option ℕ) → first_place row q ≡ r → is_some (first_place row q) ≡ present (clauses_in row) q
      go (Some b) e = ap is_some e ∙ sym (place_present h e)
      go None e = ap is_some e ∙ sym (nothing_present e)

-- Where a search ends

module _ {row q : List ℕ} {b : ℕ} (k : Passed row q b) where
  -- with no clause left
  pub passed_all : length row ≤ b → None ≡ first_place row q
  passed_all l = sym (nothing_place row q (λ i s. k.none i (omega (arith, s.inside)) s))

  -- at a clause with the literals
  pub passed_here : b < length row → same_set q (clause_at row b) ≡ true → Some b ≡ first_place row q
  passed_here h e = sym (first-place row q (record { start = k.start h; same = same_is q (clause_at row b) e; least = k.none }))
