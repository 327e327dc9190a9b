-- The kinds of the clauses of a row of codes.
-- Assumes nothing.
use mathlib.Core.Path.{◌≡◌, sym, ◌∙◌}
use mathlib.Core.Logic.{◌≢◌}
use mathlib.Core.Bool.{true, false, ◌&&◌}
use mathlib.Core.List.{List}
use Prim.Native.Nat.{ℕ, ◌+◌, ◌<◌}
use native.Mathlib.Omega.{arith}
use native.Mathlib.Decide.{ℕ_discrete}
use lib.Dec.{leb}
use lib.ListN.{length, get_or, set, length-set}
use lib.Seq.{get_or-set_same, get_or-set_other}
use borrow.Author.Tests.{eq-eqb, ne_eqb, le-leb}
use borrow.Table.Steps.{cases}
use Rattle.clauses.specs.Row.{clause_at, Starts, LiteralAt, start_of}
use Rattle.clauses.proofs.Lists.{and_both, both_and}
use Rattle.clauses.proofs.Rows.{starts_before}
use Rattle.clauses.proofs.StartOf.{start_only}
use Rattle.gates.specs.Normal.{Normal}
use Rattle.gates.specs.declared.kind.Kind.{Kind}
use Rattle.gates.specs.declared.kind.Kind.TheVariants.{Other, Long, Three}
use Rattle.gates.specs.Mark.{is_first, is_candidate, kind_of, Kinds}
use Rattle.gates.specs.Ites.{in_three}
use Rattle.gates.proofs.Threes.{in_three_is, is_in_three}

module _ (row : List ℕ) (b : ℕ) where
  pub candidate_kind : is_candidate row b ≡ true → length (clause_at row b) ≢ 3 → kind_of row b ≡ Long
  unfolding kind_of
  candidate_kind t n = rw (t, ne_eqb _ _ n)

  pub three_kind : is_candidate row b ≡ true → length (clause_at row b) ≡ 3 → kind_of row b ≡ Three
  unfolding kind_of
  three_kind t e = rw (t, eq-eqb _ _ e)

  pub other_kind : is_candidate row b ≡ false → kind_of row b ≡ Other
  unfolding kind_of
  other_kind t = rw t

  pub kind_other : kind_of row b ≡ Other → is_candidate row b ≡ false
  kind_other h =
      cases (is_candidate row b)
      (λ t. go t (ℕ_discrete (length (clause_at row b)) 3))
      (λ t. t)
    where
      go : is_candidate row b ≡ true → Dec (length (clause_at row b) ≡ 3) → is_candidate row b ≡ false
      go t (yes e) = let q : Three ≡ Other = sym (three_kind t e) ∙ h in cc
      go t (no n) = let q : Long ≡ Other = sym (candidate_kind t n) ∙ h in cc

  pub kind_candidate : kind_of row b ≢ Other → is_candidate row b ≡ true
  kind_candidate n = cases (is_candidate row b) (λ t. t) (λ t. absurd (n (other_kind t)))

  pub three_size : kind_of row b ≡ Three → length (clause_at row b) ≡ 3
  three_size h = go (ℕ_discrete (length (clause_at row b)) 3)
    where
      go : Dec (length (clause_at row b) ≡ 3) → length (clause_at row b) ≡ 3
      go (yes e) = e
      go (no n) = let q : Long ≡ Three = sym (candidate_kind (kind_candidate (λ o. let r : Three ≡ Other = sym h ∙ o in cc)) n) ∙ h in cc

  kind_first : kind_of row b ≢ Other → is_first row b ≡ true
  unfolding is_candidate
  kind_first n = (and_both (leb 3 (length (clause_at row b))) (is_first row b) (kind_candidate n)).1

  first_kind : length (clause_at row b) ≡ 3 → is_first row b ≡ true → kind_of row b ≡ Three
  unfolding is_candidate
  first_kind e f = three_kind (both_and (le-leb 3 (length (clause_at row b)) (omega arith)) f) e

-- Places of clauses of three literals

module _ {row : List ℕ} (normal : Normal row) (p : ℕ) (inside : p < length row) where
  pub other_place : kind_of row (start_of row p) ≢ Three → (in_three row p && is_first row (start_of row p)) ≡ false
  other_place n =
      cases (in_three row p && is_first row (start_of row p))
      (λ t.
      let a = and_both (in_three row p) _ t in
      absurd (n (first_kind row (start_of row p) (in_three_is row p a.0).clause.size a.1)))
      (λ t. t)

-- A literal of a clause of kind three

module _ {row : List ℕ} (normal : Normal row) (b p : ℕ) where
  pub three_start : LiteralAt row b p → start_of row p ≡ b
  three_start l = start_only row b p l.start l.low (omega (arith, l.high)) (omega (arith, l.high, normal.ended b l.start))

  pub three_literal : kind_of row b ≡ Three → LiteralAt row b p → (in_three row p && is_first row (start_of row p)) ≡ true
  three_literal h l =
      let size : length (clause_at row b) ≡ 3 = three_size row b h in
      rw (three_start l)
      (both_and (is_in_three row b p (three_start l) (omega (arith, l.high, size)) (record { inside = omega (arith, normal.ended b l.start, size); size = size }))
      (kind_first row b (λ o. let r : Three ≡ Other = sym h ∙ o in cc)))

-- As they are written

module _ {row : List ℕ} {kinds : List Kind} where
  pub kinds_more : (b : ℕ) (k : Kind) → Starts row b → Kinds row kinds b → k ≡ kind_of row b → Kinds row (set kinds b k) (b + length (clause_at row b) + 1)
  kinds_more b k s d e = record { room = rw length-set d.room; at = λ a h t. at a h t (ℕ_discrete a b) }
    where
      at : (a : ℕ) → a < b + length (clause_at row b) + 1 → Starts row a → Dec (a ≡ b) → get_or (set kinds b k) a Other ≡ kind_of row a
      at a h t (yes i) = rw (i, get_or-set_same kinds b k Other (omega (arith, s.inside, d.room))) e
      at a h t (no n) = get_or-set_other kinds b a k Other n ∙ d.at a (starts_before row b a t h n) t
