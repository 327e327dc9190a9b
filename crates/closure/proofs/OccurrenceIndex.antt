-- The index of a row: the clause of each place, and whether a rule about its gates reads its lead.
-- Assumes nothing.
use mathlib.Core.Path.{◌≡◌, refl, sym, ◌∙◌, ap, subst, subst⁻¹}
use mathlib.Core.Logic.{◌≢◌, ◌⊎◌, inl, inr, ⊎_elim, ⊎_map}
use mathlib.Core.Bool.{Bool, true, false, true≢false}
use mathlib.Core.List.{List}
use Prim.Native.Nat.{ℕ, ◌+◌, ◌/◌, ◌%◌, ◌≤◌, ◌<◌}
use native.Mathlib.Omega.{arith}
use native.Mathlib.Decide.{dec_lt, ℕ_discrete}
use lib.ListN.{length, get_or, set}
use lib.Seq.{get_or-set_same, get_or-set_other}
use borrow.Author.Tests.{eqb-true, ne_eqb}
use Rattle.std.proofs.Common.{Option, None, Some, MatchOption}
use Rattle.std.specs.Option.{is_some, ForNone}
use Rattle.gates.specs.Found.{is_and, is_select_next, is_select_after, is_xor}
use Rattle.clauses.specs.Row.{clause_at, Starts, LiteralAt, around}
use Rattle.clauses.proofs.Rows.{starts_apart}
use Rattle.clauses.proofs.Around.{around_last, around_next}
use Rattle.closure.specs.Changes.{TiedAt, ReadAt}
use Rattle.closure.specs.Occurrences.{NoAnd, Ties, Thens, Reads, PlaceListed, PlacesListed, Indexed}

-- Making the index

-- one more place of which P holds
pub places_more : (P : ℕ → Type 0) (b q : ℕ) → ((k : ℕ) → b ≤ k → k < q → P k) → P q → (k : ℕ) → b ≤ k → k < q + 1 → P k
places_more P b q before here k l h = go (ℕ_discrete k q)
  where
    go : Dec (k ≡ q) → P k
    go (yes e) = subst⁻¹ P e here
    go (no n) = before k l (omega arith)

-- the mark of a side
pub side-mark : (m : ℕ) → (is_select_next m ≡ true) ⊎ (is_select_after m ≡ true) → 2 ≤ m
unfolding is_select_next is_select_after
side-mark m (inl h) = omega (arith, eqb-true (m / 2 % 2) 1 h)
side-mark m (inr h) = omega (arith, eqb-true (m / 4 % 2) 1 h)

xor_one : (m : ℕ) → is_xor m ≡ true → m ≡ 1
unfolding is_xor
xor_one m h = eqb-true m 1 h

-- the output of an AND that a search over places finds
pub and_found : (marks : List ℕ) (from to : ℕ) (r : Option ℕ)
    → MatchOption r ((k : ℕ) → from ≤ k → k < to → get_or marks k 0 % 2 ≢ 1) (λ i. (from ≤ i) × (i < to) × (get_or marks i 0 % 2 ≡ 1) × ((k : ℕ) → from ≤ k → k < i → get_or marks k 0 % 2 ≢ 1))
    → MatchOption r (NoAnd marks from to) (λ i. (i < to) × NoAnd marks from i)
unfolding is_and
and_found marks from to None n = λ k l h. ne_eqb _ 1 (n k l h)
and_found marks from to (Some i) (l, m, t, before) = (m, λ k a h. ne_eqb _ 1 (before k a h))

-- what ties a place of a clause that is no XOR's: an output of an AND at another place
module _ (marks : List ℕ) (b e q : ℕ) (plain : get_or marks e 0 ≢ 1) where
  tied_by : Ties marks b e q → (p : ℕ) × (b ≤ p) × (p < e) × (is_and (get_or marks p 0) ≡ true) × (p ≢ q)
  tied_by (inl x) = absurd (plain (xor_one (get_or marks e 0) x))
  tied_by (inr a) = a

  pub tied_none : NoAnd marks b e → ¬ Ties marks b e q
  tied_none none t = let a = tied_by t in true≢false (sym a.3 ∙ none a.0 a.1 a.2)

  pub tied_one : (second : Option ℕ) → NoAnd marks b q → ForNone second (NoAnd marks (q + 1) e) → Ties marks b e q → is_some second ≡ true
  tied_one (Some s) before behind t = refl
  tied_one None before behind t = let a = tied_by t in absurd (go a.0 a.1 a.2 a.3 (dec_lt a.0 q) a.4)
    where
      go : (p : ℕ) → b ≤ p → p < e → is_and (get_or marks p 0) ≡ true → Dec (p < q) → p ≢ q → ⊥
      go p l h i (yes m) n = true≢false (sym i ∙ before p l m)
      go p l h i (no m) n = true≢false (sym i ∙ behind refl p (omega arith) h)

-- the literal t of a side comes two places after the select, or one
module _ (b p : ℕ) (low : b ≤ p) (high : p < b + 3) where
  thrice : around b (around b (around b p)) ≡ p
  thrice = go (ℕ_discrete p (b + 2)) (ℕ_discrete p (b + 1))
    where
      go : Dec (p ≡ b + 2) → Dec (p ≡ b + 1) → around b (around b (around b p)) ≡ p
      go (yes e) d = rw (around_last b p e, around_next b b (λ z. omega arith), around_next b (b + 1) (λ z. omega arith)) (omega arith)
      go (no n) (yes e) = rw (around_next b p n, around_last b (p + 1) (omega arith), around_next b b (λ z. omega arith)) (omega arith)
      go (no n) (no m) =
          let f : p ≡ b = omega arith in
          rw (around_next b p n, around_next b (p + 1) (λ z. omega arith), around_last b (p + 1 + 1) (omega arith)) (omega arith)

next_odd : (m : ℕ) → is_select_next m ≡ true → m / 2 % 2 ≡ 1
unfolding is_select_next
next_odd m h = eqb-true (m / 2 % 2) 1 h

after_odd : (m : ℕ) → is_select_after m ≡ true → m / 4 % 2 ≡ 1
unfolding is_select_after
after_odd m h = eqb-true (m / 4 % 2) 1 h

pub then_by : (marks : List ℕ) (b e q : ℕ) → Thens marks b e q
    → (get_or marks (around b q) 0 / 2 % 2 ≡ 1) ⊎ (get_or marks (around b (around b q)) 0 / 4 % 2 ≡ 1)
then_by marks b e q (p, l, h, three, by) =
    ⊎_map
    (λ k. next_odd _ (subst⁻¹ (λ (i : ℕ). is_select_next (get_or marks i 0) ≡ true) (ap (around b) k.1 ∙ thrice b p l (omega (arith, three))) k.0))
    (λ k. after_odd _ (subst⁻¹ (λ (i : ℕ). is_select_after (get_or marks i 0) ≡ true) (ap (λ (i : ℕ). around b (around b i)) k.1 ∙ thrice b p l (omega (arith, three))) k.0))
    by

-- the places of a clause are listed one by one
listed_same : (marks starts starts' : List ℕ) (reads reads' : List Bool) (b e q : ℕ) → get_or starts' q 0 ≡ get_or starts q 0 → get_or reads' q false ≡ get_or reads q false
    → PlaceListed marks b e starts reads q → PlaceListed marks b e starts' reads' q
listed_same marks starts starts' reads reads' b e q s t l = record { start = s ∙ l.start; read = λ k. t ∙ l.read k }

pub listed_on : (marks starts : List ℕ) (reads : List Bool) (b e q : ℕ) (r : Bool) → q < length starts → q < length reads → (Reads marks b e q → r ≡ true)
    → ((k : ℕ) → b ≤ k → k < q → PlaceListed marks b e starts reads k) → (k : ℕ) → b ≤ k → k < q + 1 → PlaceListed marks b e (set starts q b) (set reads q r) k
listed_on marks starts reads b e q r room space read below =
    places_more (PlaceListed marks b e (set starts q b) (set reads q r)) b q
    (λ k l h. listed_same marks starts (set starts q b) reads (set reads q r) b e k (get_or-set_other starts q k b 0 (λ z. omega arith)) (get_or-set_other reads q k r false (λ z. omega arith)) (below k l h))
    (record { start = get_or-set_same starts q b 0 room; read = λ k. get_or-set_same reads q r false space ∙ read k })

-- one more clause
module _ (codes marks starts starts' : List ℕ) (reads reads' : List Bool) (b e : ℕ) (s : Starts codes b) (end : e ≡ b + length (clause_at codes b))
    (places : (q : ℕ) → b ≤ q → q < e → PlaceListed marks b e starts' reads' q)
    (others : (q : ℕ) → (q < b) ⊎ (e ≤ q) → (get_or starts' q 0 ≡ get_or starts q 0) × (get_or reads' q false ≡ get_or reads q false))
    (below : PlacesListed codes marks starts reads b) where
  pub listed_more : PlacesListed codes marks starts' reads' (e + 1)
  listed_more d q l h = go (ℕ_discrete d b) (dec_lt b d)
    where
      go : Dec (d ≡ b) → Dec (b < d) → PlaceListed marks d (d + length (clause_at codes d)) starts' reads' q
      go (yes k) m =
          let f : q < e = omega (arith, l.high, ap (λ (i : ℕ). i + length (clause_at codes i)) k) in
          subst⁻¹ (λ (i : ℕ). PlaceListed marks i (i + length (clause_at codes i)) starts' reads' q) k
          (subst (λ (i : ℕ). PlaceListed marks b i starts' reads' q) end (places q (omega (arith, l.low)) f))
      go (no n) (yes m) = absurd (omega (arith, starts_apart codes b d l.start m))
      go (no n) (no m) =
          let o = others q (inl (omega (arith, l.high, starts_apart codes d b s (omega arith)))) in
          listed_same marks starts starts' reads reads' d _ q o.0 o.1 (below d q l (omega arith))

-- Reading it

module _ (codes marks starts : List ℕ) (reads : List Bool) (occurs links : List ℕ) (indexed : Indexed codes marks starts reads occurs links) (b q : ℕ) (l : LiteralAt codes b q) where
  at : PlaceListed marks b (b + length (clause_at codes b)) starts reads q
  at = indexed.places b q l l.start.inside

  pub place_start : get_or starts q 0 ≡ b
  place_start = at.start

  pub place_tied : TiedAt codes marks b q → get_or reads q false ≡ true
  place_tied k = at.read (inl (⊎_elim (λ i. inr (i.output, i.output-at.low, i.output-at.high, i.mark, i.apart)) inl k.by))

  pub place_read : ReadAt codes marks b q → get_or reads q false ≡ true
  place_read (inl k) = at.read (inr (inl (side-mark (get_or marks q 0) k.marked)))
  place_read (inr k) = at.read (inr (inr (k.select, k.select-at.low, k.select-at.high, ap (λ (n : ℕ). b + n) k.three, k.by)))

-- the clause of each literal's place
pub places_start : (codes marks starts : List ℕ) (reads : List Bool) → PlacesListed codes marks starts reads (length codes) → (b q : ℕ) → LiteralAt codes b q → get_or starts q 0 ≡ b
places_start codes marks starts reads places b q l = (places b q l l.start.inside).start
