-- Searches by the old leads of a clause's literals.
-- Assumes nothing.
use mathlib.Core.Path.{◌≡◌, refl, sym, ◌∙◌, subst, subst⁻¹}
use mathlib.Core.Logic.{◌≢◌, ◌⊎◌, inl, inr}
use mathlib.Core.Bool.{Bool, true, false, not, true≢false}
use mathlib.Core.List.{List, ◌∷◌}
use Prim.Native.Nat.{ℕ, ◌+◌, ◌-◌, ◌*◌, ◌≤◌, ◌<◌}
use Rattle.std.proofs.Common.{Option, None, Some, MatchOption, MatchBool}
use Rattle.std.specs.Option.{is_some}
use Rattle.std.specs.List.{HoldsAt, AllWithin, range_with_len}
use Rattle.std.proofs.lemmas.List.FromFn.{length-range_with_len, get_or-range_with_len}
use native.Mathlib.Omega.{arith}
use native.Mathlib.Decide.{dec_lt, ℕ_discrete}
use lib.Dec.{eqb}
use lib.ListN.{length, get_or}
use borrow.Author.Tests.{eq-eqb, ne_eqb}
use Rattle.clauses.proofs.Lists.{and_both, not_eqb, eqb_not}
use Rattle.clauses.specs.Code.{negate, net}
use Rattle.clauses.proofs.Codes.{negate_negate, net_negate}
use Rattle.clauses.specs.Sign.{flip, is_inverse}
use Rattle.clauses.proofs.Signs.{is_inverse_negate}
use Rattle.rules.specs.Answer.{lead_of}
use Rattle.closure.specs.Passing.{lead_at, is_other, First, FirstOf, Tells}

pub lead_false : (old : List ℕ) → lead_of old 0 ≡ 0
unfolding lead_of is_inverse
lead_false old = refl

pub lead_true : (old : List ℕ) → lead_of old 1 ≡ 1
unfolding lead_of is_inverse
lead_true old = refl

-- The test

module _ (row old : List ℕ) (skip y q : ℕ) where
  pub other_is : is_other row old skip y q ≡ true → (q ≢ skip) × (lead_at row old q ≢ 0) × (lead_at row old q ≢ y)
  unfolding is_other
  other_is h =
      let p = and_both _ _ h in
      let r = and_both _ _ p.1 in (not_eqb q skip p.0, not_eqb (lead_at row old q) 0 r.0, not_eqb (lead_at row old q) y r.1)

  pub other_skip : q ≡ skip → false ≡ is_other row old skip y q
  unfolding is_other
  other_skip e = rw (eq-eqb q skip e)

  pub other_false : q ≢ skip → lead_at row old q ≡ 0 → false ≡ is_other row old skip y q
  unfolding is_other
  other_false n e = rw (ne_eqb q skip n, eq-eqb (lead_at row old q) 0 e)

  pub other_rest : q ≢ skip → lead_at row old q ≢ 0 → not (eqb (lead_at row old q) y) ≡ is_other row old skip y q
  unfolding is_other
  other_rest n m = rw (ne_eqb q skip n, ne_eqb (lead_at row old q) 0 m)

  pub not_other : is_other row old skip y q ≡ false → q ≢ skip → (lead_at row old q ≡ 0) ⊎ (lead_at row old q ≡ y)
  not_other h n = go (ℕ_discrete (lead_at row old q) 0) (ℕ_discrete (lead_at row old q) y)
    where
      go : Dec (lead_at row old q ≡ 0) → Dec (lead_at row old q ≡ y) → (lead_at row old q ≡ 0) ⊎ (lead_at row old q ≡ y)
      go (yes e) d = inl e
      go (no m) (yes e) = inr e
      go (no m) (no k) = absurd (true≢false (sym (eqb_not (lead_at row old q) y k) ∙ other_rest n m ∙ h))

-- the lead of an inverse
pub lead_negate : (old : List ℕ) (c : ℕ) → lead_of old (negate c) ≡ negate (lead_of old c)
unfolding lead_of
lead_negate old c = rw (is_inverse_negate c, net_negate c) (turned (is_inverse c) (get_or (0 ∷ old) (net c) (2 * net c)))
  where
    turned : (b : Bool) (x : ℕ) → flip (not b) x ≡ negate (flip b x)
    turned false x = refl
    turned true x = sym (negate_negate x)

-- The search

-- P holds of the places from `from` up to q
pub record Upto (P : ℕ → Type 0) (from q : ℕ) : Type 0 where
  pub low : from ≤ q
  pub each : (p : ℕ) → from ≤ p → p < q → P p

module _ {P : ℕ → Type 0} {from : ℕ} where
  pub upto_over : {q r : ℕ} → Upto P from q → q ≤ r → ((p : ℕ) → q ≤ p → p < r → P p) → Upto P from r
  upto_over {q} {r} k h block = record { low = omega (arith, k.low); each = λ p l s. go p l s (dec_lt p q) }
    where
      go : (p : ℕ) → from ≤ p → p < r → Dec (p < q) → P p
      go p l s (yes d) = k.each p l d
      go p l s (no n) = block p (omega arith) s

-- no place from `from` up to q passes
abbrev pub Passed : (ℕ → Bool) → ℕ → ℕ → ℕ → Type 0
Passed f from to q = Upto (λ (p : ℕ). f p ≡ false) from q × (q ≤ to)

-- Searches over the numbers of a range

-- the first one that passes
pub first_of : (f : ℕ → Bool) {from to : ℕ} → from ≤ to → (r : Option ℕ)
    → MatchOption r ((k : ℕ) → from ≤ k → k < to → f k ≡ false) (λ i. (from ≤ i) × (i < to) × (f i ≡ true) × ((k : ℕ) → from ≤ k → k < i → f k ≡ false)) → FirstOf f from to r
first_of f h None n = record { low = h; high = omega arith; before = n; here = λ l. absurd (omega arith) }
first_of f h (Some i) (l, m, t, b) = (m, record { low = l; high = omega arith; before = b; here = λ k. t })

-- .. where none is passed over before the search begins
pub first_after : (f : ℕ → Bool) {from at to : ℕ} → from ≤ at → at ≤ to → ((k : ℕ) → from ≤ k → k < at → f k ≡ false) → (r : Option ℕ)
    → MatchOption r ((k : ℕ) → at ≤ k → k < to → f k ≡ false) (λ i. (at ≤ i) × (i < to) × (f i ≡ true) × ((k : ℕ) → at ≤ k → k < i → f k ≡ false)) → FirstOf f from to r
first_after f {from} {at} {to} l h passed None n = record { low = omega arith; high = omega arith; before = λ k a b. go k a b (dec_lt k at); here = λ m. absurd (omega arith) }
  where
    go : (k : ℕ) → from ≤ k → k < to → Dec (k < at) → f k ≡ false
    go k a b (yes d) = passed k a d
    go k a b (no d) = n k (omega arith) b
first_after f {from} {at} l h passed (Some i) (low, m, t, b) = (m, record { low = omega arith; high = omega arith; before = λ k a d. go k a d (dec_lt k at); here = λ z. t })
  where
    go : (k : ℕ) → from ≤ k → k < i → Dec (k < at) → f k ≡ false
    go k a d (yes z) = passed k a z
    go k a d (no z) = b k (omega arith) d

pub none_found : (f : ℕ → Bool) {from to : ℕ} (r : Option ℕ) → is_some r ≡ false → FirstOf f from to r → First f from to to
none_found f None e h = h
none_found f (Some q) e h = absurd (true≢false e)

pub one_found : (f : ℕ → Bool) {from to : ℕ} (r : Option ℕ) → is_some r ≡ true → FirstOf f from to r → (q : ℕ) × (q < to) × First f from to q
one_found f None e h = absurd (true≢false (sym e))
one_found f (Some q) e h = (q, h.0, h.1)

module _ (P : ℕ → Type 0) (from to : ℕ) where
  in_range : (q : ℕ) → from ≤ q → q < to → get_or (range_with_len from (to - from)) (q - from) 0 ≡ q
  in_range q l h =
      let k : q - from < to - from = omega arith in
      get_or-range_with_len from (to - from) (q - from) 0 k ∙ omega arith

  -- whether one passes
  pub any_told : (r : Bool) → MatchBool r ((k : ℕ) × (k < length (range_with_len from (to - from))) × HoldsAt P (range_with_len from (to - from)) k) (AllWithin (λ q. ¬ P q) (range_with_len from (to - from)) 0 (length (range_with_len from (to - from))))
      → Tells ((q : ℕ) × (from ≤ q) × (q < to) × P q) r
  any_told true (k, h, p) =
      let l : k < to - from = omega (arith, length-range_with_len from (to - from)) in
      (from + k, omega arith, omega arith, subst P (get_or-range_with_len from (to - from) k 0 l) (p 0))
  any_told false n = λ (q, l, h, p). n (q - from) 0 (omega arith) (omega (arith, length-range_with_len from (to - from))) (subst⁻¹ P (in_range q l h) p)
