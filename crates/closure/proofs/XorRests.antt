-- What is left of an XOR's literals, place by place.
-- Assumes nothing.
use mathlib.Core.Path.{◌≡◌, refl, sym, ◌∙◌, ap, subst, subst⁻¹}
use mathlib.Core.Logic.{◌≢◌}
use mathlib.Core.Bool.{false}
use mathlib.Core.List.{List, ◌∷◌}
use Prim.Native.Nat.{ℕ, suc, ◌+◌, ◌-◌, ◌≤◌, ◌<◌}
use native.Mathlib.Omega.{arith}
use lib.ListN.{get_or}
use Rattle.clauses.specs.Code.{net}
use Rattle.rules.specs.Answer.{lead_of}
use Rattle.closure.specs.Xors.{odd_nets, odd_sign, packed, Digits, others, rest_of, Packable}
use Rattle.closure.specs.declared.nets.Rest.{Rest}
use Rattle.closure.proofs.OddNets.{odd_digits, odd_length, packed_three}
use Rattle.closure.proofs.XorPlaces.{others_skip, others_more, others_at, others_few}

module _ (old row : List ℕ) (b p : ℕ) where
  abbrev f : ℕ → ℕ
  f = lead_of old

  none_left : record { key = 0; odd = false } ≡ rest_of f (others row p b 0)
  unfolding rest_of others odd_nets packed odd_sign
  none_left = refl

  pub rest_begins : record { key = 0; odd = false } ≡ rest_of f (others row p b (b - b))
  rest_begins = let e : 0 ≡ b - b = omega arith in none_left ∙ ap (λ (i : ℕ). rest_of f (others row p b i)) e

  -- the literal at place p is left out
  pub rest_skips : (q : ℕ) (r : Rest) → b ≤ q → q ≡ p → r ≡ rest_of f (others row p b (q - b)) → r ≡ rest_of f (others row p b (q + 1 - b))
  rest_skips q r l e h =
      let next : suc (q - b) ≡ q + 1 - b = omega arith in
      h ∙ ap (rest_of f) (sym (others_skip row p b (q - b) (omega arith))) ∙ ap (λ (i : ℕ). rest_of f (others row p b i)) next

  pub rest_goes_on : (q : ℕ) (r : Rest) → b ≤ q → q ≢ p → r ≡ rest_of f (get_or row q 0 ∷ others row p b (q - b)) → r ≡ rest_of f (others row p b (q + 1 - b))
  rest_goes_on q r l n h =
      let at : q ≡ b + (q - b) = omega arith in
      let next : suc (q - b) ≡ q + 1 - b = omega arith in
      h ∙ ap (λ (k : ℕ). rest_of f (get_or row k 0 ∷ others row p b (q - b))) at ∙ ap (rest_of f) (sym (others_more row p b (q - b) (λ d. n (omega arith))))
      ∙ ap (λ (i : ℕ). rest_of f (others row p b i)) next

module _ {old row : List ℕ} {b n p : ℕ} (k : Packable old row b n p) where
  pub rest_digits : (i : ℕ) → i ≤ n → Digits (odd_nets (lead_of old) (others row p b i))
  rest_digits i h = odd_digits (lead_of old) (others row p b i) (λ x m. small x (others_at row p b i x m))
    where
      small : (x : ℕ) → (j : ℕ) × (j < i) × (x ≡ get_or row (b + j) 0) → net (lead_of old x) < 65536
      small x t = let l : t.0 < i = t.1 in subst⁻¹ (λ (y : ℕ). net (lead_of old y) < 65536) t.2 (k.nets t.0 (omega arith))

  -- before another literal there are at most three nets
  room_at : (i : ℕ) (r : Rest) → i < n → b + i ≢ p → r ≡ rest_of (lead_of old) (others row p b i) → r.key < 281474976710656
  unfolding rest_of
  room_at i r l e h =
      subst⁻¹ (λ (x : ℕ). x < 281474976710656) (ap (λ (q : Rest). q.key) h)
      (packed_three (odd_nets (lead_of old) (others row p b i)) (rest_digits i (omega arith))
      (omega (arith, odd_length (lead_of old) (others row p b i), others_few row p b i n k.low k.high l e, k.five)))

  pub rest_room : (q : ℕ) (r : Rest) → b ≤ q → q < b + n → q ≢ p → r ≡ rest_of (lead_of old) (others row p b (q - b)) → r.key < 281474976710656
  rest_room q r l h e i = room_at (q - b) r (omega arith) (λ d. e (omega arith)) i

  pub net_small : (q : ℕ) → b ≤ q → q < b + n → net (lead_of old (get_or row q 0)) < 65536
  net_small q l h =
      let at : b + (q - b) ≡ q = omega arith in
      subst (λ (i : ℕ). net (lead_of old (get_or row i 0)) < 65536) at (k.nets (q - b) (omega arith))
