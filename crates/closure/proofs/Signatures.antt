-- Signatures: sums of the hashes of a set, and how the program adds them up.
-- Assumes nothing.
use mathlib.Core.Path.{◌≡◌, refl, sym, ◌∙◌, ap, subst, subst⁻¹}
use mathlib.Core.Logic.{◌≢◌, inl, inr}
use mathlib.Core.Bool.{Bool, true, false, true≢false}
use mathlib.Core.List.{List}
use Prim.Native.Nat.{ℕ, zero, suc, ◌+◌, ◌*◌, ◌≤◌, ◌<◌}
use native.Mathlib.Omega.{arith}
use native.Mathlib.Nat.{mul-le-mul}
use native.Mathlib.Decide.{ℕ_discrete}
use lib.ListN.{get_or}
use Rattle.clauses.specs.Limit.{max_nets}
use Rattle.closure.specs.Passing.{lead_at}
use Rattle.closure.specs.Holding.{Among, Holds}
use Rattle.closure.specs.Matching.{hash_of, SumBelow, none, skip, take, share_of, Summed}
use Rattle.closure.proofs.Holding.{among_on, among_last, among_but}

-- Hashes

pub product_fits : (x y : ℕ) → x < 4294967291 → y < 4294967291 → x * y ≤ 18446744022169944100
product_fits x y h k = mul-le-mul {n₂ = 4294967290} {m₂ = 4294967290} (omega arith) (omega arith)

hash_small : (x : ℕ) → hash_of x ≤ 4503599627370448
unfolding hash_of
hash_small x = omega arith

hash_false : hash_of 0 ≡ 0
unfolding hash_of
hash_false = refl

module _ (held : List Bool) (x : ℕ) where
  pub share_held : get_or held x false ≡ true → share_of held x ≡ 0
  unfolding share_of
  share_held e = rw e refl

  pub share_free : get_or held x false ≡ false → share_of held x ≡ hash_of x
  unfolding share_of
  share_free e = rw e refl

  pub share_small : share_of held x ≤ 4503599627370448
  share_small = go (get_or held x false) refl
    where
      go : (m : Bool) → get_or held x false ≡ m → share_of held x ≤ 4503599627370448
      go true e = omega (arith, share_held e)
      go false e = omega (arith, share_free e, hash_small x)

-- Sums

sum_none : {In : ℕ → Type 0} → ((x : ℕ) → ¬ In x) → (n : ℕ) → SumBelow In n 0
sum_none f zero = none
sum_none f (suc n) = skip (f n) (sum_none f n)

sum_small : {In : ℕ → Type 0} {n s : ℕ} → SumBelow In n s → s ≤ n * 4503599627370448
sum_small none = omega arith
sum_small (skip {n = n} {s = s} a h) = let k : s ≤ n * 4503599627370448 = sum_small h in omega arith
sum_small (take {n = n} {s = s} a h) = let k : s ≤ n * 4503599627370448 = sum_small h in omega (arith, hash_small n)

-- equal sets have equal sums
pub sum_same : {In In' : ℕ → Type 0} → ((x : ℕ) → In x → In' x) → ((x : ℕ) → In' x → In x) → {n s s' : ℕ} → SumBelow In n s → SumBelow In' n s' → s ≡ s'
sum_same f g none none = refl
sum_same f g (skip a h) (skip b k) = sum_same f g h k
sum_same f g (skip {n = n} a h) (take b k) = absurd (a (g n b))
sum_same f g (take {n = n} a h) (skip b k) = absurd (b (f n a))
sum_same f g (take {n = n} a h) (take b k) = ap (λ (s : ℕ). s + hash_of n) (sum_same f g h k)

-- .. where the sets are equal below n
pub sum_below : {In In' : ℕ → Type 0} {n s : ℕ} → ((x : ℕ) → x < n → In x → In' x) → ((x : ℕ) → x < n → In' x → In x) → SumBelow In n s → SumBelow In' n s
sum_below f g none = none
sum_below f g (skip {n = n} a h) = skip (λ b. a (g n (omega arith) b)) (sum_below (λ x l. f x (omega arith)) (λ x l. g x (omega arith)) h)
sum_below f g (take {n = n} a h) = take (f n (omega arith) a) (sum_below (λ x l. f x (omega arith)) (λ x l. g x (omega arith)) h)

-- one element more adds its hash
sum_more : {In In' : ℕ → Type 0} (x : ℕ) → ¬ In x → In' x → ((y : ℕ) → y ≢ x → In y → In' y) → ((y : ℕ) → y ≢ x → In' y → In y)
    → {n s : ℕ} → x < n → SumBelow In n s → SumBelow In' n (s + hash_of x)
sum_more x out inside f g l none = absurd (omega (arith, l))
sum_more {In} {In'} x out inside f g l (skip {n = n} {s = s} a h) = go (ℕ_discrete n x) (λ m. sum_more x out inside f g m h)
  where
    go : Dec (n ≡ x) → (x < n → SumBelow In' n (s + hash_of x)) → SumBelow In' (suc n) (s + hash_of x)
    go (yes e) more =
        subst (λ (k : ℕ). SumBelow In' (suc n) (s + hash_of k)) e
        (take (subst⁻¹ In' e inside) (sum_below (λ y m. f y (λ z. omega (arith, z, e, m))) (λ y m. g y (λ z. omega (arith, z, e, m))) h))
    go (no d) more = skip (λ b. a (g n d b)) (more (omega (arith, l, d)))
sum_more {In} {In'} x out inside f g l (take {n = n} {s = s} a h) = go (ℕ_discrete n x) (λ m. sum_more x out inside f g m h)
  where
    swap : s + hash_of x + hash_of n ≡ s + hash_of n + hash_of x
    swap = omega arith

    go : Dec (n ≡ x) → (x < n → SumBelow In' n (s + hash_of x)) → SumBelow In' (suc n) (s + hash_of n + hash_of x)
    go (yes e) more = absurd (out (subst In e a))
    go (no d) more = subst (SumBelow In' (suc n)) swap (take (f n d a) (more (omega (arith, l, d))))

-- Place by place

module _ (row old : List ℕ) (b p : ℕ) where
  pub summed_begin : Summed row old b b p 0
  summed_begin = sum_none (λ x (a, n). omega (arith, a.low, a.high)) (2 * max_nets + 2)

  pub summed_fits : (q s : ℕ) → Summed row old b q p s → s ≤ 9232379236109418400
  summed_fits q s h = omega (arith, sum_small h)

  pub summed_skip : (q s : ℕ) → q ≡ p → Summed row old b q p s → Summed row old b (q + 1) p s
  summed_skip q s d = sum_below (λ x l (a, n). (among_on a, n)) (λ x l (a, n). (among_but a (inl d), n))

  -- the lead at q adds its share, with those of the places before it held
  module _ {held : List Bool} (q : ℕ) (holds : Holds row old b q p held) (low : b ≤ q) (apart : q ≢ p) (y : ℕ) (is : y ≡ lead_at row old q) (small : y < 2 * max_nets + 2) where
    was : (x : ℕ) → x ≢ y → Among row old b (q + 1) p x → Among row old b q p x
    was x n a = among_but a (inr (λ k. n (sym k ∙ sym is)))

    -- F, or a lead that is held, adds nothing
    same : (s : ℕ) → Summed row old b q p s → ((x : ℕ) → x ≢ 0 → x ≡ y → Among row old b q p x) → Summed row old b (q + 1) p s
    same s h again = sum_below (λ x l (a, n). (among_on a, n)) (λ x l (a, n). (back x a n (ℕ_discrete x y), n)) h
      where
        back : (x : ℕ) → Among row old b (q + 1) p x → x ≢ 0 → Dec (x ≡ y) → Among row old b q p x
        back x a n (yes d) = again x n d
        back x a n (no d) = was x d a

    met : get_or held y false ≡ true → Among row old b q p y
    met = holds.only y

    pub summed_on : (s : ℕ) → Summed row old b q p s → Summed row old b (q + 1) p (s + share_of held y)
    summed_on s h = go (get_or held y false) refl (ℕ_discrete y 0)
      where
        Next : ℕ → Type 0
        Next k = Summed row old b (q + 1) p (s + k)

        nothing : Summed row old b (q + 1) p s → Next 0
        nothing = subst (Summed row old b (q + 1) p) (omega arith)

        go : (m : Bool) → get_or held y false ≡ m → Dec (y ≡ 0) → Next (share_of held y)
        go true e d = subst⁻¹ Next (share_held held y e) (nothing (same s h (λ x n k. subst⁻¹ (Among row old b q p) k (met e))))
        go false e (yes d) =
            subst⁻¹ Next (share_free held y e ∙ ap hash_of d ∙ hash_false) (nothing (same s h (λ x n k. absurd (n (k ∙ d)))))
        go false e (no d) =
            subst⁻¹ Next (share_free held y e)
            (sum_more y (λ (a, n). true≢false (sym (holds.each y a) ∙ e)) (subst⁻¹ (Among row old b (q + 1) p) is (among_last apart low), d) (λ x n (a, z). (among_on a, z)) (λ x n (a, z). (was x n a, z)) small h)
