-- A comparison of a design's outputs with those of its copy joins T to F.
-- Assumes nothing.
use mathlib.Core.Path.{refl, ◌∙◌, ap, subst, subst⁻¹}
use mathlib.Core.Logic.{◌≢◌}
use mathlib.Core.Bool.{true, false}
use mathlib.Core.List.Memᴰ
use mathlib.Core.List.{List, [], ◌∷◌, Memᴰ}
use Prim.Native.Nat.{ℕ, zero, suc}
use native.Mathlib.Omega.{arith}
use native.Mathlib.Nat.{not-suc-le-zero, le_of_suc-le-suc}
use Rattle.clauses.specs.Code.{negate, net}
use Rattle.clauses.specs.Clause.{Mem}
use Rattle.clauses.specs.Lists.{first}
use Rattle.clauses.proofs.Lists.{in_first}
use Rattle.clauses.proofs.Codes.{negate_negate, net_negate}
use Rattle.rules.specs.Rule.{Cancels, Concludes}
use Rattle.rules.specs.Grouping.{After}
use Rattle.rules.specs.Ending.{Clash}
use Rattle.rules.specs.Design.{Gate}
use Rattle.rules.specs.Copy.{Copied, Differs, by-xor, by-and, by-ands, by_or, Miter, asserted, some_of, opposed}
use Rattle.rules.proofs.Groupings.{after_same, after_back, after_chain, after_flip, after_clash, after_grows, after_drawn}
use Rattle.rules.proofs.Designs.{buffer_found, tied_found, xor_found}
use Rattle.rules.proofs.Copies.{input_joined, inverses_joined, shared_same, copy_joined}

module _ {cs : List (List ℕ)} {gs : List Gate} {ρ level : ℕ → ℕ} (copied : Copied cs gs ρ level) where
  -- what says that an output differs from its copy is joined to F
  differs_false : {n x : ℕ} → Differs cs ρ level n x → After cs n x 0
  differs_false (by-xor {n = zero} h g) = absurd (not-suc-le-zero h)
  differs_false (by-xor {n = suc n} {o = o} h g) =
      after_drawn cs n (Concludes.xor_constant (xor_found g) (Cancels.pair false first (copy_joined copied n o (le_of_suc-le-suc h)) Cancels.none))
  differs_false (by-and {n = zero} h g i j) = absurd (not-suc-le-zero h)
  differs_false (by-and {n = suc n} {o = o} h g i j) =
      inverses_joined n g o (negate (ρ o)) i j (subst⁻¹ (After cs n o) (negate_negate (ρ o)) (copy_joined copied n o (le_of_suc-le-suc h)))
  differs_false (by-ands {n = zero} h g k f i j) = absurd (not-suc-le-zero h)
  differs_false (by-ands {n = suc n} {o = o} {p = p} {q = q} h g k f i j) =
      inverses_joined (suc n) f (negate p) (negate q) i j
      (subst⁻¹ (After cs (suc n) (negate p)) (negate_negate q)
      (after_chain cs (suc n) (negate p) (negate o) q (after_flip cs (suc n) true p o (input_joined n g o in_first both))
      (after_back cs (suc n) q (negate o) (input_joined n k (negate o) in_first neither))))
    where
      near : After cs n o (ρ o)
      near = copy_joined copied n o (le_of_suc-le-suc h)

      both : (y : ℕ) → Mem y (o ∷ ρ o ∷ []) → After cs n y o
      both y (Memᴰ.head e) = subst⁻¹ (λ (z : ℕ). After cs n z o) e (after_same cs n o)
      both y (Memᴰ.tail m) = subst⁻¹ (λ (z : ℕ). After cs n z o) (Memᴰ.eq_of_singleton m) (after_back cs n o (ρ o) near)

      neither : (y : ℕ) → Mem y (negate o ∷ negate (ρ o) ∷ []) → After cs n y (negate o)
      neither y (Memᴰ.head e) = subst⁻¹ (λ (z : ℕ). After cs n z (negate o)) e (after_same cs n (negate o))
      neither y (Memᴰ.tail m) =
          subst⁻¹ (λ (z : ℕ). After cs n z (negate o)) (Memᴰ.eq_of_singleton m) (after_flip cs n true (ρ o) o (after_back cs n o (ρ o) near))
  differs_false (by_or {n = n} {x = x} p m f) =
      subst (λ (y : ℕ). After cs (suc n) y 0) (negate_negate x)
      (after_flip cs (suc n) true (negate x) 1 (after_drawn cs n (Concludes.unit p m (λ y i d. differs_false (f y i d)))))

  differs_late : {n x : ℕ} → Differs cs ρ level n x → n ≢ 0
  differs_late (by-xor h g) e = omega arith
  differs_late (by-and h g i j) e = omega arith
  differs_late (by-ands h g k f i j) e = omega arith
  differs_late (by_or p m f) e = omega arith

  -- If the list says that some output differs from its copy, T is joined to F.
  pub miter_clash : {n : ℕ} → Miter cs ρ level n → Clash cs n
  miter_clash (asserted {n = zero} d p) = absurd (differs_late d refl)
  miter_clash (asserted {n = suc n} {x = x} d p) =
      after_chain cs (suc n) 1 x 0 (after_back cs (suc n) x 1 (after_drawn cs n (tied_found (After cs n) p))) (differs_false d)
  miter_clash (some_of {n = n} {c = []} f p) = after_drawn cs n (Concludes.empty_clause p)
  miter_clash (some_of {n = n} {c = k ∷ c} f p) =
      after_chain cs (suc n) 1 k 0 (after_back cs (suc n) k 1 (after_drawn cs n (Concludes.unit p in_first (λ x i d. differs_false (f x i)))))
      (after_grows cs n k 0 (differs_false (f k in_first)))
  miter_clash (opposed {n = zero} {o = o} h g) = absurd ((g.proper (negate (ρ o)) in_first).0 (net_negate (ρ o) ∙ ap net (shared_same copied o (omega arith))))
  miter_clash (opposed {n = suc n} {o = o} h g) =
      after_clash cs (suc n) (ρ o)
      (after_chain cs (suc n) (ρ o) o (negate (ρ o)) (after_back cs (suc n) o (ρ o) (copy_joined copied (suc n) o h))
      (after_drawn cs n (buffer_found g (After cs n) (negate (ρ o)) in_first (λ y m. Memᴰ.eq_of_singleton m))))
