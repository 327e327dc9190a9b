-- What a comparison of outputs says: some output differs from its copy.
-- Assumes nothing.
use mathlib.Core.Path.{◌≡◌, refl, sym, ◌∙◌, ap}
use mathlib.Core.Logic.{◌≢◌}
use mathlib.Core.Bool.{Bool, true, false, not, true≢false, false≢true, not-not}
use mathlib.Core.List.{List, [], ◌∷◌}
use Prim.Native.Nat.{ℕ}
use native.Mathlib.Decide.{ℕ_discrete}
use Rattle.clauses.specs.Code.{negate}
use Rattle.clauses.specs.Clause.{Mem}
use Rattle.clauses.specs.Lists.{all}
use Rattle.clauses.proofs.Lists.{all_have}
use Rattle.clauses.specs.Sign.{plus}
use Rattle.clauses.proofs.Signs.{plus_cancel}
use Rattle.clauses.specs.Assignment.{Assignment, Satisfies}
use Rattle.rules.specs.Design.{Gate, output, computes, HoldsGate}
use Rattle.rules.specs.Copy.{Differs, by-xor, by-and, by-ands, by_or, Miter, asserted, some_of, opposed}
use Rattle.rules.proofs.Encodings.{only_true, inverse_is, encoding_true}
use Rattle.rules.proofs.Truth.{not_self, true_in}
use Rattle.rules.proofs.Designs.{encoding_present}

all_one : (f : ℕ → Bool) (x : ℕ) → all f (x ∷ []) ≡ f x
unfolding all
all_one f x = go (f x) refl
  where
    go : (b : Bool) → f x ≡ b → all f (x ∷ []) ≡ f x
    go true e = rw (e, all)
    go false e = rw (e, all)

all_two : (f : ℕ → Bool) (x y : ℕ) → f x ≡ true → f y ≡ true → all f (x ∷ y ∷ []) ≡ true
unfolding all
all_two f x y p q = rw (p, q, all)

module _ (value : ℕ → Bool) (asg : Assignment value) (cs : List (List ℕ)) (sat : Satisfies value cs) where
  gate_true : {g : Gate} → HoldsGate cs g → value (output g) ≡ computes value g
  gate_true {g} h = (encoding_true value asg g).0 (λ c k. true_in value asg cs sat (encoding_present h c k))

  -- An assignment that satisfies the list makes such a literal true only if it gives some output and its copy different values,
  pub differs_true : {ρ level : ℕ → ℕ} {n x : ℕ} → Differs cs ρ level n x → value x ≡ true → (o : ℕ) × (value o ≢ value (ρ o))
  differs_true {ρ} (by-xor {o = o} h g) p =
      (o, λ e. true≢false (sym p ∙ gate_true g ∙ ap (λ (b : Bool). plus b (plus (value (ρ o)) false)) e ∙ plus_cancel (value (ρ o)) false))
  differs_true {ρ} (by-and {o = o} {rs = rs} h g i j) p = (o, λ e. false≢true (sym (inverse_is value asg (sym e ∙ input o i)) ∙ input (negate (ρ o)) j))
    where
      input : (r : ℕ) → Mem r rs → value r ≡ true
      input = all_have value rs (sym (gate_true g) ∙ p)
  differs_true {ρ} (by-ands {x = x} {o = o} {p = p} {q = q} {rs = rs} h g k f i j) e = (o, λ d. go (value o) refl d)
    where
      input : (r : ℕ) → Mem (negate r) rs → value r ≡ false
      input r m = sym (not-not (value r)) ∙ ap not (sym (asg.inverse r) ∙ all_have value rs (sym (gate_true f) ∙ e) (negate r) m)

      go : (b : Bool) → value o ≡ b → value o ≡ value (ρ o) → ⊥
      go true a d = true≢false (sym (gate_true g ∙ all_two value o (ρ o) a (sym d ∙ a)) ∙ input p i)
      go false a d =
          true≢false (sym (gate_true k ∙ all_two value (negate o) (negate (ρ o)) (inverse_is value asg a) (inverse_is value asg (sym d ∙ a))) ∙ input q j)
  differs_true {ρ} (by_or {x = x} k m f) p =
      let t = true_in value asg cs sat k in
      go t.holds (ℕ_discrete t.lit (negate x)) (λ d. differs_true (f t.lit t.listed d) t.holds)
    where
      go : {y : ℕ} → value y ≡ true → Dec (y ≡ negate x) → (y ≢ negate x → (o : ℕ) × (value o ≢ value (ρ o))) → (o : ℕ) × (value o ≢ value (ρ o))
      go q (yes e) ih = absurd (true≢false (sym q ∙ ap value e ∙ inverse_is value asg p))
      go q (no d) ih = ih d

  -- and so it does if the list says that some output differs.
  pub miter_true : {ρ level : ℕ → ℕ} {n : ℕ} → Miter cs ρ level n → (o : ℕ) × (value o ≢ value (ρ o))
  miter_true (asserted d p) = differs_true d (only_true value asg (true_in value asg cs sat p))
  miter_true (some_of f p) = let t = true_in value asg cs sat p in differs_true (f t.lit t.listed) t.holds
  miter_true {ρ} (opposed {o = o} h g) = (o, λ e. not_self (value (ρ o)) (sym e ∙ gate_true g ∙ all_one value (negate (ρ o)) ∙ asg.inverse (ρ o)))
