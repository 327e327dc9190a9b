-- What an XOR says of its first literal, through leads: the literal, turned by the signs of the others, is the sum of the nets that lead an odd
-- number of them. Equal sums are joined by rules 5 and 6, and these rules join nothing else.
-- Assumes nothing.
use mathlib.Core.Path.{◌≡◌, refl, sym, ◌∙◌, ap, ap₂, subst, subst⁻¹}
use mathlib.Core.Logic.{◌≢◌, inl, inr}
use mathlib.Core.Bool.{Bool, true, false, not}
use mathlib.Core.List.{List, [], ◌∷◌, ◌++◌}
use Prim.Native.Nat.{ℕ, ◌*◌}
use lib.Dec.{eqb}
use borrow.Author.Tests.{eq-eqb, eqb-true}
use Rattle.clauses.specs.Code.{net}
use Rattle.clauses.specs.Clause.{Mem}
use Rattle.clauses.specs.Lists.{Pick, first}
use Rattle.clauses.proofs.Picks.{Picked, picked}
use Rattle.clauses.specs.Sign.{plus, flip, is_inverse, parity}
use Rattle.gates.specs.Gate.{XorGate}
use Rattle.clauses.proofs.Signs.{plus_false, plus_self, plus_cancel, flip_flip, flip_plus, plain_net, parity_pick, parity_append}
use Rattle.gates.proofs.Xors.{xor_front_two}
use Rattle.rules.specs.Rule.{Cancels, Concludes}
use Rattle.rules.specs.Grouping.{Closure}
use Rattle.rules.specs.Answer.{lead_of}
use Rattle.closure.specs.Making.{Kernel, Drawn}
use Rattle.closure.specs.Xors.{LeadRow, odd_nets, odd_sign}
use Rattle.rules.proofs.Groupings.{closure_flip}
use Rattle.rules.proofs.Leads.{Canonical, Represents}
use Rattle.rules.proofs.Cancelling.{leads_to, inverse_led, somewhere, even_cancels}
use Rattle.closure.proofs.OddNets.{is, odd_parity}

pub sign_append : (f : ℕ → ℕ) (xs ys : List ℕ) → odd_sign f (xs ++ ys) ≡ plus (odd_sign f xs) (odd_sign f ys)
unfolding odd_sign
sign_append f xs ys = parity_append (inverse_led f) xs ys

sign_pick : (f : ℕ → ℕ) {y : ℕ} {xs ys : List ℕ} → Pick y xs ys → odd_sign f xs ≡ plus (is_inverse (f y)) (odd_sign f ys)
unfolding odd_sign
sign_pick f p = parity_pick (inverse_led f) p

-- a literal v that an XOR of the list makes the sum of the nets
pub record Xored (cs : List (List ℕ)) (f : ℕ → ℕ) (nets : List ℕ) (v : ℕ) : Type 0 where
  pub k : ℕ
  pub ks : List ℕ
  pub gate : XorGate cs (k ∷ ks) true
  pub nets_are : nets ≡ odd_nets f ks
  pub value_is : v ≡ flip (not (odd_sign f ks)) k

module _ {old : List ℕ} (leads : LeadRow old) where
  pub canonical : Canonical (lead_of old)
  canonical = record { inverse = leads.inverse; again = leads.again; low = leads.low }

  pub represents : Represents (lead_of old) (Kernel old)
  represents = record { canonical = canonical; sound = λ a b e. e; complete = λ a b e. e }

  -- a bag none of whose nets is left cancels
  cancelled : (xs : List ℕ) → ((w : ℕ) → w ≢ 0 → parity (leads_to (lead_of old) w) xs ≡ false) → Cancels (Kernel old) xs (odd_sign (lead_of old) xs)
  unfolding odd_sign
  cancelled = even_cancels (lead_of old) (Kernel old) represents

module _ {cs : List (List ℕ)} {old : List ℕ} (leads : LeadRow old) where
  -- rule 6
  pub xored_equal : {nets : List ℕ} {v u : ℕ} → Xored cs (lead_of old) nets v → Xored cs (lead_of old) nets u → Drawn cs old v u
  xored_equal {nets} {v} {u} x y =
      subst⁻¹ (λ (a : ℕ). Drawn cs old a u) x.value_is (subst⁻¹ (Drawn cs old (flip (not s) x.k)) y.value_is
      (subst (Drawn cs old (flip (not s) x.k)) (flip_plus (not s) (odd_sign (lead_of old) (x.ks ++ y.ks)) y.k ∙ ap (λ (b : Bool). flip b y.k) signs)
      (closure_flip (not s) (Closure.base (inr (Concludes.xor_xor x.gate y.gate (cancelled leads (x.ks ++ y.ks) even)))))))
    where
      s : Bool
      s = odd_sign (lead_of old) x.ks

      even : (w : ℕ) → w ≢ 0 → parity (leads_to (lead_of old) w) (x.ks ++ y.ks) ≡ false
      even w n =
          parity_append (leads_to (lead_of old) w) x.ks y.ks
          ∙ ap₂ plus (sym (odd_parity (lead_of old) w n x.ks) ∙ ap (parity (is w)) (sym x.nets_are)) (sym (odd_parity (lead_of old) w n y.ks) ∙ ap (parity (is w)) (sym y.nets_are))
          ∙ plus_self (parity (is w) nets)

      sum : (a b : Bool) → plus (not a) (plus a b) ≡ not b
      sum false b = refl
      sum true b = refl

      signs : plus (not s) (odd_sign (lead_of old) (x.ks ++ y.ks)) ≡ not (odd_sign (lead_of old) y.ks)
      signs = ap (plus (not s)) (sign_append (lead_of old) x.ks y.ks) ∙ sum s (odd_sign (lead_of old) y.ks)

  -- rule 5, the first part
  pub xored_none : {v : ℕ} → Xored cs (lead_of old) [] v → Drawn cs old v 0
  xored_none x =
      subst⁻¹ (λ (a : ℕ). Drawn cs old a 0) x.value_is
      (subst (Drawn cs old (flip (not s) x.k)) (flip_flip (not s) 0) (closure_flip (not s) (Closure.base (inr (Concludes.xor_constant x.gate (cancelled leads x.ks even))))))
    where
      s : Bool
      s = odd_sign (lead_of old) x.ks

      even : (w : ℕ) → w ≢ 0 → parity (leads_to (lead_of old) w) x.ks ≡ false
      even w n = sym (odd_parity (lead_of old) w n x.ks) ∙ ap (parity (is w)) (sym x.nets_are)

  -- rule 5, the second part
  pub xored_one : {w v : ℕ} → Xored cs (lead_of old) (w ∷ []) v → w ≢ 0 → Drawn cs old v (2 * w)
  xored_one {w} {v} x n = go (somewhere (lead_of old) (Kernel old) (represents leads) (leads_to (lead_of old) w) x.ks (odd w n ∙ ap (λ (b : Bool). plus b false) (eq-eqb w w refl)))
    where
      s : Bool
      s = odd_sign (lead_of old) x.ks

      odd : (u : ℕ) → u ≢ 0 → parity (leads_to (lead_of old) u) x.ks ≡ plus (eqb w u) false
      odd u n = sym (odd_parity (lead_of old) u n x.ks) ∙ ap (parity (is u)) (sym x.nets_are)

      go : (m : ℕ) × Mem m x.ks × (leads_to (lead_of old) w m ≡ true) → Drawn cs old v (2 * w)
      go t =
          subst⁻¹ (λ (a : ℕ). Drawn cs old a (2 * w)) x.value_is
          (Closure.chain
          (subst (Drawn cs old (flip (not s) x.k)) (flip_plus (not s) (not p) m ∙ ap (λ (b : Bool). flip b m) signs)
          (closure_flip (not s) (Closure.base (inr (Concludes.xor_literals (xor_front_two x.gate first d.pick) (cancelled leads d.rest even))))))
          (subst (Drawn cs old (flip (is_inverse (lead_of old m)) m)) (sym (plain_net (lead_of old m)) ∙ ap (λ (a : ℕ). 2 * a) led)
          (closure_flip (is_inverse (lead_of old m)) (Closure.base (inl (sym (leads.again m)))))))
        where
          m : ℕ
          m = t.0

          led : net (lead_of old m) ≡ w
          led = eqb-true (net (lead_of old m)) w t.2

          d : Picked m x.ks
          d = picked x.ks t.1

          p : Bool
          p = odd_sign (lead_of old) d.rest

          even : (u : ℕ) → u ≢ 0 → parity (leads_to (lead_of old) u) d.rest ≡ false
          even u n =
              sym (plus_cancel (leads_to (lead_of old) u m) (parity (leads_to (lead_of old) u) d.rest))
              ∙ ap₂ plus (ap (λ (a : ℕ). eqb a u) led) (sym (parity_pick (leads_to (lead_of old) u) d.pick) ∙ odd u n ∙ plus_false (eqb w u)) ∙ plus_self (eqb w u)

          sum : (a b : Bool) → plus (not (plus a b)) (not b) ≡ a
          sum false false = refl
          sum false true = refl
          sum true false = refl
          sum true true = refl

          signs : plus (not s) (not p) ≡ is_inverse (lead_of old m)
          signs = ap (λ (b : Bool). plus (not b) (not p)) (sign_pick (lead_of old) d.pick) ∙ sum (is_inverse (lead_of old m)) p
