-- Leads: a function that takes each code to the lead of its group. What it joins is a grouping; a merge of two leads joins their groups.
-- Assumes nothing.
use mathlib.Core.Path.{◌≡◌, refl, sym, ◌∙◌, ap, subst⁻¹, subst₂}
use mathlib.Core.Logic.{◌≢◌, ◌⊎◌, inl, inr}
use mathlib.Core.Bool.{Bool, true, false}
use Prim.Native.Nat.{ℕ, ◌≤◌, ◌<◌}
use native.Mathlib.Omega.{arith}
use native.Mathlib.Decide.{ℕ_discrete}
use borrow.Author.Tests.{eq-eqb, ne_eqb}
use Rattle.clauses.specs.Code.{negate, net}
use Rattle.clauses.proofs.Codes.{negate_negate, net_negate, negate_other, same_net}
use Rattle.clauses.specs.Sign.{flip}
use Rattle.rules.specs.Grouping.{Closure}
use Rattle.rules.specs.Compute.{replace}

-- the lead of an inverse is the inverse, a lead leads itself, and it is of the lowest net
pub record Canonical (f : ℕ → ℕ) : Type 0 where
  pub inverse : (c : ℕ) → f (negate c) ≡ negate (f c)
  pub again : (c : ℕ) → f (f c) ≡ f c
  pub low : (c : ℕ) → net (f c) ≤ net c

-- f joins exactly what G joins
pub record Represents (f : ℕ → ℕ) (G : ℕ → ℕ → Type 0) : Type 0 where
  pub canonical : Canonical f
  pub sound : (a b : ℕ) → f a ≡ f b → G a b
  pub complete : (a b : ℕ) → G a b → f a ≡ f b

-- what a canonical function joins is closed
pub kernel_closed : (f : ℕ → ℕ) → Canonical f → (S : ℕ → ℕ → Type 0) → ((a b : ℕ) → S a b → f a ≡ f b) → {a b : ℕ} → Closure S a b → f a ≡ f b
kernel_closed f k S h (Closure.base s) = h _ _ s
kernel_closed f k S h Closure.same = refl
kernel_closed f k S h (Closure.back r) = sym (kernel_closed f k S h r)
kernel_closed f k S h (Closure.chain r s) = kernel_closed f k S h r ∙ kernel_closed f k S h s
kernel_closed f k S h (Closure.inverses {a = a} {b = b} r) = k.inverse a ∙ ap negate (kernel_closed f k S h r) ∙ sym (k.inverse b)
kernel_closed f k S h (Closure.clash {x = x} r) =
    absurd (negate_other (f x) (sym (kernel_closed f k S h r ∙ k.inverse x)))
kernel_closed f k S h (Closure.collapse r) = absurd (negate_other (f 0) (sym (k.inverse 0) ∙ kernel_closed f k S h r))

-- a canonical function is known by what it joins
pub represents_unique : (f g : ℕ → ℕ) (G : ℕ → ℕ → Type 0) → Represents f G → Represents g G → (c : ℕ) → f c ≡ g c
represents_unique f g G p q c = go (same_net (f c) (g c) nets)
  where
    fg : g c ≡ g (f c)
    fg = q.complete c (f c) (p.sound c (f c) (sym (p.canonical.again c)))

    gf : f c ≡ f (g c)
    gf = p.complete c (g c) (q.sound c (g c) (sym (q.canonical.again c)))

    nets : net (f c) ≡ net (g c)
    nets =
        let h : net (g (f c)) ≤ net (f c) = q.canonical.low (f c) in
        let k : net (f (g c)) ≤ net (g c) = p.canonical.low (g c) in
        let h' : net (g c) ≤ net (f c) = rw fg h in
        let k' : net (f c) ≤ net (g c) = rw gf k in
        omega arith

    go : (f c ≡ g c) ⊎ (f c ≡ negate (g c)) → f c ≡ g c
    go (inl e) = e
    go (inr e) =
        let z : g c ≡ negate (g c) = fg ∙ ap g e ∙ q.canonical.inverse (g c) ∙ ap negate (q.canonical.again c) in
        absurd (negate_other (g c) (sym z))

module _ (f : ℕ → ℕ) (k : Canonical f) where
  pub lead_flip : (b : Bool) (c : ℕ) → f (flip b c) ≡ flip b (f c)
  lead_flip false c = refl
  lead_flip true c = k.inverse c

  pub lead_zero : f 0 ≡ 0
  lead_zero = go (same_net (f 0) 0 (low (k.low 0)))
    where
      low : net (f 0) ≤ 0 → net (f 0) ≡ 0
      low h = omega arith

      go : (f 0 ≡ 0) ⊎ (f 0 ≡ 1) → f 0 ≡ 0
      go (inl e) = e
      go (inr e) = sym (k.again 0) ∙ ap f e ∙ k.inverse 0 ∙ ap negate e

-- A merge

-- what replace does to e: one of three things
pub data Replaced (hi lo e r : ℕ) : Type 0 where
  as_lead : e ≡ hi → r ≡ lo → Replaced hi lo e r
  as_inverse : e ≡ negate hi → r ≡ negate lo → Replaced hi lo e r
  kept : net e ≢ net hi → r ≡ e → Replaced hi lo e r

pub replaced : (hi lo e : ℕ) → Replaced hi lo e (replace hi lo e)
unfolding replace
replaced hi lo e = go (ℕ_discrete e hi) (ℕ_discrete e (negate hi))
  where
    go : Dec (e ≡ hi) → Dec (e ≡ negate hi) → Replaced hi lo e (replace hi lo e)
    go (yes p) d = as_lead p (rw (eq-eqb e hi p, replace))
    go (no n) (yes p) = as_inverse p (rw (ne_eqb e hi n, eq-eqb e (negate hi) p, replace))
    go (no n) (no m) = kept (λ q. oops (same_net e hi q)) (rw (ne_eqb e hi n, ne_eqb e (negate hi) m, replace))
      where
        oops : (e ≡ hi) ⊎ (e ≡ negate hi) → ⊥
        oops (inl x) = n x
        oops (inr x) = m x

-- and that leaves one result
replaced_unique : (hi lo e r s : ℕ) → Replaced hi lo e r → Replaced hi lo e s → r ≡ s
replaced_unique hi lo e r s (as_lead p q) (as_lead p' q') = cc
replaced_unique hi lo e r s (as_lead p q) (as_inverse p' q') = absurd (negate_other hi (sym p' ∙ p))
replaced_unique hi lo e r s (as_lead p q) (kept p' q') = absurd (p' (ap net p))
replaced_unique hi lo e r s (as_inverse p q) (as_lead p' q') = absurd (negate_other hi (sym p ∙ p'))
replaced_unique hi lo e r s (as_inverse p q) (as_inverse p' q') = cc
replaced_unique hi lo e r s (as_inverse p q) (kept p' q') = absurd (p' (ap net p ∙ net_negate hi))
replaced_unique hi lo e r s (kept p q) (as_lead p' q') = absurd (p (ap net p'))
replaced_unique hi lo e r s (kept p q) (as_inverse p' q') = absurd (p (ap net p' ∙ net_negate hi))
replaced_unique hi lo e r s (kept p q) (kept p' q') = cc

pub replace_is : (hi lo e r : ℕ) → Replaced hi lo e r → replace hi lo e ≡ r
replace_is hi lo e r h = replaced_unique hi lo e (replace hi lo e) r (replaced hi lo e) h

pub replace_negate : (hi lo e : ℕ) → replace hi lo (negate e) ≡ negate (replace hi lo e)
replace_negate hi lo e = replace_is hi lo (negate e) (negate (replace hi lo e)) (go (replaced hi lo e))
  where
    go : Replaced hi lo e (replace hi lo e) → Replaced hi lo (negate e) (negate (replace hi lo e))
    go (as_lead p q) = as_inverse (ap negate p) (ap negate q)
    go (as_inverse p q) = as_lead (ap negate p ∙ negate_negate hi) (ap negate q ∙ negate_negate lo)
    go (kept p q) = kept (λ x. p (sym (net_negate e) ∙ x)) (ap negate q)

-- two groups are joined: lo and hi are their leads, and lo's net is the lower
module _ (f : ℕ → ℕ) (k : Canonical f) (lo hi : ℕ) (flo : f lo ≡ lo) (fhi : f hi ≡ hi) (lower : net lo < net hi) where
  abbrev pub merged : ℕ → ℕ
  merged c = replace hi lo (f c)

  lo_stays : replace hi lo lo ≡ lo
  lo_stays = replace_is hi lo lo lo (kept (omega arith) refl)

  pub merged_canonical : Canonical merged
  merged_canonical =
      record {
        inverse = λ c. ap (replace hi lo) (k.inverse c) ∙ replace_negate hi lo (f c);
        again = λ c. again c (replaced hi lo (f c));
        low = λ c. low c (replaced hi lo (f c));
      }
    where
      again : (c : ℕ) → Replaced hi lo (f c) (merged c) → replace hi lo (f (merged c)) ≡ merged c
      again c (as_lead p q) = ap (λ (x : ℕ). replace hi lo (f x)) q ∙ ap (replace hi lo) flo ∙ lo_stays ∙ sym q
      again c (as_inverse p q) =
          ap (λ (x : ℕ). replace hi lo (f x)) q ∙ ap (replace hi lo) (k.inverse lo ∙ ap negate flo) ∙ replace_negate hi lo lo ∙ ap negate lo_stays ∙ sym q
      again c (kept p q) = ap (λ (x : ℕ). replace hi lo (f x)) q ∙ ap (replace hi lo) (k.again c)

      low : (c : ℕ) → Replaced hi lo (f c) (merged c) → net (merged c) ≤ net c
      low c (as_lead p q) =
          let h = k.low c in
          let x = ap net p in
          let y = ap net q in omega arith
      low c (as_inverse p q) =
          let h = k.low c in
          let x = ap net p ∙ net_negate hi in
          let y = ap net q ∙ net_negate lo in omega arith
      low c (kept p q) =
          let h = k.low c in
          let y = ap net q in omega arith

  pub merged_joins : merged lo ≡ merged hi
  merged_joins = ap (replace hi lo) flo ∙ lo_stays ∙ sym (ap (replace hi lo) fhi ∙ replace_is hi lo hi lo (as_lead refl refl))

  module _ (S : ℕ → ℕ → Type 0) (sound : (a b : ℕ) → f a ≡ f b → Closure S a b) (add : Closure S lo hi) where
    moved : (c : ℕ) → Replaced hi lo (f c) (merged c) → Closure S c (merged c)
    moved c h = Closure.chain (sound c (f c) (sym (k.again c))) (go h)
      where
        go : Replaced hi lo (f c) (merged c) → Closure S (f c) (merged c)
        go (as_lead p q) = subst₂ (Closure S) (sym p) (sym q) (Closure.back add)
        go (as_inverse p q) = subst₂ (Closure S) (sym p) (sym q) (Closure.inverses (Closure.back add))
        go (kept p q) = subst⁻¹ (Closure S (f c)) q Closure.same

    pub merged_sound : (a b : ℕ) → merged a ≡ merged b → Closure S a b
    merged_sound a b e =
        Closure.chain (moved a (replaced hi lo (f a)))
        (Closure.back (subst⁻¹ (Closure S b) e (moved b (replaced hi lo (f b)))))
