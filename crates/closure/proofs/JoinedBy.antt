-- What a round that is being made has joined: a grouping, which holds the old one.
-- Assumes nothing.
use mathlib.Core.Path.{◌≡◌, sym, ◌∙◌, ap, subst, subst⁻¹}
use mathlib.Core.Logic.{inl, inr}
use mathlib.Core.List.{List}
use Prim.Native.Nat.{ℕ, ◌≤◌}
use lib.ListN.{length}
use Rattle.clauses.specs.Code.{negate, net}
use Rattle.clauses.proofs.Codes.{negate_other}
use Rattle.rules.specs.Rule.{Concludes}
use Rattle.rules.specs.Grouping.{Closure}
use Rattle.rules.specs.Answer.{lead_of}
use Rattle.closure.specs.Making.{Kernel, Drawn, Making, JoinedBy}
use Rattle.closure.specs.Joining.{join_state}
use Rattle.closure.specs.declared.tally.Tally.{Tally}
use Rattle.closure.proofs.Making.{Carried, join_makes}

-- what the round joins
module _ (cs : List (List ℕ)) (old : List ℕ) (a b : ℕ) where
  pub drawn_old : Kernel old a b → Drawn cs old a b
  drawn_old k = Closure.base (inl k)

  pub drawn_new : Concludes cs (Kernel old) a b → Drawn cs old a b
  drawn_new c = Closure.base (inr c)

-- what is joined, by any row of leads and tally
module _ (new : List ℕ) (t : Tally) where
  pub joined_sym : (a b : ℕ) → JoinedBy new t a b → JoinedBy new t b a
  joined_sym a b (inl c) = inl c
  joined_sym a b (inr e) = inr (sym e)

  pub joined_trans : (a b c : ℕ) → JoinedBy new t a b → JoinedBy new t b c → JoinedBy new t a c
  joined_trans a b c (inl e) j = inl e
  joined_trans a b c (inr e) (inl k) = inl k
  joined_trans a b c (inr e) (inr k) = inr (e ∙ k)

-- what it has joined
module _ {cs : List (List ℕ)} {old new : List ℕ} {t : Tally} (m : Making cs old new t) where
  pub joined_old : (a b : ℕ) → Kernel old a b → JoinedBy new t a b
  joined_old a b k = inr (m.still a b k)

  pub joined_back : (a b : ℕ) → JoinedBy new t a b → JoinedBy new t b a
  joined_back = joined_sym new t

  pub joined_chain : (x y z : ℕ) → JoinedBy new t x y → JoinedBy new t y z → JoinedBy new t x z
  joined_chain = joined_trans new t

  pub joined_inverses : (a b : ℕ) → JoinedBy new t a b → JoinedBy new t (negate a) (negate b)
  joined_inverses a b (inl c) = inl c
  joined_inverses a b (inr e) = inr (m.inverse a ∙ ap negate e ∙ sym (m.inverse b))

  -- the same literals, written otherwise
  pub joined_same : {x y x' y' : ℕ} → x ≡ x' → y ≡ y' → JoinedBy new t x y → JoinedBy new t x' y'
  joined_same {y = y} {x' = x'} e f j = subst (JoinedBy new t x') f (subst (λ (z : ℕ). JoinedBy new t z y) e j)

  -- a literal joined to its own inverse
  pub joined_clash : (x a b : ℕ) → JoinedBy new t x (negate x) → JoinedBy new t a b
  joined_clash x a b (inl c) = inl c
  joined_clash x a b (inr e) = absurd (negate_other (lead_of new x) (sym (m.inverse x) ∙ sym e))

-- a join that the program has made
pub join_carried : {cs : List (List ℕ)} {old row : List ℕ} {t : Tally} → Making cs old row t → (a b : ℕ) → Drawn cs old a b → net a ≤ length old → net b ≤ length old
    → (row' : List ℕ) (t' : Tally) → record { row = row'; tally = t' } ≡ join_state row t a b → Carried cs old row t a b (record { row = row'; tally = t' })
join_carried {cs} {old} {row} {t} m a b d p q row' t' e = subst⁻¹ (Carried cs old row t a b) e (join_makes cs old row t m a b d p q)
