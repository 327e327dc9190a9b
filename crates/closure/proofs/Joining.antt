-- Leads read from a row, and two groups joined in it: what the program does is what the definitions say.
-- Assumes nothing.
use mathlib.Core.Path.{◌≡◌, refl, sym, ◌∙◌, ap}
use mathlib.Core.Logic.{◌≢◌}
use mathlib.Core.Bool.{true, false}
use mathlib.Core.List.{List, ◌∷◌, map}
use Prim.Native.Nat.{ℕ, ◌-◌, zero, suc, ◌*◌, ◌/◌, ◌≤◌, ◌<◌}
use native.Mathlib.Omega.{arith}
use lib.ListN.{length, get_or, get_or-eq_default}
use borrow.Author.Tests.{eq-eqb, ne_eqb, lt-ltb, le-ltb}
use Rattle.clauses.specs.Code.{net}
use Rattle.clauses.specs.Sign.{flip, is_inverse}
use Rattle.clauses.proofs.Signs.{code_split}
use Rattle.closure.specs.declared.tally.Tally.{Tally}
use Rattle.rules.specs.Answer.{lead_of}
use Rattle.rules.specs.Compute.{replace}
use Rattle.closure.specs.Joining.{fewer, join_state}
use Rattle.rules.proofs.Closing.{any_default}

-- Leads read from a row

pub lead_constant : (leads : List ℕ) (c : ℕ) → c / 2 ≡ 0 → c ≡ lead_of leads c
unfolding lead_of
lead_constant leads c h = code_split c ∙ rw h

pub lead_outside : (leads : List ℕ) (c : ℕ) → length leads < c / 2 → c ≡ lead_of leads c
unfolding lead_of
lead_outside leads c h = code_split c ∙ ap (flip (is_inverse c)) (sym (get_or-eq_default (0 ∷ leads) (2 * net c) h))

pub lead_inside : (leads : List ℕ) (c : ℕ) → c / 2 ≢ 0 → c / 2 ≤ length leads → flip (is_inverse c) (get_or leads (c / 2 - 1) 0) ≡ lead_of leads c
unfolding lead_of
lead_inside leads c n h = ap (flip (is_inverse c)) (go (c / 2) n h)
  where
    go : (w : ℕ) → w ≢ 0 → w ≤ length leads → get_or leads (w - 1) 0 ≡ get_or (0 ∷ leads) w (2 * net c)
    go zero n h = absurd (n refl)
    go (suc i) n h = let e : suc i - 1 ≡ i = omega arith in rw e (any_default leads i 0 (2 * net c) h)

-- Two groups joined

module _ (row : List ℕ) (t : Tally) (a b x y : ℕ) (ex : x ≡ lead_of row a) (ey : y ≡ lead_of row b) where
  pub join_clashed : t.clash ≡ true → record { row = row; tally = t } ≡ join_state row t a b
  unfolding join_state
  join_clashed e = rw e

  pub join_same : t.clash ≡ false → x ≡ y → record { row = row; tally = t } ≡ join_state row t a b
  unfolding join_state
  join_same f e = rw (f, ← ex, ← ey, eq-eqb x y e)

  pub join_inverses : t.clash ≡ false → x ≢ y → net x ≡ net y → record { row = row; tally = record { groups = t.groups; joins = t.joins; clash = true } } ≡ join_state row t a b
  unfolding join_state
  join_inverses f n e = rw (f, ← ex, ← ey, ne_eqb x y n, eq-eqb (net x) (net y) e)

  pub join_lower : t.clash ≡ false → x ≢ y → net x ≢ net y → net x < net y → (l : List ℕ) → l ≡ map (replace y x) row → record { row = l; tally = fewer t } ≡ join_state row t a b
  unfolding join_state
  join_lower f n m h l e = rw (f, ← ex, ← ey, ne_eqb x y n, ne_eqb (net x) (net y) m, lt-ltb (net x) (net y) h, e)

  pub join_higher : t.clash ≡ false → x ≢ y → net x ≢ net y → net y ≤ net x → (l : List ℕ) → l ≡ map (replace x y) row → record { row = l; tally = fewer t } ≡ join_state row t a b
  unfolding join_state
  join_higher f n m h l e = rw (f, ← ex, ← ey, ne_eqb x y n, ne_eqb (net x) (net y) m, le-ltb (net x) (net y) h, e)
