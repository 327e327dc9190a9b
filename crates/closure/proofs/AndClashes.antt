-- Clashes among the inputs of an AND: the tests that the program makes.
-- Assumes nothing.
use mathlib.Core.Path.{◌≡◌, sym, ◌∙◌, ap}
use mathlib.Core.Logic.{◌≢◌}
use mathlib.Core.Bool.{Bool, true, false}
use mathlib.Core.List.{List}
use Prim.Native.Nat.{ℕ, ◌+◌, ◌≤◌, ◌<◌}
use native.Mathlib.Omega.{arith}
use native.Mathlib.Decide.{dec_lt}
use Rattle.clauses.specs.Code.{negate}
use Rattle.clauses.proofs.Codes.{negate_negate, negate_other}
use Rattle.closure.specs.Passing.{lead_at, Tells, ClashAt, with_true, with_inverse, Clash}
use Rattle.closure.specs.Holding.{Among, Holds, HeldClash, true_lead, inverse_held}

-- The test of a place

module _ (row old : List ℕ) (e p q : ℕ) where
  pub clash_skip : q ≡ p → ¬ ClashAt row old e p q
  clash_skip h (with_true n k) = n h
  clash_skip h (with_inverse n s m k i j) = n h

  pub clash_rest : q ≢ p → lead_at row old q ≢ 1 → (r : Bool) → Tells (Among row old (q + 1) e p (negate (lead_at row old q))) r → Tells (ClashAt row old e p q) r
  clash_rest n o true a = with_inverse n a.place (omega (arith, a.low)) a.high a.apart a.lead
  clash_rest n o false a = none
    where
      none : ¬ ClashAt row old e p q
      none (with_true k i) = o i
      none (with_inverse k s u v i j) = a (record { place = s; low = omega arith; high = v; apart = i; lead = j })

-- All places

module _ {row old : List ℕ} {b e p : ℕ} where
  -- two places have inverse leads
  pub inverse_clash : (q : ℕ) → b ≤ q → q < e → q ≢ p → Among row old b e p (negate (lead_at row old q)) → Clash row old b e p
  inverse_clash q l h n a = go (dec_lt q a.place) (dec_lt a.place q)
    where
      go : Dec (q < a.place) → Dec (a.place < q) → Clash row old b e p
      go (yes m) d = (q, l, h, with_inverse n a.place m a.high a.apart a.lead)
      go (no m) (yes d) =
          (a.place, a.low, a.high, with_inverse a.apart q d h n (sym (negate_negate (lead_at row old q)) ∙ ap negate (sym a.lead)))
      go (no m) (no d) =
          let z : a.place ≡ q = omega arith in
          absurd (negate_other (lead_at row old q) (sym a.lead ∙ ap (lead_at row old) z))

  module _ {held : List Bool} (k : Holds row old b e p held) where
    held_clash : (q : ℕ) → b ≤ q → q < e → HeldClash row old held p q → Clash row old b e p
    held_clash q l h (true_lead n t) = (q, l, h, with_true n t)
    held_clash q l h (inverse_held n i) = inverse_clash q l h n (k.only (negate (lead_at row old q)) i)

    pub held_clashes : (r : Bool) → Tells ((q : ℕ) × (b ≤ q) × (q < e) × HeldClash row old held p q) r → Tells (Clash row old b e p) r
    held_clashes true (q, l, h, c) = held_clash q l h c
    held_clashes false n = none
      where
        none : ¬ Clash row old b e p
        none (a, m, i, with_true d t) = n (a, m, i, true_lead d t)
        none (a, m, i, with_inverse d s v w j z) =
            n (a, m, i, inverse_held d (k.each (negate (lead_at row old a)) (record { place = s; low = omega arith; high = w; apart = j; lead = z })))
