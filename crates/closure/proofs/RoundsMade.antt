-- The end of a round: new leads that join every conclusion, and no more than the round joins, represent the next grouping.
-- Assumes nothing.
use mathlib.Core.Path.{◌≡◌, sym, ◌∙◌, ap, subst}
use mathlib.Core.Logic.{◌≢◌, ◌⊎◌, inl, inr}
use mathlib.Core.Bool.{true, false, true≢false}
use mathlib.Core.List.{List}
use Prim.Native.Nat.{ℕ, suc, ◌+◌, ◌<◌}
use native.Mathlib.Omega.{arith}
use lib.ListN.{length}
use Rattle.rules.specs.Rule.{Concludes}
use Rattle.rules.specs.Grouping.{Next, After}
use Rattle.rules.specs.Ending.{Still, Clash}
use Rattle.rules.specs.Answer.{lead_of, own}
use Rattle.closure.specs.declared.tally.Tally.{Tally}
use Rattle.closure.specs.Making.{Kernel, Drawn, Making, JoinedBy, Rules}
use Rattle.rules.proofs.Groupings.{after_grows, concludes_more, closure_more}
use Rattle.rules.proofs.Leads.{Canonical, kernel_closed}
use Rattle.rules.proofs.Rounds.{Row}
use Rattle.rules.proofs.Closing.{row_unique}
use Rattle.rules.proofs.Groups.{still_or_fewer}

conclusions_joined : {cs : List (List ℕ)} {old row : List ℕ} {t : Tally} → Rules cs old row t → {a b : ℕ} → Concludes cs (Kernel old) a b → JoinedBy row t a b
conclusions_joined r (Concludes.unit p m o) = r.one.unit _ _ p m o
conclusions_joined r (Concludes.empty_clause p) = r.one.empty_clause p
conclusions_joined r (Concludes.equal p q) = r.two.equal _ _ p q
conclusions_joined r (Concludes.and_false g i e) = r.three.and_false _ _ _ g i e
conclusions_joined r (Concludes.and_inverses g i j e) = r.three.and_inverses _ _ _ _ g i j e
conclusions_joined r (Concludes.and_input g i h) = r.three.and_input _ _ _ g i h
conclusions_joined r (Concludes.and_and g h x y) = r.four.and_and _ _ _ _ g h x y
conclusions_joined r (Concludes.xor_constant g h) = r.five.xor_constant _ _ _ _ g h
conclusions_joined r (Concludes.xor_literals g h) = r.five.xor_literals _ _ _ _ _ g h
conclusions_joined r (Concludes.xor_xor g h x) = r.six.xor_xor _ _ _ _ _ _ _ g h x
conclusions_joined r (Concludes.ite_then g h) = r.seven.ite_then _ _ _ _ g h
conclusions_joined r (Concludes.ite_else g h) = r.seven.ite_else _ _ _ _ g h
conclusions_joined r (Concludes.ite_same g h) = r.seven.ite_same _ _ _ _ g h
conclusions_joined r (Concludes.ite_ite g h x y z) = r.eight.ite_ite _ _ _ _ _ _ _ _ g h x y z

-- a round from the leads after n rounds
module _ (v : ℕ) (cs : List (List ℕ)) (n : ℕ) (old row : List ℕ) (t : Tally) (r : Row v old (After cs n)) (m : Making cs old row t) where
  drawn_after : {a b : ℕ} → Drawn cs old a b → After cs (suc n) a b
  unfolding After
  drawn_after h = closure_more (Next cs (Kernel old)) (Next cs (After cs n)) up h
    where
      up : (a b : ℕ) → Next cs (Kernel old) a b → Next cs (After cs n) a b
      up a b (inl e) = inl (r.rep.sound a b e)
      up a b (inr c) = inr (concludes_more cs (Kernel old) (After cs n) (λ x y. r.rep.sound x y) c)

  pub clash_after : t.clash ≡ true → Clash cs (suc n)
  clash_after e = drawn_after (m.clash_drawn e)

  module _ (all : Rules cs old row t) (quiet : t.clash ≡ false) where
    pub row_after : Row v row (After cs (suc n))
    unfolding After
    row_after =
        record {
          size = m.size ∙ r.size;
          rep = record { canonical = can; sound = λ a b e. drawn_after (m.sound a b e); complete = λ a b h. kernel_closed (lead_of row) can (Next cs (After cs n)) joins h };
        }
      where
        can : Canonical (lead_of row)
        can = record { inverse = m.inverse; again = m.again; low = m.low }

        by_lead : (a b : ℕ) → JoinedBy row t a b → lead_of row a ≡ lead_of row b
        by_lead a b (inl e) = absurd (true≢false (sym e ∙ quiet))
        by_lead a b (inr e) = e

        joins : (a b : ℕ) → Next cs (After cs n) a b → lead_of row a ≡ lead_of row b
        joins a b (inl g) = m.still a b (r.rep.complete a b g)
        joins a b (inr c) = by_lead a b (conclusions_joined all (concludes_more cs (After cs n) (Kernel old) (λ x y. r.rep.complete x y) c))

    groups_left : length (own v row) + t.joins ≡ length (own v old)
    groups_left = subst (λ (w : ℕ). length (own w row) + t.joins ≡ length (own w old)) r.size (rw m.groups_are at m.joins_are)

    -- no join has been made: nothing changes
    pub still_after : t.joins ≡ 0 → Still cs n
    still_after e = go (still_or_fewer v cs n old row r row_after)
      where
        go : Still cs n ⊎ (length (own v row) < length (own v old)) → Still cs n
        go (inl s) = s
        go (inr h) = absurd (none (groups_left) e h)
          where
            none : {a b j : ℕ} → a + j ≡ b → j ≡ 0 → a < b → ⊥
            none p q h = omega arith

    -- a join has been made: something does
    pub moved_after : t.joins ≢ 0 → ¬ Still cs n
    moved_after d s = d (none groups_left (ap (λ (l : List ℕ). length (own v l)) same))
      where
        none : {a b j : ℕ} → a + j ≡ b → a ≡ b → j ≡ 0
        none p q = omega arith

        same : row ≡ old
        same =
            row_unique v row old (After cs (suc n)) row_after
            (record {
              size = r.size;
              rep = record {
                canonical = r.rep.canonical;
                sound = λ a b e. after_grows cs n a b (r.rep.sound a b e);
                complete = λ a b h. r.rep.complete a b (s a b h);
              };
            })
