-- A round that is being made: a join of two groups carries it on, and what has been joined stays so.
-- Assumes nothing.
use mathlib.Core.Path.{◌≡◌, refl, sym, ◌∙◌, ap, subst, subst⁻¹}
use mathlib.Core.Logic.{◌≢◌, inl, inr}
use mathlib.Core.Bool.{Bool, true, false}
use mathlib.Core.List.Memᴰ
use mathlib.Core.List.{List, ◌∷◌, map}
use Prim.Native.Nat.{ℕ, suc, ◌*◌, ◌≤◌, ◌<◌}
use native.Mathlib.Omega.{arith}
use native.Mathlib.Decide.{ℕ_discrete, dec_lt}
use lib.ListN.{length}
use borrow.Author.Tests.{eq-eqb, ne_eqb, lt-ltb, le-ltb}
use Rattle.clauses.specs.Code.{negate, net}
use Rattle.clauses.specs.Clause.{Mem, Within}
use Rattle.clauses.proofs.Distinct.{Distinct, more, pigeonhole}
use Rattle.clauses.proofs.Codes.{net_double, negate_negate}
use Rattle.clauses.specs.Sign.{flip, is_inverse}
use Rattle.clauses.proofs.Signs.{plain_net}
use Rattle.rules.specs.Grouping.{Next}
use Rattle.rules.specs.Answer.{lead_of, own}
use Rattle.rules.specs.Compute.{by_leads, everything, replace, join_leads}
use Rattle.closure.specs.declared.tally.Tally.{Tally}
use Rattle.closure.specs.Making.{Kernel, Drawn, Making, JoinedBy, Later}
use Rattle.closure.specs.Joining.{State, fewer, join_state}
use Rattle.rules.proofs.Leads.{Canonical, Replaced, as_lead, as_inverse, kept, replaced, replace_is, lead_flip}
use Rattle.rules.proofs.Merging.{Sound, Merged, Outcome, lead_merged, join_step}
use Rattle.rules.proofs.Groups.{own_is, is_own, own_distinct, own_length}
use Rattle.closure.proofs.Joining.{join_clashed, join_same, join_inverses, join_lower, join_higher}

-- Groups

pub within_length : (xs ys : List ℕ) → Distinct xs → Within xs ys → length xs ≤ length ys
within_length xs ys d w = pigeonhole (λ (x y : ℕ). x ≡ y) xs ys d (λ x k. (x, w x k, refl)) (λ x z y k l p q. p ∙ sym q)

-- lead hi is replaced by lead lo: hi's net leads itself no more, and every other does as before
module _ (row : List ℕ) (k : Canonical (lead_of row)) (lo hi : ℕ) (flo : lead_of row lo ≡ lo) (fhi : lead_of row hi ≡ hi) (lower : net lo < net hi)
    (v : ℕ) (inside : net hi ≤ length row) (size : length row ≡ v) where
  abbrev next : List ℕ
  next = map (replace hi lo) row

  led : (c : ℕ) → lead_of next c ≡ replace hi lo (lead_of row c)
  led c = lead_merged row hi lo c lower inside

  own_stays : (w : ℕ) → w ≢ net hi → lead_of row (2 * w) ≡ 2 * w → lead_of next (2 * w) ≡ 2 * w
  own_stays w n e = led (2 * w) ∙ ap (replace hi lo) e ∙ replace_is hi lo (2 * w) (2 * w) (kept (λ q. n (sym (net_double w) ∙ q)) refl)

  own_was : (w : ℕ) → lead_of next (2 * w) ≡ 2 * w → (w ≢ net hi) × (lead_of row (2 * w) ≡ 2 * w)
  own_was w e = go (replaced hi lo (lead_of row (2 * w)))
    where
      r : ℕ
      r = replace hi lo (lead_of row (2 * w))

      here : r ≡ 2 * w
      here = sym (led (2 * w)) ∙ e

      lo≢hi : lo ≢ hi
      lo≢hi q = not_less (ap net q) lower
        where
          not_less : net lo ≡ net hi → net lo < net hi → ⊥
          not_less p q = omega arith

      go : Replaced hi lo (lead_of row (2 * w)) r → (w ≢ net hi) × (lead_of row (2 * w) ≡ 2 * w)
      go (as_lead p q) = absurd (lo≢hi (sym flo ∙ ap (lead_of row) (sym q ∙ here) ∙ p))
      go (as_inverse p q) =
          absurd (lo≢hi (sym (negate_negate lo) ∙ ap negate (sym (k.inverse lo ∙ ap negate flo) ∙ ap (lead_of row) (sym q ∙ here) ∙ p) ∙ negate_negate hi))
      go (kept p q) = ((λ z. p (ap net (sym q ∙ here) ∙ net_double w ∙ z)), sym q ∙ here)

  gone : ¬ Mem (net hi) (own v next)
  gone m = (own_was (net hi) (own_is v next (net hi) m).0).0 refl

  was_own : lead_of row (2 * net hi) ≡ 2 * net hi
  was_own = ap (lead_of row) (plain_net hi) ∙ lead_flip (lead_of row) k (is_inverse hi) hi ∙ ap (flip (is_inverse hi)) fhi ∙ sym (plain_net hi)

  -- a merge leaves one group less
  merge_groups : length (own v row) ≡ suc (length (own v next))
  merge_groups =
      le_both
      (within_length (own v row) (net hi ∷ own v next) (own_distinct v row) all_but)
      (within_length (net hi ∷ own v next) (own v row) (more gone (own_distinct v next)) before)
    where
      le_both : {a b : ℕ} → a ≤ b → b ≤ a → a ≡ b
      le_both p q = omega arith

      all_but : Within (own v row) (net hi ∷ own v next)
      all_but w m = go (ℕ_discrete w (net hi)) (own_is v row w m)
        where
          go : Dec (w ≡ net hi) → (lead_of row (2 * w) ≡ 2 * w) × (1 ≤ w) × (w ≤ v) → Mem w (net hi ∷ own v next)
          go (yes e) o = Memᴰ.head e
          go (no n) o = Memᴰ.tail (is_own v next w (own_stays w n o.0) o.1 o.2)

      before : Within (net hi ∷ own v next) (own v row)
      before w (Memᴰ.head e) =
          Memᴰ.cast e (is_own v row (net hi) was_own (omega arith) (subst (λ (n : ℕ). net hi ≤ n) size inside))
      before w (Memᴰ.tail m) = let o = own_is v next w m in is_own v row w (own_was w o.0).1 o.1 o.2

-- The round goes on

-- A join

-- a and b have been joined in the row
pub record Carried (cs : List (List ℕ)) (old row : List ℕ) (t : Tally) (a b : ℕ) (s : State) : Type 0 where
  pub making : Making cs old s.row s.tally
  pub later : Later row t s.row s.tally
  pub joined : JoinedBy s.row s.tally a b

module _ (cs : List (List ℕ)) (old row : List ℕ) (t : Tally) (m : Making cs old row t) where
  canonical : Canonical (lead_of row)
  canonical = record { inverse = m.inverse; again = m.again; low = m.low }

  stands : Sound (Next cs (Kernel old)) row
  stands = record { canonical = canonical; sound = m.sound }

  -- the counter of joins has room
  pub joins_room : length old ≤ 1024 → t.joins < 4294967295
  joins_room h = let n = own_length (length old) old in let e = m.joins_are in omega arith

  module _ (a b : ℕ) (d : Drawn cs old a b) (ia : net a ≤ length old) (ib : net b ≤ length old) where
    abbrev x : ℕ
    x = lead_of row a

    abbrev y : ℕ
    y = lead_of row b

    high : (c : ℕ) → net c ≤ length old → net c ≤ length row
    high c h = subst⁻¹ (λ (n : ℕ). net c ≤ n) m.size h

    outcome : Outcome (Next cs (Kernel old)) row stands a b (join_leads row x y)
    outcome = join_step (Next cs (Kernel old)) row stands a b d (high a ia) (high b ib)

    clashed : x ≢ y → net x ≡ net y → join_leads row x y ≡ everything
    unfolding join_leads
    clashed n e = rw (eq-eqb (net x) (net y) e, ne_eqb x y n, join_leads)

    lower : net x ≢ net y → net x < net y → join_leads row x y ≡ by_leads (map (replace y x) row)
    unfolding join_leads
    lower n h = rw (ne_eqb (net x) (net y) n, lt-ltb (net x) (net y) h, join_leads)

    higher : net x ≢ net y → net y ≤ net x → join_leads row x y ≡ by_leads (map (replace x y) row)
    unfolding join_leads
    higher n h = rw (ne_eqb (net x) (net y) n, le-ltb (net x) (net y) h, join_leads)

    -- one lead has given way to the other
    given_way : (next : List ℕ) → Merged (Next cs (Kernel old)) row a b next → length (own (length old) row) ≡ suc (length (own (length old) next))
        → Carried cs old row t a b (record { row = next; tally = fewer t })
    given_way next h g =
        record {
          making = record {
            size = h.coarser.size ∙ m.size;
            inverse = h.row.canonical.inverse;
            again = h.row.canonical.again;
            low = h.row.canonical.low;
            sound = h.row.sound;
            still = λ p q e. h.coarser.still p q (m.still p q e);
            clash_drawn = m.clash_drawn;
            groups_are = let e = m.groups_are in omega arith;
            joins_are = let e = m.groups_are in let f = m.joins_are in omega arith;
          };
          later = later;
          joined = inr h.joins;
        }
      where
        later : Later row t next (fewer t)
        later p q (inl e) = inl e
        later p q (inr e) = inr (h.coarser.still p q e)

    pub join_makes : Carried cs old row t a b (join_state row t a b)
    join_makes = go t.clash refl (ℕ_discrete x y) (ℕ_discrete (net x) (net y)) (dec_lt (net x) (net y))
      where
        Goal : State → Type 0
        Goal = Carried cs old row t a b

        go : (c : Bool) → t.clash ≡ c → Dec (x ≡ y) → Dec (net x ≡ net y) → Dec (net x < net y) → Goal (join_state row t a b)
        go true c p q r = subst Goal (join_clashed row t a b x y refl refl c) (record { making = m; later = λ p q j. j; joined = inl c })
        go false c (yes p) q r = subst Goal (join_same row t a b x y refl refl c p) (record { making = m; later = λ p q j. j; joined = inr p })
        go false c (no p) (yes q) r =
            subst Goal (join_inverses row t a b x y refl refl c p q)
            (record {
              making = record {
                size = m.size;
                inverse = m.inverse;
                again = m.again;
                low = m.low;
                sound = m.sound;
                still = m.still;
                clash_drawn = λ e. subst (Outcome (Next cs (Kernel old)) row stands a b) (clashed p q) outcome;
                groups_are = m.groups_are;
                joins_are = m.joins_are;
              };
              later = λ p q j. inl refl;
              joined = inl refl;
            })
        go false c (no p) (no q) (yes r) =
            subst Goal (join_lower row t a b x y refl refl c p q r (map (replace y x) row) refl)
            (given_way (map (replace y x) row) (subst (Outcome (Next cs (Kernel old)) row stands a b) (lower q r) outcome)
            (merge_groups row canonical x y (m.again a) (m.again b) r (length old) (omega (arith, m.low b, high b ib)) m.size))
        go false c (no p) (no q) (no r) =
            subst Goal (join_higher row t a b x y refl refl c p q (omega arith) (map (replace x y) row) refl)
            (given_way (map (replace x y) row) (subst (Outcome (Next cs (Kernel old)) row stands a b) (higher q (omega arith)) outcome)
            (merge_groups row canonical y x (m.again b) (m.again a) (omega arith) (length old) (omega (arith, m.low a, high a ia)) m.size))
