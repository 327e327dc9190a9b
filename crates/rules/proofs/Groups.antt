-- The nets that are their own lead: what they are, how many there are, and that a round which changes something leaves fewer.
-- Assumes nothing.
use mathlib.Core.Path.{◌≡◌, refl, sym, ◌∙◌, ap, subst, subst⁻¹}
use mathlib.Core.Logic.{◌≢◌, ◌⊎◌, inl, inr}
use mathlib.Core.Bool.{Bool, true, false, true≢false}
use mathlib.Core.List.Memᴰ
use mathlib.Core.List.{List, [], ◌∷◌}
use Prim.Native.Nat.{ℕ, zero, suc, ◌+◌, ◌*◌, ◌≤◌, ◌<◌}
use native.Mathlib.Omega.{arith}
use native.Mathlib.Decide.{ℕ_discrete, dec_le}
use native.Mathlib.Nat.{not-suc-le-zero, le_trans}
use lib.ListN.{length, get_or-eq_default, replicate, length-replicate, get_or-replicate}
use lib.Dec.{eqb}
use borrow.Author.Tests.{eq-eqb, ne_eqb, eqb-true}
use Rattle.clauses.specs.Code.{negate, net}
use Rattle.clauses.specs.Clause.{Mem, Within}
use Rattle.clauses.specs.Lists.{from}
use Rattle.clauses.specs.Listing.{mem}
use Rattle.clauses.proofs.Lists.{in_first, keep_has, has_keep, keep_length, keep_none, from_in, from_low, from_length}
use Rattle.clauses.proofs.Distinct.{Distinct, more, keep_distinct, from_distinct, pigeonhole}
use Rattle.clauses.proofs.Codes.{net_double, negate_other, same_net}
use Rattle.clauses.proofs.Clauses.{mem_in, in_mem}
use Rattle.clauses.proofs.Renaming.{Image, Inside}
use Rattle.clauses.specs.Sign.{plus, flip, is_inverse}
use Rattle.clauses.proofs.Signs.{net_flip, code_split, same_net_flip, plain_net}
use Rattle.gates.proofs.Renamed.{flip_renamed}
use Rattle.rules.specs.Grouping.{After}
use Rattle.rules.specs.Ending.{Still}
use Rattle.rules.specs.Answer.{lead_of, own, no_lead}
use Rattle.rules.proofs.Groupings.{after_grows}
use Rattle.rules.proofs.Endings.{after_from}
use Rattle.rules.proofs.Leads.{lead_flip, lead_zero}
use Rattle.rules.proofs.Rounds.{Row}
use Rattle.rules.proofs.Closing.{entry}

module _ (v : ℕ) (l : List ℕ) where
  pub own_is : (w : ℕ) → Mem w (own v l) → (lead_of l (2 * w) ≡ 2 * w) × (1 ≤ w) × (w ≤ v)
  unfolding own
  own_is w k =
      let t = keep_has (λ w. eqb (lead_of l (2 * w)) (2 * w)) (from 1 v) w k in
      let b = from_low 1 v w t.0 in
      (eqb-true (lead_of l (2 * w)) (2 * w) t.1, omega arith, omega arith)

  pub is_own : (w : ℕ) → lead_of l (2 * w) ≡ 2 * w → 1 ≤ w → w ≤ v → Mem w (own v l)
  unfolding own
  is_own w e p q = has_keep (λ w. eqb (lead_of l (2 * w)) (2 * w)) (from 1 v) (from_in 1 v w p (omega arith)) (eq-eqb (lead_of l (2 * w)) (2 * w) e)

  pub own_distinct : Distinct (own v l)
  unfolding own
  own_distinct = keep_distinct (λ w. eqb (lead_of l (2 * w)) (2 * w)) (from 1 v) (from_distinct 1 v)

  pub own_length : length (own v l) ≤ v
  unfolding own
  own_length = subst (λ (n : ℕ). length (own v l) ≤ n) (from_length 1 v) (keep_length _ (from 1 v))

-- on contradiction no net is
pub own_none : (v : ℕ) → own v (replicate v no_lead) ≡ []
unfolding own
own_none v = keep_none (λ w. eqb (lead_of (replicate v no_lead) (2 * w)) (2 * w)) (from 1 v) (λ w k. go w (from_low 1 v w k))
  where
    other : (w : ℕ) → no_lead ≢ 2 * w
    other w e = omega arith

    go : (w : ℕ) → (1 ≤ w) × (w < 1 + v) → eqb (lead_of (replicate v no_lead) (2 * w)) (2 * w) ≡ false
    go zero b = absurd (not-suc-le-zero b.0)
    go (suc i) b = ne_eqb (lead_of (replicate v no_lead) (2 * suc i)) (2 * suc i) (λ e. other (suc i) (sym led ∙ e))
      where
        led : lead_of (replicate v no_lead) (2 * suc i) ≡ no_lead
        led = entry (replicate v no_lead) i 0 (subst⁻¹ (λ (n : ℕ). i < n) (length-replicate v no_lead) (omega arith)) ∙ get_or-replicate v i no_lead 0 (omega arith)

-- A round

record Missing (ys xs : List ℕ) : Type 0 where
  it : ℕ
  in_xs : Mem it xs
  not_in : Mem it ys → ⊥

-- one list lies within another, or something is missing
missing : (ys xs : List ℕ) → Within xs ys ⊎ Missing ys xs
missing ys [] = inl (λ x k. elim k [ ])
missing ys (x ∷ xs) = go (mem x ys) refl (missing ys xs)
  where
    go : (b : Bool) → mem x ys ≡ b → Within xs ys ⊎ Missing ys xs → Within (x ∷ xs) ys ⊎ Missing ys (x ∷ xs)
    go false e r = inr (record { it = x; in_xs = in_first; not_in = λ k. true≢false (sym (in_mem ys k) ∙ e) })
    go true e (inr m) = inr (record { it = m.it; in_xs = Memᴰ.tail m.in_xs; not_in = m.not_in })
    go true e (inl w) = inl whole
      where
        whole : Within (x ∷ xs) ys
        whole y (Memᴰ.head q) = Memᴰ.cast q (mem_in x ys e)
        whole y (Memᴰ.tail k) = w y k

fewer : (xs ys : List ℕ) → Distinct ys → Within ys xs → Missing ys xs → suc (length ys) ≤ length xs
fewer xs ys d w m = pigeonhole (λ (x y : ℕ). x ≡ y) (m.it ∷ ys) xs (more m.not_in d) (λ x k. (x, whole x k, refl)) (λ x z y k l p q. p ∙ sym q)
  where
    whole : Within (m.it ∷ ys) xs
    whole x (Memᴰ.head e) = Memᴰ.cast e m.in_xs
    whole x (Memᴰ.tail k) = w x k

-- past the row a net leads itself
outside : (m : List ℕ) (w : ℕ) → length m < w → lead_of m (2 * w) ≡ 2 * w
unfolding lead_of
outside m w h =
    ap (flip (is_inverse (2 * w))) (get_or-eq_default (0 ∷ m) (2 * net (2 * w)) (subst⁻¹ (λ (i : ℕ). suc (length m) ≤ i) (net_double w) h))
    ∙ sym (code_split (2 * w))

module _ (v : ℕ) (cs : List (List ℕ)) (n : ℕ) (l m : List ℕ) (r : Row v l (After cs n)) (s : Row v m (After cs (suc n))) where
  later_same : (a b : ℕ) → lead_of l a ≡ lead_of l b → lead_of m a ≡ lead_of m b
  later_same a b e = s.rep.complete a b (after_grows cs n a b (r.rep.sound a b e))

  -- a net that leads itself after the round did so before it
  own_before : Within (own v m) (own v l)
  own_before w k = is_own v l w (go (same_net x (2 * w) nets)) o.1 o.2
    where
      x : ℕ
      x = lead_of l (2 * w)

      o : (lead_of m (2 * w) ≡ 2 * w) × (1 ≤ w) × (w ≤ v)
      o = own_is v m w k

      led : lead_of m x ≡ 2 * w
      led = later_same x (2 * w) (r.rep.canonical.again (2 * w)) ∙ o.0

      nets : net x ≡ net (2 * w)
      nets = le_both (r.rep.canonical.low (2 * w)) (subst (λ (y : ℕ). net y ≤ net x) led (s.rep.canonical.low x))
        where
          le_both : {a b : ℕ} → a ≤ b → b ≤ a → a ≡ b
          le_both p q = omega arith

      go : (x ≡ 2 * w) ⊎ (x ≡ negate (2 * w)) → x ≡ 2 * w
      go (inl e) = e
      go (inr e) = absurd (negate_other (2 * w) (sym (ap negate o.0) ∙ sym (s.rep.canonical.inverse (2 * w)) ∙ sym (ap (lead_of m) e) ∙ led))

  -- if every net still leads itself nothing has changed
  own_still : Within (own v l) (own v m) → (a : ℕ) → lead_of m a ≡ lead_of l a
  own_still h a = sym (later_same (lead_of l a) a (r.rep.canonical.again a)) ∙ fixed (lead_of l a) (r.rep.canonical.again a)
    where
      fixed : (x : ℕ) → lead_of l x ≡ x → lead_of m x ≡ x
      fixed x e = ap (lead_of m) (code_split x) ∙ lead_flip (lead_of m) s.rep.canonical (is_inverse x) (2 * net x) ∙ ap (flip (is_inverse x)) (plain (net x) below) ∙ sym (code_split x)
        where
          below : lead_of l (2 * net x) ≡ 2 * net x
          below = ap (lead_of l) (plain_net x) ∙ lead_flip (lead_of l) r.rep.canonical (is_inverse x) x ∙ ap (flip (is_inverse x)) e ∙ sym (plain_net x)

          plain : (w : ℕ) → lead_of l (2 * w) ≡ 2 * w → lead_of m (2 * w) ≡ 2 * w
          plain w q = go (ℕ_discrete w 0) (dec_le w v)
            where
              go : Dec (w ≡ 0) → Dec (w ≤ v) → lead_of m (2 * w) ≡ 2 * w
              go (yes z) d = subst⁻¹ (λ (i : ℕ). lead_of m (2 * i) ≡ 2 * i) z (lead_zero (lead_of m) s.rep.canonical)
              go (no z) (yes d) = (own_is v m w (h w (is_own v l w q (omega arith) d))).0
              go (no z) (no d) = outside m w (subst⁻¹ (λ (i : ℕ). i < w) s.size (omega arith))

  -- a round changes nothing or leaves fewer groups
  pub still_or_fewer : Still cs n ⊎ (length (own v m) < length (own v l))
  still_or_fewer = go (missing (own v m) (own v l))
    where
      go : Within (own v l) (own v m) ⊎ Missing (own v m) (own v l) → Still cs n ⊎ (length (own v m) < length (own v l))
      go (inl w) = inl (λ a b h. r.rep.sound a b (sym (own_still w a) ∙ s.rep.complete a b h ∙ own_still w b))
      go (inr x) = inr (fewer (own v l) (own v m) (own_distinct v m) own_before x)

  pub groups_fall : ¬ Still cs n → length (own v m) < length (own v l)
  groups_fall moved = go still_or_fewer
    where
      go : Still cs n ⊎ (length (own v m) < length (own v l)) → length (own v m) < length (own v l)
      go (inl still) = absurd (moved still)
      go (inr h) = h

-- A renaming

module _ (v : ℕ) (ρ σ : ℕ → ℕ) (cs ds : List (List ℕ)) (im : Image ρ σ cs ds) (inside : Inside v ρ) (n : ℕ) (l m : List ℕ)
    (r : Row v l (After cs n)) (s : Row v m (After ds n)) where
  abbrev f : ℕ → ℕ
  f = lead_of m

  -- what has one lead up to its sign on one side has so on the other
  lead_back : (a b : ℕ) → net (f (ρ a)) ≡ net (f (ρ b)) → net (lead_of l a) ≡ net (lead_of l b)
  lead_back a b e = ap net (r.rep.complete a (flip t b) (after_from ρ σ cs ds im n a (flip t b) joined) ∙ lead_flip (lead_of l) r.rep.canonical t b) ∙ net_flip t (lead_of l b)
    where
      t : Bool
      t = plus (is_inverse (f (ρ a))) (is_inverse (f (ρ b)))

      joined : After ds n (ρ a) (ρ (flip t b))
      joined = s.rep.sound (ρ a) (ρ (flip t b)) (same_net_flip (f (ρ a)) (f (ρ b)) e ∙ sym (lead_flip f s.rep.canonical t (ρ b)) ∙ ap f (sym (flip_renamed ρ σ im.ren t b)))

  abbrev Leads : ℕ → ℕ → Type 0
  Leads w u = u ≡ net (f (ρ (2 * w)))

  pub groups_le : length (own v l) ≤ length (own v m)
  groups_le = pigeonhole Leads (own v l) (own v m) (own_distinct v l) partner once
    where
      partner : (w : ℕ) → Mem w (own v l) → (u : ℕ) × Mem u (own v m) × Leads w u
      partner w k = (net x, is_own v m (net x) led positive small, refl)
        where
          x : ℕ
          x = f (ρ (2 * w))

          o : (lead_of l (2 * w) ≡ 2 * w) × (1 ≤ w) × (w ≤ v)
          o = own_is v l w k

          led : f (2 * net x) ≡ 2 * net x
          led = ap f (plain_net x) ∙ lead_flip f s.rep.canonical (is_inverse x) x ∙ ap (flip (is_inverse x)) (s.rep.canonical.again (ρ (2 * w))) ∙ sym (plain_net x)

          zero_case : net x ≡ 0 → ⊥
          zero_case e = no (lead_back (2 * w) 0 (e ∙ sym (ap net (ap f im.ren.zero_stays ∙ lead_zero f s.rep.canonical))))
            where
              no : net (lead_of l (2 * w)) ≡ net (lead_of l 0) → ⊥
              no q = positive' (sym (net_double w) ∙ sym (ap net o.0) ∙ q ∙ ap net (lead_zero (lead_of l) r.rep.canonical)) o.1
                where
                  positive' : w ≡ 0 → 1 ≤ w → ⊥
                  positive' p q = omega arith

          positive : 1 ≤ net x
          positive = go (ℕ_discrete (net x) 0)
            where
              go : Dec (net x ≡ 0) → 1 ≤ net x
              go (yes e) = absurd (zero_case e)
              go (no e) = omega arith

          small : net x ≤ v
          small = le_trans (s.rep.canonical.low (ρ (2 * w))) (inside.stays (2 * w) (subst⁻¹ (λ (z : ℕ). z ≤ v) (net_double w) o.2))

      once : (w z u : ℕ) → Mem w (own v l) → Mem z (own v l) → Leads w u → Leads z u → w ≡ z
      once w z u k i p q =
          sym (net_double w) ∙ sym (ap net (own_is v l w k).0) ∙ lead_back (2 * w) (2 * z) (sym p ∙ q) ∙ ap net (own_is v l z i).0 ∙ net_double z
