-- A renaming of the nets from 1 to V, extended to every code, has an inverse.
-- Assumes nothing.
use mathlib.Core.Path.{◌≡◌, refl, sym, ◌∙◌, ap, ap₂, subst⁻¹}
use mathlib.Core.Logic.{◌⊎◌, inl, inr}
use mathlib.Core.Bool.{Bool, true, false, true≢false}
use mathlib.Core.List.Memᴰ
use mathlib.Core.List.{List, [], ◌∷◌, map}
use Prim.Native.Nat.{ℕ, zero, suc, ◌*◌, ◌≤◌, ◌<◌}
use native.Mathlib.Omega.{arith}
use native.Mathlib.Decide.{dec_le, ℕ_discrete}
use lib.ListN.{length}
use lib.Dec.{eqb}
use borrow.Author.Tests.{eq-eqb, eqb-true}
use Rattle.clauses.specs.Code.{negate, net}
use Rattle.clauses.specs.Clause.{Mem, Same, Present}
use Rattle.clauses.specs.Lists.{any, from}
use Rattle.clauses.specs.Listing.{NetUpTo, Fits}
use Rattle.clauses.specs.Renaming.{Renames, Images}
use Rattle.clauses.proofs.Lists.{in_first, any_has, has_any, from_in, from_low, from_length}
use Rattle.clauses.proofs.Distinct.{from_distinct, pigeonhole}
use Rattle.clauses.proofs.Codes.{negate_negate, net_negate, negate_other, same_net}
use Rattle.clauses.proofs.Clauses.{present_same, fits_present}
use Rattle.clauses.proofs.Renaming.{Renaming, same_back, Image, Inside}

-- a code is its net or the net's inverse
code_cases : (x : ℕ) → (x ≡ 2 * net x) ⊎ (x ≡ negate (2 * net x))
code_cases x = same_net x (2 * net x) (omega arith)

module _ (v : ℕ) (ρ : ℕ → ℕ) (ren : Renames v ρ) where
  chosen : (x : ℕ) → Dec (net x ≤ v) → ℕ
  chosen x (yes h) = ρ x
  chosen x (no h) = x

  -- the renaming, with every code past those of net V left as it is
  extended : ℕ → ℕ
  extended x = chosen x (dec_le (net x) v)

  renamed_within : (x : ℕ) → net x ≤ v → extended x ≡ ρ x
  unfolding extended chosen
  renamed_within x h = go (dec_le (net x) v)
    where
      go : (d : Dec (net x ≤ v)) → chosen x d ≡ ρ x
      go (yes k) = refl
      go (no k) = absurd (k h)

  left_beyond : (x : ℕ) → v < net x → extended x ≡ x
  unfolding extended chosen
  left_beyond x h = go (dec_le (net x) v)
    where
      go : (d : Dec (net x ≤ v)) → chosen x d ≡ x
      go (yes k) = omega arith
      go (no k) = refl

  constant_stays : (x : ℕ) → net x ≡ 0 → ρ x ≡ x
  constant_stays x h = go (ℕ_discrete x 0)
    where
      go : Dec (x ≡ 0) → ρ x ≡ x
      go (yes e) = rw e ren.false_stays
      go (no e) = let q : x ≡ 1 = omega arith in rw q ren.true_stays

  inverse_within : (x : ℕ) → NetUpTo v (net x) → ρ (negate x) ≡ negate (ρ x)
  inverse_within x h = go (code_cases x)
    where
      there : ρ (negate (2 * net x)) ≡ negate (ρ (2 * net x))
      there = ren.inverses (net x) h

      go : (x ≡ 2 * net x) ⊎ (x ≡ negate (2 * net x)) → ρ (negate x) ≡ negate (ρ x)
      go (inl e) = ap (λ (y : ℕ). ρ (negate y)) e ∙ there ∙ ap (λ (y : ℕ). negate (ρ y)) (sym e)
      go (inr e) = ap ρ (ap negate e ∙ negate_negate (2 * net x)) ∙ sym (ap negate (ap ρ e ∙ there) ∙ negate_negate (ρ (2 * net x)))

  net_within : (x : ℕ) → NetUpTo v (net x) → net (ρ x) ≡ net (ρ (2 * net x))
  net_within x h = go (code_cases x)
    where
      go : (x ≡ 2 * net x) ⊎ (x ≡ negate (2 * net x)) → net (ρ x) ≡ net (ρ (2 * net x))
      go (inl e) = ap (λ (y : ℕ). net (ρ y)) e
      go (inr e) = ap net (ap ρ e ∙ ren.inverses (net x) h) ∙ net_negate (ρ (2 * net x))

  -- where a code stands, and so where its image does
  data Place (x : ℕ) : Type 0 where
    constant : net x ≡ 0 → extended x ≡ x → Place x
    literal : NetUpTo v (net x) → extended x ≡ ρ x → NetUpTo v (net (extended x)) → Place x
    beyond : v < net x → extended x ≡ x → Place x

  place : (x : ℕ) → Place x
  place x = go (ℕ_discrete (net x) 0) (dec_le (net x) v)
    where
      go : Dec (net x ≡ 0) → Dec (net x ≤ v) → Place x
      go (yes e) d = constant e (renamed_within x (omega arith) ∙ constant_stays x e)
      go (no e) (yes h) = literal l i (subst⁻¹ (NetUpTo v) (ap net i ∙ net_within x l) (ren.to_net (net x) l))
        where
          l : NetUpTo v (net x)
          l = omega arith

          i : extended x ≡ ρ x
          i = renamed_within x h
      go (no e) (no h) = let k : v < net x = omega arith in beyond k (left_beyond x k)

  extended_inverse : (x : ℕ) → extended (negate x) ≡ negate (extended x)
  extended_inverse x = go (place x)
    where
      go : Place x → extended (negate x) ≡ negate (extended x)
      go (constant e p) = renamed_within (negate x) (omega arith) ∙ constant_stays (negate x) (omega arith) ∙ ap negate (sym p)
      go (literal e p r) = renamed_within (negate x) (omega arith) ∙ inverse_within x e ∙ ap negate (sym p)
      go (beyond e p) = left_beyond (negate x) (omega arith) ∙ ap negate (sym p)

  extended_net : (x y : ℕ) → net (extended x) ≡ net (extended y) → net x ≡ net y
  extended_net x y h = go (place x) (place y)
    where
      go : Place x → Place y → net x ≡ net y
      go (constant e p) (constant f q) = e ∙ sym f
      go (constant e p) (literal f q s) = omega arith
      go (constant e p) (beyond f q) = omega arith
      go (literal e p r) (constant f q) = omega arith
      go (literal e p r) (literal f q s) = ren.no_two (net x) (net y) e f (sym (ap net p ∙ net_within x e) ∙ h ∙ ap net q ∙ net_within y f)
      go (literal e p r) (beyond f q) = omega arith
      go (beyond e p) (constant f q) = omega arith
      go (beyond e p) (literal f q s) = omega arith
      go (beyond e p) (beyond f q) = sym (ap net p) ∙ h ∙ ap net q

  extended_inj : (x y : ℕ) → extended x ≡ extended y → x ≡ y
  extended_inj x y h = go (same_net x y (extended_net x y (ap net h)))
    where
      go : (x ≡ y) ⊎ (x ≡ negate y) → x ≡ y
      go (inl e) = e
      go (inr e) = absurd (negate_other (extended y) (sym (ap extended e ∙ extended_inverse y) ∙ h))

  -- no net is left out: else V nets and one more would have different nets from 1 to V
  from_net : (u : ℕ) → NetUpTo v u → (w : ℕ) × NetUpTo v w × (net (ρ (2 * w)) ≡ u)
  from_net u h = go (any goes (from 1 v)) refl
    where
      goes : ℕ → Bool
      goes w = eqb (net (ρ (2 * w))) u

      go : (b : Bool) → any goes (from 1 v) ≡ b → (w : ℕ) × NetUpTo v w × (net (ρ (2 * w)) ≡ u)
      go true e =
          let f = any_has goes (from 1 v) e in
          let r = from_low 1 v f.it f.listed in
          (f.it, omega arith, eqb-true (net (ρ (2 * f.it))) u f.passes)
      go false e = absurd (too_many (pigeonhole (λ (w y : ℕ). y ≡ target w) (from 0 (suc v)) (from 1 v) (from_distinct 0 (suc v)) hole once))
        where
          target : ℕ → ℕ
          target zero = u
          target (suc w) = net (ρ (2 * suc w))

          in_range : (w : ℕ) → Mem (suc w) (from 0 (suc v)) → NetUpTo v (suc w)
          in_range w k = let r = from_low 0 (suc v) (suc w) k in omega arith

          hole : (w : ℕ) → Mem w (from 0 (suc v)) → (y : ℕ) × Mem y (from 1 v) × (y ≡ target w)
          hole zero k = (u, from_in 1 v u h.0 (omega arith), refl)
          hole (suc w) k = let t = ren.to_net (suc w) (in_range w k) in (target (suc w), from_in 1 v (target (suc w)) t.0 (omega arith), refl)

          missed : (w : ℕ) → Mem (suc w) (from 0 (suc v)) → u ≡ target (suc w) → ⊥
          missed w k q = true≢false (sym (has_any goes (from 1 v) (from_in 1 v (suc w) (omega arith) (omega (arith, in_range w k))) (eq-eqb (target (suc w)) u (sym q))) ∙ e)

          once : (w z y : ℕ) → Mem w (from 0 (suc v)) → Mem z (from 0 (suc v)) → y ≡ target w → y ≡ target z → w ≡ z
          once zero zero y k m p q = refl
          once zero (suc z) y k m p q = absurd (missed z m (sym p ∙ q))
          once (suc w) zero y k m p q = absurd (missed w k (sym q ∙ p))
          once (suc w) (suc z) y k m p q = ren.no_two (suc w) (suc z) (in_range w k) (in_range z m) (sym p ∙ q)

          too_many : length (from 0 (suc v)) ≤ length (from 1 v) → ⊥
          too_many l = omega (arith, from_length 0 (suc v), from_length 1 v)

  -- what a code is the image of
  source : (x : ℕ) → (y : ℕ) × (extended y ≡ x)
  source x = go (place x)
    where
      named : (w : ℕ) → NetUpTo v w → (ρ (2 * w) ≡ x) ⊎ (ρ (2 * w) ≡ negate x) → (y : ℕ) × (extended y ≡ x)
      named w l (inl e) = (2 * w, renamed_within (2 * w) (omega arith) ∙ e)
      named w l (inr e) = (negate (2 * w), renamed_within (negate (2 * w)) (omega arith) ∙ ren.inverses w l ∙ ap negate e ∙ negate_negate x)

      go : Place x → (y : ℕ) × (extended y ≡ x)
      go (constant e p) = (x, p)
      go (literal e p r) = let s = from_net (net x) e in named s.0 s.1 (same_net (ρ (2 * s.0)) x s.2)
      go (beyond e p) = (x, p)

  restored : ℕ → ℕ
  restored x = (source x).0

  extended_renaming : Renaming extended restored
  unfolding restored
  extended_renaming =
      record {
        undo = λ x. extended_inj (source (extended x)).0 x (source (extended x)).1;
        redo = λ x. (source x).1;
        inverse = extended_inverse;
        zero_stays = renamed_within 0 (omega arith) ∙ ren.false_stays;
      }

  extended_inside : Inside v extended
  extended_inside = record { stays = λ x h. go x h (place x) }
    where
      go : (x : ℕ) → net x ≤ v → Place x → net (extended x) ≤ v
      go x h (constant e p) = omega arith
      go x h (literal e p r) = r.1
      go x h (beyond e p) = omega arith

  restored_inside : Inside v restored
  unfolding restored
  restored_inside = record { stays = λ x h. go (source x).0 x (source x).1 h (place (source x).0) }
    where
      go : (y x : ℕ) → extended y ≡ x → net x ≤ v → Place y → net y ≤ v
      go y x q h (constant e p) = omega arith
      go y x q h (literal e p r) = e.1
      go y x q h (beyond e p) = omega arith

  map_extended : (c : List ℕ) → ((x : ℕ) → Mem x c → net x ≤ v) → map extended c ≡ map ρ c
  map_extended [] h = refl
  map_extended (x ∷ c) h = ap₂ (λ (y : ℕ) (t : List ℕ). y ∷ t) (renamed_within x (h x in_first)) (map_extended c (λ y k. h y (Memᴰ.tail k)))

-- a renaming of all codes that agrees with ρ up to net V and takes cs to ds
pub record Extension (v : ℕ) (ρ : ℕ → ℕ) (cs ds : List (List ℕ)) : Type 0 where
  pub there : ℕ → ℕ
  pub back : ℕ → ℕ
  pub image : Image there back cs ds
  pub there_inside : Inside v there
  pub back_inside : Inside v back
  pub agrees : (x : ℕ) → net x ≤ v → there x ≡ ρ x

pub extension : {v : ℕ} {ρ : ℕ → ℕ} {cs ds : List (List ℕ)} → Fits v cs → Renames v ρ → Images ρ cs ds → Extension v ρ cs ds
extension {v} {ρ} {cs} {ds} fit ren images =
    record {
      there = extended v ρ ren;
      back = restored v ρ ren;
      image = record {
        ren = extended_renaming v ρ ren;
        forth = λ c h. subst⁻¹ (Present ds) (same_map c h) (images.each c h);
        back = λ c h.
            let o = images.only (map (extended v ρ ren) c) h in
            present_same
            (same_back (extended v ρ ren) (restored v ρ ren) (extended_renaming v ρ ren) c o.0
            (subst⁻¹ (Same (map (extended v ρ ren) c)) (same_map o.0 o.1) o.2)) o.1;
      };
      there_inside = extended_inside v ρ ren;
      back_inside = restored_inside v ρ ren;
      agrees = renamed_within v ρ ren;
    }
  where
    same_map : (c : List ℕ) → Present cs c → map (extended v ρ ren) c ≡ map ρ c
    same_map c h = map_extended v ρ ren c (λ x k. (fits_present fit h x k).1)
