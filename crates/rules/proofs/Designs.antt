-- Gates of a design: the rules know every gate that a list holds.
-- Assumes nothing.
use mathlib.Core.Path.{◌≡◌, refl, sym, ◌∙◌, ap, subst⁻¹}
use mathlib.Core.Logic.{◌≢◌, ◌⊎◌, inl, inr}
use mathlib.Core.Bool.{true, false}
use mathlib.Core.List.Memᴰ
use mathlib.Core.List.{List, [], ◌∷◌, map, Memᴰ}
use Prim.Native.Nat.{ℕ, suc-le-suc}
use native.Mathlib.Decide.{ℕ_discrete}
use Rattle.clauses.specs.Code.{negate, net}
use Rattle.clauses.specs.Clause.{Mem, Within, Tautology, Present, Included}
use Rattle.clauses.specs.Listing.{present}
use Rattle.clauses.proofs.Lists.{in_first, in_second, in_third, mem_map, mem_of_map, have_all, has_each}
use Rattle.clauses.proofs.Codes.{net_negate, negate_other, negate_inj}
use Rattle.clauses.proofs.Clauses.{is_present, same_refl, present_same}
use Rattle.gates.specs.Gate.{Input, AndGate, Apart, XorGate, IteGate}
use Rattle.gates.specs.Listing.{signings}
use Rattle.gates.proofs.Ands.{Inputs, Two}
use Rattle.gates.proofs.Xors.{apart_distinct, apart_once, apart_inverted}
use Rattle.gates.proofs.XorsListed.{signed_choice, signed_all}
use Rattle.gates.proofs.ItesListed.{nets_apart, apart_nets}
use Rattle.rules.specs.Rule.{Concludes}
use Rattle.rules.specs.Design.{Gate, and, xor, ite, encoding, encodings, ProperPins, HoldsGate}

-- a gate is in every list that has more clauses
pub holds_more : {cs ds : List (List ℕ)} → Included cs ds → {g : Gate} → HoldsGate cs g → HoldsGate ds g
holds_more more h = record { proper = h.proper; clauses = λ c p. more c (h.clauses c p) }

-- and where all clauses of a design are, each of its gates is
pub encodings_hold : {cs : List (List ℕ)} {gs : List Gate} → Included (encodings gs) cs → {g : Gate} → Memᴰ g gs → ProperPins g → HoldsGate cs g
encodings_hold more k p =
    record { proper = p; clauses = λ c h. more c (record { found = h.found; listed = has_each encoding k h.listed; proper = h.proper; same = h.same }) }

-- The clauses of a gate are present, since none is ignored

apart_clause_proper : {c : List ℕ} → Apart c → ¬ Tautology c
apart_clause_proper a t = negate_other t.lit (apart_once a (negate t.lit) t.lit t.inverse t.plain (net_negate t.lit))

negated_in : {x : ℕ} (rs : List ℕ) → Mem (negate x) (map negate rs) → Mem x rs
negated_in {x} rs k = let o = mem_of_map negate rs k in Memᴰ.cast (negate_inj x o.of o.is) o.in_list

and_clause_proper : (l : ℕ) (rs : List ℕ) → ProperPins (and l rs) → ¬ Tautology (l ∷ map negate rs)
and_clause_proper l rs p t = go t.plain t.inverse
  where
    go : Mem t.lit (l ∷ map negate rs) → Mem (negate t.lit) (l ∷ map negate rs) → ⊥
    go (Memᴰ.head e) (Memᴰ.head q) = negate_other t.lit (q ∙ sym e)
    go (Memᴰ.head e) (Memᴰ.tail m) = (p t.lit (negated_in rs m)).0 (ap net e)
    go (Memᴰ.tail k) (Memᴰ.head q) =
        let o = mem_of_map negate rs k in
        (p o.of o.in_list).0 (sym (net_negate o.of) ∙ ap net (sym o.is) ∙ sym (net_negate t.lit) ∙ ap net q)
    go (Memᴰ.tail k) (Memᴰ.tail m) =
        let o = mem_of_map negate rs k in
        (p o.of o.in_list).1 (Memᴰ.cast (sym o.is) (negated_in rs m))

-- literals of the three nets of one side of a multiplexer
side_proper : {l c t : ℕ} → Apart (l ∷ c ∷ t ∷ []) → (x y z : ℕ) → net x ≡ net c → net y ≡ net l → net z ≡ net t → ¬ Tautology (x ∷ y ∷ z ∷ [])
side_proper a x y z p q r =
    let f = apart_nets a in
    apart_clause_proper (nets_apart (record { cl = λ e. f.cl (sym p ∙ sym e ∙ q); tl = λ e. f.tc (sym r ∙ e ∙ p); tc = λ e. f.tl (sym r ∙ e ∙ q) }))

encoding_proper : (g : Gate) → ProperPins g → (c : List ℕ) → Memᴰ c (encoding g) → ¬ Tautology c
encoding_proper (and l rs) p c (Memᴰ.head e) = subst⁻¹ (λ (d : List ℕ). ¬ Tautology d) e (and_clause_proper l rs p)
encoding_proper (and l rs) p c (Memᴰ.tail k) =
    let o = mem_of_map (λ (r : ℕ). negate l ∷ r ∷ []) rs k in
    subst⁻¹ (λ (d : List ℕ). ¬ Tautology d) o.is (apart_clause_proper (Apart.more (other o.of o.in_list) (Apart.more (λ m i. elim i [ ]) Apart.empty)))
  where
    other : (r : ℕ) → Mem r rs → (m : ℕ) → Mem m (r ∷ []) → net m ≢ net (negate l)
    other r i m k e = (p r i).0 (sym (ap net (Memᴰ.eq_of_singleton k)) ∙ e ∙ net_negate l)
encoding_proper (xor l rs) (a, s, t) c k =
    let h = signed_choice (l ∷ rs) (apart_distinct a) true c k in
    subst⁻¹ (λ (d : List ℕ). ¬ Tautology d) h.makes (apart_clause_proper (apart_inverted h.signs a))
encoding_proper (ite l c t e) (a, b, n) d k = go k
  where
    go : Memᴰ d (encoding (ite l c t e)) → ¬ Tautology d
    go (Memᴰ.head q) = subst⁻¹ (λ (d : List ℕ). ¬ Tautology d) q (side_proper a (negate c) (negate l) t (net_negate c) (net_negate l) refl)
    go (Memᴰ.tail (Memᴰ.head q)) = subst⁻¹ (λ (d : List ℕ). ¬ Tautology d) q (side_proper a (negate c) l (negate t) (net_negate c) refl (net_negate t))
    go (Memᴰ.tail (Memᴰ.tail (Memᴰ.head q))) = subst⁻¹ (λ (d : List ℕ). ¬ Tautology d) q (side_proper b c (negate l) e refl (net_negate l) refl)
    go (Memᴰ.tail (Memᴰ.tail (Memᴰ.tail (Memᴰ.head q)))) = subst⁻¹ (λ (d : List ℕ). ¬ Tautology d) q (side_proper b c l (negate e) refl refl (net_negate e))
    go (Memᴰ.tail (Memᴰ.tail (Memᴰ.tail (Memᴰ.tail m)))) = elim m [ ]

pub encoding_present : {cs : List (List ℕ)} {g : Gate} → HoldsGate cs g → (c : List ℕ) → Memᴰ c (encoding g) → Present cs c
encoding_present {g = g} h c k = h.clauses c (record { found = c; listed = k; proper = encoding_proper g h.proper c k; same = same_refl c })

-- Gates that the rules know

-- all elements are x, or one is another
pub one_or_other : (x : ℕ) (xs : List ℕ) → ((y : ℕ) → Mem y xs → y ≡ x) ⊎ ((y : ℕ) × Mem y xs × (y ≢ x))
one_or_other x [] = inl (λ y k. elim k [ ])
one_or_other x (z ∷ xs) = go (ℕ_discrete z x) (one_or_other x xs)
  where
    both : z ≡ x → ((y : ℕ) → Mem y xs → y ≡ x) → (y : ℕ) → Mem y (z ∷ xs) → y ≡ x
    both e f y (Memᴰ.head q) = q ∙ e
    both e f y (Memᴰ.tail k) = f y k

    go : Dec (z ≡ x) → ((y : ℕ) → Mem y xs → y ≡ x) ⊎ ((y : ℕ) × Mem y xs × (y ≢ x)) → ((y : ℕ) → Mem y (z ∷ xs) → y ≡ x) ⊎ ((y : ℕ) × Mem y (z ∷ xs) × (y ≢ x))
    go (no d) t = inr (z, in_first, d)
    go (yes e) (inl f) = inl (both e f)
    go (yes e) (inr (y, k, d)) = inr (y, Memᴰ.tail k, d)

module _ {cs : List (List ℕ)} {l : ℕ} {rs : List ℕ} (g : HoldsGate cs (and l rs)) where
  -- an AND's inputs are those of its clause
  pub clause_inputs : Inputs (l ∷ map negate rs) l rs
  clause_inputs = record { inward = λ r i. inward r i i.inverse; outward = outward }
    where
      inward : (r : ℕ) → Input (l ∷ map negate rs) l r → Mem (negate r) (l ∷ map negate rs) → Mem r rs
      inward r i (Memᴰ.head e) = absurd (i.other e)
      inward r i (Memᴰ.tail k) = negated_in rs k

      outward : (r : ℕ) → Mem r rs → Input (l ∷ map negate rs) l r
      outward r m = record { inverse = Memᴰ.tail (mem_map negate m); other = λ e. (g.proper r m).0 (sym (net_negate r) ∙ ap net e) }

  pair_present : (r : ℕ) → Mem r rs → Present cs (negate l ∷ r ∷ [])
  pair_present r m = encoding_present g _ (Memᴰ.tail (mem_map (λ (r : ℕ). negate l ∷ r ∷ []) m))

  -- an AND of two different inputs is found,
  pub and_found : Two rs → AndGate cs (l ∷ map negate rs) l
  and_found t =
      record {
        clause = encoding_present g _ in_first;
        output = in_first;
        one = t.one;
        two = t.two;
        one_in = clause_inputs.outward t.one t.one_in;
        two_in = clause_inputs.outward t.two t.two_in;
        differ = t.differ;
        pairs = λ r i. pair_present r (clause_inputs.inward r i);
      }

  -- one of a single input says that output and input are equal,
  pub buffer_found : (G : ℕ → ℕ → Type 0) (r : ℕ) → Mem r rs → ((y : ℕ) → Mem y rs → y ≡ r) → Concludes cs G l r
  buffer_found G r m e = Concludes.equal (present_same (record { left = left; right = right }) (encoding_present g _ in_first)) (pair_present r m)
    where
      left : Within (l ∷ negate r ∷ []) (l ∷ map negate rs)
      left x (Memᴰ.head q) = Memᴰ.head q
      left x (Memᴰ.tail (Memᴰ.head q)) = Memᴰ.tail (Memᴰ.cast q (mem_map negate m))
      left x (Memᴰ.tail (Memᴰ.tail k)) = elim k [ ]

      right : Within (l ∷ map negate rs) (l ∷ negate r ∷ [])
      right x (Memᴰ.head q) = Memᴰ.head q
      right x (Memᴰ.tail k) = let o = mem_of_map negate rs k in Memᴰ.cast (o.is ∙ ap negate (e o.of o.in_list)) in_second

-- a clause of one literal says that it is true: so does one of no input of its output.
pub tied_found : {cs : List (List ℕ)} (G : ℕ → ℕ → Type 0) {k : ℕ} → Present cs (k ∷ []) → Concludes cs G k 1
tied_found G p = Concludes.unit p in_first (λ x k d. absurd (d (Memᴰ.eq_of_singleton k)))

pub xor_found : {cs : List (List ℕ)} {l : ℕ} {rs : List ℕ} → HoldsGate cs (xor l rs) → XorGate cs (l ∷ rs) false
xor_found {cs} {l} {rs} g =
    record {
      three = suc-le-suc g.proper.1;
      five = suc-le-suc g.proper.2;
      apart = g.proper.0;
      all = signed_all cs (l ∷ rs) false (have_all (present cs) (signings (l ∷ rs) true) (λ c k. is_present cs c (encoding_present g c k)));
    }

pub ite_found : {cs : List (List ℕ)} {l c t e : ℕ} → HoldsGate cs (ite l c t e) → IteGate cs l c t e
ite_found g =
    record {
      then_apart = g.proper.0;
      else_apart = g.proper.1;
      not_inverses = g.proper.2;
      then_up = encoding_present g _ in_first;
      then_down = encoding_present g _ in_second;
      else_up = encoding_present g _ in_third;
      else_down = encoding_present g _ (Memᴰ.tail in_third);
    }
