-- What joins every computed conclusion joins every conclusion of the rules.
-- Assumes nothing.
use mathlib.Core.Path.{◌≡◌, refl, sym, ◌∙◌, ap, ap₂, subst, subst⁻¹}
use mathlib.Core.Logic.{◌≢◌, ◌⊎◌, inl, inr}
use mathlib.Core.Bool.{Bool, true, false, not, ◌||◌}
use mathlib.Core.List.{List, [], ◌∷◌, ◌++◌, Memᴰ}
use Prim.Native.Nat.{ℕ, suc, ◌+◌, ◌≤◌}
use native.Mathlib.Omega.{arith}
use lib.ListN.{length, length-append}
use borrow.Author.Tests.{eq-eqb}
use Rattle.clauses.specs.Code.{negate}
use Rattle.clauses.specs.Clause.{Mem, Same, Present}
use Rattle.clauses.specs.Lists.{any, all}
use Rattle.clauses.specs.Listing.{clause_sets, Fits}
use Rattle.clauses.proofs.Lists.{both_and, or_left, or_right, in_first, in_second, mem_map, has_any, have_all, has_each, also_left, also_right, has_only}
use Rattle.clauses.proofs.Distinct.{Distinct}
use Rattle.clauses.proofs.Codes.{negate_negate}
use Rattle.clauses.proofs.Clauses.{is_same, is_present, same_sym, Kept, clause_sets_listed, clause_sets_kept}
use Rattle.clauses.proofs.Picks.{Picked, picked, pick_rest, rest_other, are_picks, Perm, perm_length}
use Rattle.clauses.specs.Sign.{plus, flip, parity}
use Rattle.gates.specs.Gate.{Input, XorGate, IteGate}
use Rattle.gates.specs.Listing.{ands, xor_clauses, ites}
use Rattle.clauses.proofs.Signs.{flip_flip, flip_plus, parity_append, perm_parity}
use Rattle.gates.proofs.Ands.{AndEntry, and_entry}
use Rattle.gates.proofs.Xors.{xor_upright}
use Rattle.gates.proofs.XorsListed.{XorEntry, xor_entry}
use Rattle.gates.proofs.ItesListed.{ite_entry}
use Rattle.rules.specs.Rule.{Cancels, Covers, Concludes}
use Rattle.rules.specs.Compute.{Conclusion, by_clause, by_and, covers, by_ands, by_xor, by_xors, by_ite, by_ites, gates_of, alone_and_paired, conclusions}
use Rattle.rules.proofs.Leads.{Canonical, Represents, lead_flip}
use Rattle.rules.proofs.Cancelling.{cancels_same, are_parities}

signs_one : (o p : Bool) → plus (plus (not o) (not p)) false ≡ plus o p
signs_one false false = refl
signs_one false true = refl
signs_one true false = refl
signs_one true true = refl

signs_two : (o q p : Bool) → plus (plus (not o) p) (not q) ≡ plus (plus o q) p
signs_two false false false = refl
signs_two false false true = refl
signs_two false true false = refl
signs_two false true true = refl
signs_two true false false = refl
signs_two true false true = refl
signs_two true true false = refl
signs_two true true true = refl

alone : {A : Type 0} (l : List A) (f : A → List Conclusion) (g : A → A → List Conclusion) {x : A} {p : Conclusion}
    → Memᴰ x l → Memᴰ p (f x) → Memᴰ p (alone_and_paired l f g)
unfolding alone_and_paired
alone l f g k m = has_each _ k (also_left _ m)

paired : {A : Type 0} (l : List A) (f : A → List Conclusion) (g : A → A → List Conclusion) {x y : A} {p : Conclusion}
    → Memᴰ x l → Memᴰ y l → Memᴰ p (g x y) → Memᴰ p (alone_and_paired l f g)
unfolding alone_and_paired
paired l f g k i m = has_each _ k (also_right _ (has_each _ i m))

module _ (j : ℕ → ℕ → Bool) (G : ℕ → ℕ → Type 0) (tested : (a b : ℕ) → G a b → j a b ≡ true) (f : ℕ → ℕ) (rep : Represents f G)
    (cs : List (List ℕ)) (v : ℕ) (fit : Fits v cs)
    (h : ℕ → ℕ) (can : Canonical h) (told : (p : Conclusion) → Memᴰ p (conclusions cs (gates_of v cs) j) → h p.one ≡ h p.two) where
  by-clause : (c : List ℕ) → Memᴰ c (clause_sets cs) → (p : Conclusion) → Memᴰ p (by_clause j cs c) → h p.one ≡ h p.two
  unfolding conclusions gates_of
  by-clause c k p m = told p (also_left _ (has_each (by_clause j cs) k m))

  ands_part : (p : Conclusion) → Memᴰ p (alone_and_paired (ands cs) (by_and j) (by_ands j)) → h p.one ≡ h p.two
  unfolding conclusions gates_of
  ands_part p m = told p (also_right _ (also_left _ m))

  xors_part : (p : Conclusion) → Memᴰ p (alone_and_paired (xor_clauses cs) (by_xor j) (by_xors j)) → h p.one ≡ h p.two
  unfolding conclusions gates_of
  xors_part p m = told p (also_right _ (also_right _ (also_left _ m)))

  ites_part : (p : Conclusion) → Memᴰ p (alone_and_paired (ites v cs) (by_ite j) (by_ites j)) → h p.one ≡ h p.two
  unfolding conclusions gates_of
  ites_part p m = told p (also_right _ (also_right _ (also_right _ m)))

  unit : (c : List ℕ) (k : ℕ) → Present cs c → Mem k c → ((x : ℕ) → Mem x c → x ≢ k → G x 0) → h k ≡ h 1
  unfolding by_clause
  unit c k pr m o =
      by-clause t.it t.listed (record { one = k; two = 1 })
      (also_right _ (also_left _ (has_each _ (are_picks p.pick) (has_only all_false in_first))))
    where
      t : Kept cs c
      t = clause_sets_kept pr

      p : Picked k t.it
      p = picked t.it (t.same.left k m)

      distinct : Distinct t.it
      distinct = (clause_sets_listed cs t.it t.listed).1

      all_false : all (λ y. j y 0) p.rest ≡ true
      all_false = have_all (λ y. j y 0) p.rest (λ x i. tested x 0 (o x (t.same.right x (pick_rest p.pick x i)) (rest_other p.pick distinct x i)))

  empty_clause : Present cs [] → h 1 ≡ h 0
  unfolding by_clause
  empty_clause pr = by-clause t.it t.listed (record { one = 1; two = 0 }) (also_left _ (has_only (eq-eqb (length t.it) 0 (bare t.it t.same)) in_first))
    where
      t : Kept cs []
      t = clause_sets_kept pr

      bare : (d : List ℕ) → Same [] d → length d ≡ 0
      bare [] s = refl
      bare (x ∷ xs) s = elim (s.right x in_first) [ ]

  equal : (a b : ℕ) → Present cs (a ∷ negate b ∷ []) → Present cs (negate a ∷ b ∷ []) → h a ≡ h b
  unfolding by_clause
  equal a b pr ps =
      subst (λ (x : ℕ). h a ≡ h x) (negate_negate b)
      (by-clause t.it t.listed (record { one = a; two = negate (negate b) })
      (also_right _ (also_right _
      (has_each _ (t.same.left a in_first)
      (has_each _ (t.same.left (negate b) in_second)
      (has_only
      (both_and (is_same t.it (a ∷ negate b ∷ []) (same_sym t.same))
      (is_present cs (negate a ∷ negate (negate b) ∷ []) (subst⁻¹ (λ (x : ℕ). Present cs (negate a ∷ x ∷ [])) (negate_negate b) ps)))
      in_first))))))
    where
      t : Kept cs (a ∷ negate b ∷ [])
      t = clause_sets_kept pr

  and_zero : (c : List ℕ) (l r : ℕ) (e : AndEntry cs c l) → Input c l r → (j r 0 || any (λ s. j r (negate s)) e.inputs) ≡ true → h l ≡ h 0
  unfolding by_and
  and_zero c l r e i q =
      ands_part (record { one = l; two = 0 })
      (alone (ands cs) (by_and j) (by_ands j) e.listed
      (also_left _ (has_only (has_any (λ r. j r 0 || any (λ s. j r (negate s)) e.inputs) e.inputs (e.ins.inward r i) q) in_first)))

  and_one : (c : List ℕ) (l r : ℕ) → AndEntry cs c l → Input c l r → ((s : ℕ) → Input c l s → G s 1 ⊎ G s r) → h l ≡ h r
  unfolding by_and
  and_one c l r e i q =
      ands_part (record { one = l; two = r })
      (alone (ands cs) (by_and j) (by_ands j) e.listed
      (also_right _ (has_each _ (e.ins.inward r i) (has_only (have_all (λ s. j s 1 || j s r) e.inputs (λ s k. go s (q s (e.ins.outward s k)))) in_first))))
    where
      go : (s : ℕ) → G s 1 ⊎ G s r → (j s 1 || j s r) ≡ true
      go s (inl x) = or_left (j s r) (tested s 1 x)
      go s (inr x) = or_right (j s 1) (tested s r x)

  covered : (c d : List ℕ) (l m : ℕ) (e : AndEntry cs c l) (o : AndEntry cs d m) → Covers G c l d m
      → covers j (record { l = l; inputs = e.inputs }) (record { l = m; inputs = o.inputs }) ≡ true
  unfolding covers
  covered c d l m e o q = have_all (λ r. j r 1 || any (λ s. j r s) o.inputs) e.inputs (λ r k. go r (q r (e.ins.outward r k)))
    where
      go : (r : ℕ) → G r 1 ⊎ ((s : ℕ) × Input d m s × G r s) → (j r 1 || any (λ s. j r s) o.inputs) ≡ true
      go r (inl x) = or_left (any (λ s. j r s) o.inputs) (tested r 1 x)
      go r (inr (s, i, x)) = or_right (j r 1) (has_any (λ s. j r s) o.inputs (o.ins.inward s i) (tested r s x))

  and_two : (c d : List ℕ) (l m : ℕ) → AndEntry cs c l → AndEntry cs d m → Covers G c l d m → Covers G d m c l → h l ≡ h m
  unfolding by_ands
  and_two c d l m e o x y =
      ands_part (record { one = l; two = m })
      (paired (ands cs) (by_and j) (by_ands j) e.listed o.listed (has_only (both_and (covered c d l m e o x) (covered d c m l o e y)) in_first))

  perm_cancels : {xs ys : List ℕ} {p : Bool} → Perm xs ys → Cancels G xs p → Cancels G ys p
  perm_cancels {xs} {ys} q c = cancels_same f G rep xs ys (λ g. perm_parity g q) c

  -- XORs whose sum is odd

  odd_constant : (k : ℕ) (ks : List ℕ) (p : Bool) → XorGate cs (k ∷ ks) true → Cancels G ks p → h k ≡ h (flip (not p) 0)
  unfolding by_xor
  odd_constant k ks p g c = go e.perm
    where
      e : XorEntry cs (k ∷ ks)
      e = xor_entry g

      go : Perm (k ∷ ks) e.it → h k ≡ h (flip (not p) 0)
      go (Perm.one pick perm) =
          xors_part (record { one = k; two = flip (not p) 0 })
          (alone (xor_clauses cs) (by_xor j) (by_xors j) e.listed
          (has_each _ (are_picks pick)
          (also_left _ (mem_map (λ (b : Bool). record { one = k; two = flip (not b) 0 }) (are_parities j G tested 5 (perm_cancels perm c) (short (perm_length perm) g.five))))))
        where
          short : {a b : ℕ} → a ≡ b → suc a ≤ 5 → b ≤ 5
          short u w = omega arith

  odd_literals : (k m : ℕ) (ks : List ℕ) (p : Bool) → XorGate cs (k ∷ m ∷ ks) true → Cancels G ks p → h k ≡ h (flip (not p) m)
  unfolding by_xor
  odd_literals k m ks p g c = go e.perm
    where
      e : XorEntry cs (k ∷ m ∷ ks)
      e = xor_entry g

      go : Perm (k ∷ m ∷ ks) e.it → h k ≡ h (flip (not p) m)
      go (Perm.one pick (Perm.one pick₂ perm)) =
          xors_part (record { one = k; two = flip (not p) m })
          (alone (xor_clauses cs) (by_xor j) (by_xors j) e.listed
          (has_each _ (are_picks pick)
          (also_right _ (has_each _ (are_picks pick₂)
          (mem_map (λ (b : Bool). record { one = k; two = flip (not b) m }) (are_parities j G tested 5 (perm_cancels perm c) (short (perm_length perm) g.five)))))))
        where
          short : {a b : ℕ} → a ≡ b → suc (suc a) ≤ 5 → b ≤ 5
          short u w = omega arith

  odd_both : (k m : ℕ) (ks ms : List ℕ) (p : Bool) → XorGate cs (k ∷ ks) true → XorGate cs (m ∷ ms) true → Cancels G (ks ++ ms) p → h k ≡ h (flip p m)
  unfolding by_xors
  odd_both k m ks ms p g i c = go e.perm o.perm
    where
      e : XorEntry cs (k ∷ ks)
      e = xor_entry g

      o : XorEntry cs (m ∷ ms)
      o = xor_entry i

      go : Perm (k ∷ ks) e.it → Perm (m ∷ ms) o.it → h k ≡ h (flip p m)
      go (Perm.one {zs = xs} pick perm) (Perm.one {zs = ys} pick₂ perm₂) =
          xors_part (record { one = k; two = flip p m })
          (paired (xor_clauses cs) (by_xor j) (by_xors j) e.listed o.listed
          (has_each _ (are_picks pick)
          (has_each _ (are_picks pick₂)
          (mem_map (λ (b : Bool). record { one = k; two = flip b m }) (are_parities j G tested 8 (cancels_same f G rep (ks ++ ms) (xs ++ ys) sums c) short)))))
        where
          sums : (b : ℕ → Bool) → parity b (ks ++ ms) ≡ parity b (xs ++ ys)
          sums b = parity_append b ks ms ∙ ap₂ plus (perm_parity b perm) (perm_parity b perm₂) ∙ sym (parity_append b xs ys)

          short : length (xs ++ ys) ≤ 8
          short = fits8 (length-append xs ys) (perm_length perm) (perm_length perm₂) g.five i.five
            where
              fits8 : {n a b d u : ℕ} → n ≡ a + b → d ≡ a → u ≡ b → suc d ≤ 5 → suc u ≤ 5 → n ≤ 8
              fits8 w x y z q = omega arith

  h_flip : (b : Bool) (c : ℕ) → h (flip b c) ≡ flip b (h c)
  h_flip = lead_flip h can

  -- from a gate with its first literals inverted where the sum is even
  turned : (o q : Bool) (k m : ℕ) (b : Bool) → h (flip o k) ≡ h (flip b (flip q m)) → h k ≡ h (flip (plus (plus o b) q) m)
  turned o q k m b e =
      sym (flip_flip o (h k)) ∙ ap (flip o) (sym (h_flip o k) ∙ e) ∙ sym (h_flip o (flip b (flip q m)))
      ∙ ap h (flip_plus o b (flip q m) ∙ flip_plus (plus o b) q m)

  ite_to_t : (l c t e : ℕ) → IteGate cs l c t e → (j c 1 || j t e) ≡ true → h l ≡ h t
  unfolding by_ite
  ite_to_t l c t e g q = ites_part (record { one = l; two = t }) (alone (ites v cs) (by_ite j) (by_ites j) (ite_entry fit g) (also_left _ (has_only q in_first)))

  ite_to_e : (l c t e : ℕ) → IteGate cs l c t e → j c 0 ≡ true → h l ≡ h e
  unfolding by_ite
  ite_to_e l c t e g q = ites_part (record { one = l; two = e }) (alone (ites v cs) (by_ite j) (by_ites j) (ite_entry fit g) (also_right _ (has_only q in_first)))

  ite_both : (l c t e m d u w : ℕ) → IteGate cs l c t e → IteGate cs m d u w → G c d → G t u → G e w → h l ≡ h m
  unfolding by_ites
  ite_both l c t e m d u w g i x y z =
      ites_part (record { one = l; two = m })
      (paired (ites v cs) (by_ite j) (by_ites j) (ite_entry fit g) (ite_entry fit i) (has_only (both_and (tested c d x) (both_and (tested t u y) (tested e w z))) in_first))

  pub conclusions_complete : {a b : ℕ} → Concludes cs G a b → h a ≡ h b
  conclusions_complete (Concludes.unit {c = c} {k = k} pr m o) = unit c k pr m o
  conclusions_complete (Concludes.empty_clause pr) = empty_clause pr
  conclusions_complete (Concludes.equal {a = a} {b = b} pr ps) = equal a b pr ps
  conclusions_complete (Concludes.and_false {c = c} {l = l} {r = r} g i x) =
      let e = and_entry g in and_zero c l r e i (or_left (any (λ s. j r (negate s)) e.inputs) (tested r 0 x))
  conclusions_complete (Concludes.and_inverses {c = c} {l = l} {r = r} {s = s} g i k x) =
      let e = and_entry g in
      and_zero c l r e i (or_right (j r 0) (has_any (λ s. j r (negate s)) e.inputs (e.ins.inward s k) (tested r (negate s) x)))
  conclusions_complete (Concludes.and_input {c = c} {l = l} {r = r} g i q) = and_one c l r (and_entry g) i q
  conclusions_complete (Concludes.and_and {c = c} {d = d} {l = l} {m = m} g i x y) = and_two c d l m (and_entry g) (and_entry i) x y
  conclusions_complete (Concludes.xor_constant {k = k} {ks = ks} {odd = odd} {p = p} g c) =
      turned (not odd) false k 0 (not p) (odd_constant (flip (not odd) k) ks p (xor_upright odd g) c) ∙ ap (λ (s : Bool). h (flip s 0)) (signs_one odd p)
  conclusions_complete (Concludes.xor_literals {k = k} {m = m} {ks = ks} {odd = odd} {p = p} g c) =
      turned (not odd) false k m (not p) (odd_literals (flip (not odd) k) m ks p (xor_upright odd g) c) ∙ ap (λ (s : Bool). h (flip s m)) (signs_one odd p)
  conclusions_complete (Concludes.xor_xor {k = k} {m = m} {ks = ks} {ms = ms} {odd = o} {odd' = q} {p = p} g i c) =
      turned (not o) (not q) k m p (odd_both (flip (not o) k) (flip (not q) m) ks ms p (xor_upright o g) (xor_upright q i) c) ∙ ap (λ (s : Bool). h (flip s m)) (signs_two o q p)
  conclusions_complete (Concludes.ite_then {l = l} {c = c} {t = t} {e = e} g x) = ite_to_t l c t e g (or_left (j t e) (tested c 1 x))
  conclusions_complete (Concludes.ite_else {l = l} {c = c} {t = t} {e = e} g x) = ite_to_e l c t e g (tested c 0 x)
  conclusions_complete (Concludes.ite_same {l = l} {c = c} {t = t} {e = e} g x) = ite_to_t l c t e g (or_right (j c 1) (tested t e x))
  conclusions_complete (Concludes.ite_ite {l = l} {c = c} {t = t} {e = e} {m = m} {d = d} {u = u} {f = w} g i x y z) = ite_both l c t e m d u w g i x y z
