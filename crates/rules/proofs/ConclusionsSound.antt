-- Every computed conclusion is one that the rules draw.
-- Assumes nothing.
use mathlib.Core.Path.{◌≡◌, subst⁻¹}
use mathlib.Core.Logic.{◌⊎◌, inl, inr}
use mathlib.Core.Bool.{Bool, true, not, ◌&&◌, ◌||◌}
use mathlib.Core.List.{List, [], ◌∷◌, ◌++◌, map, Memᴰ}
use Prim.Native.Nat.{ℕ}
use native.Mathlib.Omega.{arith}
use lib.ListN.{length}
use lib.Dec.{eqb}
use borrow.Author.Tests.{eqb-true}
use Rattle.clauses.specs.Code.{negate}
use Rattle.clauses.specs.Clause.{Mem, Present}
use Rattle.clauses.specs.Lists.{any, all, each, also, only, picks}
use Rattle.clauses.specs.Listing.{same_set, present, clause_sets}
use Rattle.clauses.proofs.Lists.{and_both, or_cases, mem_of_map, Witness, any_has, all_have, each_elim, also_cases, only_one}
use Rattle.clauses.proofs.Codes.{negate_negate}
use Rattle.clauses.proofs.Clauses.{same_is, present_is, same_sym, present_same, clause_sets_listed}
use Rattle.clauses.proofs.Picks.{pick_in, in_rest, picks_are}
use Rattle.clauses.specs.Sign.{flip}
use Rattle.gates.specs.Gate.{Input, XorGate}
use Rattle.gates.specs.Listing.{And, ands, xor_clauses, Ite, ites}
use Rattle.gates.proofs.Ands.{IsAnd, and_inputs, ands_are}
use Rattle.gates.proofs.Xors.{xor_front, xor_front_two}
use Rattle.gates.proofs.XorsListed.{xor_clauses_are}
use Rattle.gates.proofs.ItesListed.{IsIte, ites_are}
use Rattle.rules.specs.Rule.{Covers, Concludes}
use Rattle.rules.specs.Compute.{Conclusion, parities, by_clause, by_and, covers, by_ands, by_xor, by_xors, by_ite, by_ites, gates_of, alone_and_paired, conclusions}
use Rattle.rules.proofs.Cancelling.{parities_are}

module _ (j : ℕ → ℕ → Bool) (G : ℕ → ℕ → Type 0) (tests : (a b : ℕ) → j a b ≡ true → G a b) (cs : List (List ℕ)) where
  abbrev Says : Conclusion → Type 0
  Says p = Concludes cs G p.one p.two

  -- a conclusion that a test lets through
  single : (b : Bool) (q p : Conclusion) → (b ≡ true → Says q) → Memᴰ p (only b (q ∷ [])) → Says p
  single b q p h m = let t = only_one b q m in subst⁻¹ Says t.1 (h t.0)

  by-clause : (c : List ℕ) → Memᴰ c (clause_sets cs) → (p : Conclusion) → Memᴰ p (by_clause j cs c) → Says p
  unfolding by_clause
  by-clause c k p m = start (also_cases _ _ m)
    where
      units : List Conclusion
      units = each (picks c) (λ q. only (all (λ y. j y 0) q.1) (record { one = q.0; two = 1 } ∷ []))

      equals : List Conclusion
      equals = each c (λ a. each c (λ b. only (same_set c (a ∷ b ∷ []) && present cs (negate a ∷ negate b ∷ [])) (record { one = a; two = negate b } ∷ [])))

      here : Present cs c
      here = (clause_sets_listed cs c k).0

      no_literal : (d : List ℕ) → length d ≡ 0 → Present cs d → Concludes cs G 1 0
      no_literal [] e h = Concludes.empty_clause h
      no_literal (x ∷ xs) e h = absurd (omega arith)

      unit : (q : ℕ × List ℕ) → Memᴰ q (picks c) → all (λ y. j y 0) q.1 ≡ true → Concludes cs G q.0 1
      unit q i h =
          Concludes.unit here (pick_in (picks_are c q i))
          (λ x z n. tests x 0 (all_have (λ y. j y 0) q.1 h x (in_rest (picks_are c q i) x z n)))

      equal : (a b : ℕ) → (same_set c (a ∷ b ∷ []) && present cs (negate a ∷ negate b ∷ [])) ≡ true → Concludes cs G a (negate b)
      equal a b h =
          let t = and_both (same_set c (a ∷ b ∷ [])) (present cs (negate a ∷ negate b ∷ [])) h in
          Concludes.equal {a = a} {b = negate b} (rw negate_negate (present_same (same_sym (same_is c (a ∷ b ∷ []) t.0)) here)) (present_is cs (negate a ∷ negate b ∷ []) t.1)

      rest : Memᴰ p units ⊎ Memᴰ p equals → Says p
      rest (inl q) = each_elim (picks c) _ q (λ x i n. single _ (record { one = x.0; two = 1 }) p (unit x i) n)
      rest (inr q) = each_elim c _ q (λ a i n. each_elim c _ n (λ b l o. single _ (record { one = a; two = negate b }) p (equal a b) o))

      start : Memᴰ p (only (eqb (length c) 0) (record { one = 1; two = 0 } ∷ [])) ⊎ Memᴰ p (also units equals) → Says p
      start (inl q) = single (eqb (length c) 0) (record { one = 1; two = 0 }) p (λ e. no_literal c (eqb-true (length c) 0 e) here) q
      start (inr q) = rest (also_cases units equals q)

  by-and : (g : And) → IsAnd cs g → (p : Conclusion) → Memᴰ p (by_and j g) → Says p
  unfolding by_and
  by-and g h p m = start (also_cases _ _ m)
    where
      to_false : any (λ r. j r 0 || any (λ s. j r (negate s)) g.inputs) g.inputs ≡ true → Concludes cs G g.l 0
      to_false e = go (any_has (λ r. j r 0 || any (λ s. j r (negate s)) g.inputs) g.inputs e)
        where
          go : Witness (λ r. j r 0 || any (λ s. j r (negate s)) g.inputs) g.inputs → Concludes cs G g.l 0
          go w = pick (or_cases (j w.it 0) (any (λ s. j w.it (negate s)) g.inputs) w.passes)
            where
              pick : (j w.it 0 ≡ true) ⊎ (any (λ s. j w.it (negate s)) g.inputs ≡ true) → Concludes cs G g.l 0
              pick (inl q) = Concludes.and_false h.gate ((and_inputs h).outward w.it w.listed) (tests w.it 0 q)
              pick (inr q) =
                  let u = any_has (λ s. j w.it (negate s)) g.inputs q in
                  Concludes.and_inverses h.gate ((and_inputs h).outward w.it w.listed) ((and_inputs h).outward u.it u.listed) (tests w.it (negate u.it) u.passes)

      to_input : (r : ℕ) → Mem r g.inputs → all (λ s. j s 1 || j s r) g.inputs ≡ true → Concludes cs G g.l r
      to_input r i e =
          Concludes.and_input h.gate ((and_inputs h).outward r i)
          (λ s k. go s (or_cases (j s 1) (j s r) (all_have (λ s. j s 1 || j s r) g.inputs e s ((and_inputs h).inward s k))))
        where
          go : (s : ℕ) → (j s 1 ≡ true) ⊎ (j s r ≡ true) → G s 1 ⊎ G s r
          go s (inl q) = inl (tests s 1 q)
          go s (inr q) = inr (tests s r q)

      start : Memᴰ p (only (any (λ r. j r 0 || any (λ s. j r (negate s)) g.inputs) g.inputs) (record { one = g.l; two = 0 } ∷ []))
          ⊎ Memᴰ p (each g.inputs (λ r. only (all (λ s. j s 1 || j s r) g.inputs) (record { one = g.l; two = r } ∷ []))) → Says p
      start (inl q) = single _ (record { one = g.l; two = 0 }) p to_false q
      start (inr q) = each_elim g.inputs _ q (λ r i n. single _ (record { one = g.l; two = r }) p (to_input r i) n)

  covers_is : (g h : And) (a : IsAnd cs g) (b : IsAnd cs h) → covers j g h ≡ true → Covers G a.clause g.l b.clause h.l
  unfolding covers
  covers_is g h a b e r i = go (or_cases (j r 1) (any (λ s. j r s) h.inputs) (all_have (λ r. j r 1 || any (λ s. j r s) h.inputs) g.inputs e r ((and_inputs a).inward r i)))
    where
      go : (j r 1 ≡ true) ⊎ (any (λ s. j r s) h.inputs ≡ true) → G r 1 ⊎ ((s : ℕ) × Input b.clause h.l s × G r s)
      go (inl q) = inl (tests r 1 q)
      go (inr q) = let w = any_has (λ s. j r s) h.inputs q in inr (w.it, (and_inputs b).outward w.it w.listed, tests r w.it w.passes)

  by-ands : (g h : And) → IsAnd cs g → IsAnd cs h → (p : Conclusion) → Memᴰ p (by_ands j g h) → Says p
  unfolding by_ands
  by-ands g h a b p m =
      single (covers j g h && covers j h g) (record { one = g.l; two = h.l }) p
      (λ e. let t = and_both (covers j g h) (covers j h g) e in Concludes.and_and a.gate b.gate (covers_is g h a b t.0) (covers_is h g b a t.1)) m

  by-xor : (c : List ℕ) → XorGate cs c true → (p : Conclusion) → Memᴰ p (by_xor j c) → Says p
  unfolding by_xor
  by-xor c g p m = each_elim (picks c) _ m (λ k i n. start k i (also_cases _ _ n))
    where
      start : (k : ℕ × List ℕ) → Memᴰ k (picks c)
          → Memᴰ p (map (λ b. record { one = k.0; two = flip (not b) 0 }) (parities j 5 k.1))
          ⊎ Memᴰ p (each (picks k.1) (λ l. map (λ b. record { one = k.0; two = flip (not b) l.0 }) (parities j 5 l.1))) → Says p
      start k i (inl n) =
          let o = mem_of_map (λ (b : Bool). record { one = k.0; two = flip (not b) 0 }) (parities j 5 k.1) n in
          subst⁻¹ Says o.is (Concludes.xor_constant (xor_front g (picks_are c k i)) (parities_are j G tests 5 k.1 o.of o.in_list))
      start k i (inr n) =
          each_elim (picks k.1) _ n (λ l u q.
          let o = mem_of_map (λ (b : Bool). record { one = k.0; two = flip (not b) l.0 }) (parities j 5 l.1) q in
          subst⁻¹ Says o.is (Concludes.xor_literals (xor_front_two g (picks_are c k i) (picks_are k.1 l u)) (parities_are j G tests 5 l.1 o.of o.in_list)))

  by-xors : (c d : List ℕ) → XorGate cs c true → XorGate cs d true → (p : Conclusion) → Memᴰ p (by_xors j c d) → Says p
  unfolding by_xors
  by-xors c d g h p m =
      each_elim (picks c) _ m (λ k i n. each_elim (picks d) _ n (λ l u q.
      let o = mem_of_map (λ (b : Bool). record { one = k.0; two = flip b l.0 }) (parities j 8 (k.1 ++ l.1)) q in
      subst⁻¹ Says o.is
      (Concludes.xor_xor (xor_front g (picks_are c k i)) (xor_front h (picks_are d l u)) (parities_are j G tests 8 (k.1 ++ l.1) o.of o.in_list))))

  by-ite : (g : Ite) → IsIte cs g → (p : Conclusion) → Memᴰ p (by_ite j g) → Says p
  unfolding by_ite
  by-ite g h p m = start (also_cases _ _ m)
    where
      to_t : (j g.c 1 ≡ true) ⊎ (j g.t g.e ≡ true) → Concludes cs G g.l g.t
      to_t (inl e) = Concludes.ite_then h (tests g.c 1 e)
      to_t (inr e) = Concludes.ite_same h (tests g.t g.e e)

      start : Memᴰ p (only (j g.c 1 || j g.t g.e) (record { one = g.l; two = g.t } ∷ []))
          ⊎ Memᴰ p (only (j g.c 0) (record { one = g.l; two = g.e } ∷ [])) → Says p
      start (inl q) = single _ (record { one = g.l; two = g.t }) p (λ e. to_t (or_cases (j g.c 1) (j g.t g.e) e)) q
      start (inr q) = single _ (record { one = g.l; two = g.e }) p (λ e. Concludes.ite_else h (tests g.c 0 e)) q

  by-ites : (g h : Ite) → IsIte cs g → IsIte cs h → (p : Conclusion) → Memᴰ p (by_ites j g h) → Says p
  unfolding by_ites
  by-ites g h a b p m =
      single (j g.c h.c && (j g.t h.t && j g.e h.e)) (record { one = g.l; two = h.l }) p
      (λ e.
      let t = and_both (j g.c h.c) (j g.t h.t && j g.e h.e) e in
      let u = and_both (j g.t h.t) (j g.e h.e) t.1 in
      Concludes.ite_ite a b (tests g.c h.c t.0) (tests g.t h.t u.0) (tests g.e h.e u.1)) m

  -- what a kind of gate says, alone and in pairs
  by_kind : {A : Type 0} (l : List A) (P : A → Type 0) (f : A → List Conclusion) (f₂ : A → A → List Conclusion) → ((x : A) → Memᴰ x l → P x)
      → ((x : A) → P x → (p : Conclusion) → Memᴰ p (f x) → Says p) → ((x y : A) → P x → P y → (p : Conclusion) → Memᴰ p (f₂ x y) → Says p)
      → (p : Conclusion) → Memᴰ p (alone_and_paired l f f₂) → Says p
  unfolding alone_and_paired
  by_kind {A} l P f f₂ is h k p m = each_elim l _ m (λ x i n. go x i (also_cases _ _ n))
    where
      go : (x : A) → Memᴰ x l → Memᴰ p (f x) ⊎ Memᴰ p (each l (f₂ x)) → Says p
      go x i (inl n) = h x (is x i) p n
      go x i (inr n) = each_elim l _ n (λ y o q. k x y (is x i) (is y o) p q)

  pub conclusions_sound : (v : ℕ) (p : Conclusion) → Memᴰ p (conclusions cs (gates_of v cs) j) → Concludes cs G p.one p.two
  unfolding conclusions gates_of
  conclusions_sound v p m = first_part (also_cases _ _ m)
    where
      by_all_ands : List Conclusion
      by_all_ands = alone_and_paired (ands cs) (by_and j) (by_ands j)

      by_all_xors : List Conclusion
      by_all_xors = alone_and_paired (xor_clauses cs) (by_xor j) (by_xors j)

      by_all_ites : List Conclusion
      by_all_ites = alone_and_paired (ites v cs) (by_ite j) (by_ites j)

      third_part : Memᴰ p by_all_xors ⊎ Memᴰ p by_all_ites → Says p
      third_part (inl q) = by_kind (xor_clauses cs) (λ c. XorGate cs c true) (by_xor j) (by_xors j) (xor_clauses_are cs) by-xor by-xors p q
      third_part (inr q) = by_kind (ites v cs) (IsIte cs) (by_ite j) (by_ites j) (ites_are v cs) by-ite by-ites p q

      second_part : Memᴰ p by_all_ands ⊎ Memᴰ p (also by_all_xors by_all_ites) → Says p
      second_part (inl q) = by_kind (ands cs) (IsAnd cs) (by_and j) (by_ands j) (ands_are cs) by-and by-ands p q
      second_part (inr q) = third_part (also_cases by_all_xors by_all_ites q)

      first_part : Memᴰ p (each (clause_sets cs) (by_clause j cs)) ⊎ Memᴰ p (also by_all_ands (also by_all_xors by_all_ites)) → Says p
      first_part (inl q) = each_elim (clause_sets cs) _ q (λ c i n. by-clause c i p n)
      first_part (inr q) = second_part (also_cases by_all_ands (also by_all_xors by_all_ites) q)
