-- What the clauses of a gate say: its output has the value that the gate gives it.
-- Assumes nothing.
use mathlib.Core.Path.{◌≡◌, refl, sym, ◌∙◌, ap, subst⁻¹}
use mathlib.Core.Logic.{◌⊎◌, inl, inr, ◌↔◌}
use mathlib.Core.Bool.{Bool, true, false, not, cond, true≢false, false≢true, not-not}
use mathlib.Core.List.Memᴰ
use mathlib.Core.List.{List, [], ◌∷◌, map, Memᴰ}
use Prim.Native.Nat.{ℕ}
use Rattle.clauses.specs.Code.{negate}
use Rattle.clauses.specs.Clause.{Mem}
use Rattle.clauses.specs.Lists.{all}
use Rattle.clauses.proofs.Lists.{in_first, in_second, in_third, mem_map, mem_of_map, all_have, have_all}
use Rattle.clauses.specs.Sign.{plus, parity}
use Rattle.gates.specs.Listing.{signings}
use Rattle.clauses.proofs.Signs.{plus_self}
use Rattle.clauses.specs.Assignment.{Assignment, True, Satisfies}
use Rattle.rules.specs.Design.{Gate, and, xor, ite, output, computes, encoding}

-- an element that fails the test
all_fails : (f : ℕ → Bool) (l : List ℕ) → all f l ≡ false → (x : ℕ) × Mem x l × (f x ≡ false)
unfolding all
all_fails f [] h = absurd (true≢false h)
all_fails f (x ∷ xs) h = go (f x) refl (all_fails f xs)
  where
    go : (b : Bool) → f x ≡ b → (all f xs ≡ false → (y : ℕ) × Mem y xs × (f y ≡ false)) → (y : ℕ) × Mem y (x ∷ xs) × (f y ≡ false)
    go false e ih = (x, in_first, e)
    go true e ih = let t = ih (rw (e, all) at h) in (t.0, Memᴰ.tail t.1, t.2)

-- two bits whose sum is even are equal
summand : (a b : Bool) → plus a b ≡ false → a ≡ b
summand false b h = sym h
summand true b h = ap not (sym h) ∙ not-not b

module _ (value : ℕ → Bool) (asg : Assignment value) where
  first_true : {x : ℕ} (c : List ℕ) → value x ≡ true → True value (x ∷ c)
  first_true {x} c h = record { lit = x; listed = in_first; holds = h }

  more_true : {x : ℕ} {c : List ℕ} → True value c → True value (x ∷ c)
  more_true t = record { lit = t.lit; listed = Memᴰ.tail t.listed; holds = t.holds }

  -- a clause whose first literal is false is true by the others
  pub rest_true : {x : ℕ} {c : List ℕ} → True value (x ∷ c) → value x ≡ false → True value c
  rest_true {x} {c} t h = go t.listed
    where
      go : Mem t.lit (x ∷ c) → True value c
      go (Memᴰ.head e) = absurd (true≢false (sym t.holds ∙ ap value e ∙ h))
      go (Memᴰ.tail k) = record { lit = t.lit; listed = k; holds = t.holds }

  pub only_true : {x : ℕ} → True value (x ∷ []) → value x ≡ true
  only_true {x} t = go (value x) refl
    where
      go : (b : Bool) → value x ≡ b → value x ≡ true
      go true e = e
      go false e = elim (rest_true t e).listed [ ]

  pub inverse_is : {x : ℕ} {b : Bool} → value x ≡ b → value (negate x) ≡ not b
  inverse_is {x} e = asg.inverse x ∙ ap not e

  -- two literals are equal by two clauses
  pub equal_says : (x y : ℕ) → True value (negate x ∷ y ∷ []) → True value (x ∷ negate y ∷ []) → value x ≡ value y
  equal_says x y t u = go (value x) refl
    where
      go : (b : Bool) → value x ≡ b → value x ≡ value y
      go true e = e ∙ sym (only_true (rest_true t (inverse_is e)))
      go false e = e ∙ sym (sym (not-not (value y)) ∙ ap not (sym (asg.inverse y) ∙ only_true (rest_true u e)))

  says_equal : (x y : ℕ) → value x ≡ value y → True value (negate x ∷ y ∷ []) × True value (x ∷ negate y ∷ [])
  says_equal x y h = go (value x) refl
    where
      go : (b : Bool) → value x ≡ b → True value (negate x ∷ y ∷ []) × True value (x ∷ negate y ∷ [])
      go true e = (more_true (first_true [] (sym h ∙ e)), first_true _ e)
      go false e = (first_true _ (inverse_is e), more_true (first_true [] (inverse_is (sym h ∙ e))))

  and_says : (l : ℕ) (rs : List ℕ) → Satisfies value (encoding (and l rs)) → value l ≡ all value rs
  and_says l rs sat = go (value l) (all value rs) refl refl
    where
      go : (a b : Bool) → value l ≡ a → all value rs ≡ b → value l ≡ all value rs
      go true true p q = p ∙ sym q
      go false false p q = p ∙ sym q
      go true false p q =
          absurd (true≢false (sym (have_all value rs (λ r m. only_true (rest_true (sat _ (Memᴰ.tail (mem_map (λ (r : ℕ). negate l ∷ r ∷ []) m))) (inverse_is p)))) ∙ q))
      go false true p q =
          let t = rest_true (sat _ in_first) p in
          let o = mem_of_map negate rs t.listed in
          absurd (true≢false (sym t.holds ∙ ap value o.is ∙ inverse_is (all_have value rs q o.of o.in_list)))

  says_and : (l : ℕ) (rs : List ℕ) → value l ≡ all value rs → Satisfies value (encoding (and l rs))
  says_and l rs h c (Memᴰ.head e) = subst⁻¹ (True value) e (go (value l) refl)
    where
      go : (b : Bool) → value l ≡ b → True value (l ∷ map negate rs)
      go true p = first_true _ p
      go false p = let t = all_fails value rs (sym h ∙ p) in record { lit = negate t.0; listed = Memᴰ.tail (mem_map negate t.1); holds = inverse_is t.2 }
  says_and l rs h c (Memᴰ.tail k) = let o = mem_of_map (λ (r : ℕ). negate l ∷ r ∷ []) rs k in subst⁻¹ (True value) o.is (go o.of o.in_list (value l) refl)
    where
      go : (r : ℕ) → Mem r rs → (b : Bool) → value l ≡ b → True value (negate l ∷ r ∷ [])
      go r m true p = more_true (first_true [] (all_have value rs (sym h ∙ p) r m))
      go r m false p = first_true _ (inverse_is p)

  pub xor_says : (ls : List ℕ) (b : Bool) → Satisfies value (signings ls b) → parity value ls ≡ not b
  unfolding signings
  xor_says [] false sat = elim (sat [] in_first).listed [ ]
  xor_says [] true sat = refl
  xor_says (l ∷ ls) b sat = go (value l) refl (xor_says ls)
    where
      go : (v : Bool) → value l ≡ v → ((d : Bool) → Satisfies value (signings ls d) → parity value ls ≡ not d) → plus (value l) (parity value ls) ≡ not b
      go false e ih = rw e (ih b (λ d m. rest_true (sat (l ∷ d) (Memᴰ.append_left (map (λ (d : List ℕ). negate l ∷ d) (signings ls (not b))) (mem_map (λ (d : List ℕ). l ∷ d) m))) e))
      go true e ih = rw e (ap not (ih (not b) (λ d m. rest_true (sat (negate l ∷ d) (Memᴰ.append_right (map (λ (d : List ℕ). l ∷ d) (signings ls b)) (mem_map (λ (d : List ℕ). negate l ∷ d) m))) (inverse_is e)) ∙ not-not b))

  says_xor : (ls : List ℕ) (b : Bool) → parity value ls ≡ not b → Satisfies value (signings ls b)
  unfolding signings
  says_xor [] false h c k = absurd (false≢true h)
  says_xor [] true h c k = elim k [ ]
  says_xor (l ∷ ls) b h c k = go (Memᴰ.append_cases (map (λ (d : List ℕ). l ∷ d) (signings ls b)) k) (says_xor ls)
    where
      go : Memᴰ c (map (λ (d : List ℕ). l ∷ d) (signings ls b)) ⊎ Memᴰ c (map (λ (d : List ℕ). negate l ∷ d) (signings ls (not b)))
          → ((d : Bool) → parity value ls ≡ not d → Satisfies value (signings ls d)) → True value c
      go (inl m) ih =
          let o = mem_of_map (λ (d : List ℕ). l ∷ d) (signings ls b) m in
          subst⁻¹ (True value) o.is (plain o.of o.in_list (value l) refl)
        where
          plain : (d : List ℕ) → Memᴰ d (signings ls b) → (v : Bool) → value l ≡ v → True value (l ∷ d)
          plain d i true e = first_true d e
          plain d i false e = more_true (ih b (sym (ap (λ (v : Bool). plus v (parity value ls)) e) ∙ h) d i)
      go (inr m) ih =
          let o = mem_of_map (λ (d : List ℕ). negate l ∷ d) (signings ls (not b)) m in
          subst⁻¹ (True value) o.is (inverse o.of o.in_list (value l) refl)
        where
          inverse : (d : List ℕ) → Memᴰ d (signings ls (not b)) → (v : Bool) → value l ≡ v → True value (negate l ∷ d)
          inverse d i false e = first_true d (inverse_is e)
          inverse d i true e = more_true (ih (not b) (sym (not-not (parity value ls)) ∙ ap not (sym (ap (λ (v : Bool). plus v (parity value ls)) e) ∙ h)) d i)

  pub ite_says : (l c t e : ℕ) → True value (negate c ∷ negate l ∷ t ∷ []) → True value (negate c ∷ l ∷ negate t ∷ []) → True value (c ∷ negate l ∷ e ∷ []) → True value (c ∷ l ∷ negate e ∷ [])
      → value l ≡ cond (value c) (value t) (value e)
  ite_says l c t e then_up then_down else_up else_down = go (value c) refl
    where
      go : (b : Bool) → value c ≡ b → value l ≡ cond (value c) (value t) (value e)
      go true p = rw p (equal_says l t (rest_true then_up (inverse_is p)) (rest_true then_down (inverse_is p)))
      go false p = rw p (equal_says l e (rest_true else_up p) (rest_true else_down p))

  says_ite : (l c t e : ℕ) → value l ≡ cond (value c) (value t) (value e) → Satisfies value (encoding (ite l c t e))
  says_ite l c t e h = go (value c) refl
    where
      four : True value (negate c ∷ negate l ∷ t ∷ []) → True value (negate c ∷ l ∷ negate t ∷ []) → True value (c ∷ negate l ∷ e ∷ []) → True value (c ∷ l ∷ negate e ∷ [])
          → Satisfies value (encoding (ite l c t e))
      four p q r s d (Memᴰ.head i) = subst⁻¹ (True value) i p
      four p q r s d (Memᴰ.tail (Memᴰ.head i)) = subst⁻¹ (True value) i q
      four p q r s d (Memᴰ.tail (Memᴰ.tail (Memᴰ.head i))) = subst⁻¹ (True value) i r
      four p q r s d (Memᴰ.tail (Memᴰ.tail (Memᴰ.tail (Memᴰ.head i)))) = subst⁻¹ (True value) i s
      four p q r s d (Memᴰ.tail (Memᴰ.tail (Memᴰ.tail (Memᴰ.tail k)))) = elim k [ ]

      go : (b : Bool) → value c ≡ b → Satisfies value (encoding (ite l c t e))
      go true p =
          let u = says_equal l t (h ∙ ap (λ (b : Bool). cond b (value t) (value e)) p) in
          four (more_true u.0) (more_true u.1) (first_true _ p) (first_true _ p)
      go false p =
          let u = says_equal l e (h ∙ ap (λ (b : Bool). cond b (value t) (value e)) p) in
          four (first_true _ (inverse_is p)) (first_true _ (inverse_is p)) (more_true u.0) (more_true u.1)

  -- An assignment satisfies a gate's clauses exactly if it gives the output the value that the gate gives it.
  pub encoding_true : (g : Gate) → Satisfies value (encoding g) ↔ (value (output g) ≡ computes value g)
  encoding_true (and l rs) = (and_says l rs, says_and l rs)
  encoding_true (xor l rs) = (λ sat. summand (value l) (parity value rs) (xor_says (l ∷ rs) true sat), λ h. says_xor (l ∷ rs) true (ap (λ (b : Bool). plus b (parity value rs)) h ∙ plus_self (parity value rs)))
  encoding_true (ite l c t e) = (λ sat. ite_says l c t e (sat _ in_first) (sat _ in_second) (sat _ in_third) (sat _ (Memᴰ.tail in_third)), says_ite l c t e)
