-- The nets that lead an odd number of a bag's literals, as an ascending list and as one number: both are known by the parities.
-- Assumes nothing.
use mathlib.Core.Path.{◌≡◌, refl, sym, ◌∙◌, ap, ap₂, subst, subst⁻¹}
use mathlib.Core.Logic.{◌≢◌, ◌⊎◌, inl, inr, ⊎_elim}
use mathlib.Core.Bool.{Bool, true, false, cond, false≢true, true≢false}
use mathlib.Core.List.Memᴰ
use mathlib.Core.List.{List, [], ◌∷◌}
use Prim.Native.Nat.{ℕ, zero, suc, ◌+◌, ◌*◌, ◌/◌, ◌%◌, ◌≤◌, ◌<◌}
use native.Mathlib.Omega.{arith}
use native.Mathlib.Decide.{ℕ_discrete, dec_lt}
use native.Mathlib.Nat.{not-suc-le-zero, le_of_suc-le-suc}
use lib.ListN.{length}
use lib.Dec.{eqb}
use borrow.Author.Tests.{eq-eqb, ne_eqb, lt-ltb, le-ltb}
use Rattle.clauses.specs.Code.{net}
use Rattle.clauses.specs.Clause.{Mem}
use Rattle.clauses.proofs.Lists.{in_first}
use Rattle.clauses.specs.Sign.{plus, is_inverse, parity}
use Rattle.clauses.proofs.Signs.{plus_cancel, plus_assoc, plus_comm}
use Rattle.closure.specs.Xors.{toggled, odd_nets, packed, Digits, none, more, odd_sign, rest_of}
use Rattle.closure.specs.declared.nets.Rest.{Rest}
use Rattle.rules.proofs.Cancelling.{leads_to}

-- How a net is toggled

toggled_out : (w x : ℕ) (xs : List ℕ) → w ≡ x → toggled w (x ∷ xs) ≡ xs
unfolding toggled
toggled_out w x xs e = rw (eq-eqb w x e)

toggled_in : (w x : ℕ) (xs : List ℕ) → w < x → toggled w (x ∷ xs) ≡ w ∷ x ∷ xs
unfolding toggled
toggled_in w x xs l = rw (ne_eqb w x (λ e. omega arith), lt-ltb w x l)

toggled_on : (w x : ℕ) (xs : List ℕ) → x < w → toggled w (x ∷ xs) ≡ x ∷ toggled w xs
unfolding toggled
toggled_on w x xs l = rw (ne_eqb w x (λ e. omega arith), le-ltb w x (omega arith))

-- the three ways
toggled_cases : (P : List ℕ → Type 0) (w x : ℕ) (xs : List ℕ) → (w ≡ x → P xs) → (w < x → P (w ∷ x ∷ xs)) → (x < w → P (x ∷ toggled w xs)) → P (toggled w (x ∷ xs))
toggled_cases P w x xs out in_front on = go (ℕ_discrete w x) (dec_lt w x)
  where
    go : Dec (w ≡ x) → Dec (w < x) → P (toggled w (x ∷ xs))
    go (yes e) d = subst⁻¹ P (toggled_out w x xs e) (out e)
    go (no n) (yes l) = subst⁻¹ P (toggled_in w x xs l) (in_front l)
    go (no n) (no l) = subst⁻¹ P (toggled_on w x xs (omega arith)) (on (omega arith))

-- Nets and parities

-- whether the net is v
abbrev pub is : ℕ → ℕ → Bool
is v x = eqb x v

plus_over : (a b c : Bool) → plus b (plus a c) ≡ plus a (plus b c)
plus_over a b c = plus_assoc b a c ∙ ap (λ (d : Bool). plus d c) (plus_comm b a) ∙ sym (plus_assoc a b c)

toggled_parity : (v w : ℕ) (l : List ℕ) → parity (is v) (toggled w l) ≡ plus (is v w) (parity (is v) l)
unfolding toggled
toggled_parity v w [] = refl
toggled_parity v w (x ∷ xs) = step (toggled_parity v w xs)
  where
    step : parity (is v) (toggled w xs) ≡ plus (is v w) (parity (is v) xs) → parity (is v) (toggled w (x ∷ xs)) ≡ plus (is v w) (parity (is v) (x ∷ xs))
    step ih =
        toggled_cases (λ (l : List ℕ). parity (is v) l ≡ plus (is v w) (plus (is v x) (parity (is v) xs))) w x xs
        (λ e. sym (plus_cancel (is v x) (parity (is v) xs)) ∙ ap (λ (y : ℕ). plus (is v y) (plus (is v x) (parity (is v) xs))) (sym e))
        (λ l. refl)
        (λ l. ap (plus (is v x)) ih ∙ plus_over (is v w) (is v x) (parity (is v) xs))

module _ (f : ℕ → ℕ) where
  odd_constant : (x : ℕ) (xs : List ℕ) → net (f x) ≡ 0 → odd_nets f (x ∷ xs) ≡ odd_nets f xs
  unfolding odd_nets
  odd_constant x xs e = rw (eq-eqb (net (f x)) 0 e)

  odd_net : (x : ℕ) (xs : List ℕ) → net (f x) ≢ 0 → odd_nets f (x ∷ xs) ≡ toggled (net (f x)) (odd_nets f xs)
  unfolding odd_nets
  odd_net x xs n = rw (ne_eqb (net (f x)) 0 n)

  pub odd_cases : (P : List ℕ → Type 0) (x : ℕ) (xs : List ℕ) → (net (f x) ≡ 0 → P (odd_nets f xs)) → (net (f x) ≢ 0 → P (toggled (net (f x)) (odd_nets f xs))) → P (odd_nets f (x ∷ xs))
  odd_cases P x xs constant other = go (ℕ_discrete (net (f x)) 0)
    where
      go : Dec (net (f x) ≡ 0) → P (odd_nets f (x ∷ xs))
      go (yes e) = subst⁻¹ P (odd_constant x xs e) (constant e)
      go (no n) = subst⁻¹ P (odd_net x xs n) (other n)

  -- a net is in the set where it leads an odd number of literals
  pub odd_parity : (v : ℕ) → v ≢ 0 → (xs : List ℕ) → parity (is v) (odd_nets f xs) ≡ parity (leads_to f v) xs
  unfolding odd_nets
  odd_parity v n [] = refl
  odd_parity v n (x ∷ xs) = step (odd_parity v n xs)
    where
      step : parity (is v) (odd_nets f xs) ≡ parity (leads_to f v) xs → parity (is v) (odd_nets f (x ∷ xs)) ≡ parity (leads_to f v) (x ∷ xs)
      step ih =
          odd_cases (λ (l : List ℕ). parity (is v) l ≡ parity (leads_to f v) (x ∷ xs)) x xs
          (λ e. ih ∙ ap (λ (b : Bool). plus b (parity (leads_to f v) xs)) (sym (ne_eqb (net (f x)) v (λ q. n (sym q ∙ e)))))
          (λ m. toggled_parity v (net (f x)) (odd_nets f xs) ∙ ap (plus (leads_to f v x)) ih)

-- Ascending lists

-- the list ascends from above lo
data Ascending : ℕ → List ℕ → Type 0 where
  empty : {lo : ℕ} → Ascending lo []
  above : {lo x : ℕ} {xs : List ℕ} → lo < x → Ascending x xs → Ascending lo (x ∷ xs)

toggled_ascends : (w lo : ℕ) (l : List ℕ) → lo < w → Ascending lo l → Ascending lo (toggled w l)
unfolding toggled
toggled_ascends w lo [] h empty = above h empty
toggled_ascends w lo (x ∷ xs) h (above k a) = step (toggled_ascends w x xs)
  where
    lower : {ys : List ℕ} → Ascending x ys → lo < x → Ascending lo ys
    lower empty l = empty
    lower (above {x = y} m b) l = above {lo = lo} {x = y} (omega arith) b

    step : (x < w → Ascending x xs → Ascending x (toggled w xs)) → Ascending lo (toggled w (x ∷ xs))
    step ih = toggled_cases (Ascending lo) w x xs (λ e. lower a k) (λ l. above h (above l a)) (λ l. above k (ih l a))

odd_ascends : (f : ℕ → ℕ) (xs : List ℕ) → Ascending 0 (odd_nets f xs)
unfolding odd_nets
odd_ascends f [] = empty
odd_ascends f (x ∷ xs) = step (odd_ascends f xs)
  where
    step : Ascending 0 (odd_nets f xs) → Ascending 0 (odd_nets f (x ∷ xs))
    step ih = odd_cases f (Ascending 0) x xs (λ e. ih) (λ n. toggled_ascends (net (f x)) 0 (odd_nets f xs) (omega arith) ih)

-- a net that is not above lo is not in the list
not_below : (v lo : ℕ) (l : List ℕ) → v ≤ lo → Ascending lo l → parity (is v) l ≡ false
not_below v lo [] h empty = refl
not_below v lo (x ∷ xs) h (above k a) = ap₂ plus (ne_eqb x v (λ e. omega arith)) (not_below v x xs (omega arith) a)

-- the first net is in the list
in_front : (x : ℕ) (xs : List ℕ) → Ascending x xs → parity (is x) (x ∷ xs) ≡ true
in_front x xs a = ap₂ plus (eq-eqb x x refl) (not_below x x xs (omega arith) a)

-- an ascending list is known by its elements
ascending_unique : (lo : ℕ) (l m : List ℕ) → Ascending lo l → Ascending lo m → ((v : ℕ) → v ≢ 0 → parity (is v) l ≡ parity (is v) m) → l ≡ m
ascending_unique lo [] [] a b e = refl
ascending_unique lo [] (y ∷ ys) a (above k b) e = absurd (false≢true (e y (λ z. omega arith) ∙ in_front y ys b))
ascending_unique lo (x ∷ xs) [] (above h a) b e = absurd (true≢false (sym (in_front x xs a) ∙ e x (λ z. omega arith)))
ascending_unique lo (x ∷ xs) (y ∷ ys) (above h a) (above k b) e = go (ℕ_discrete x y) (dec_lt x y) (ascending_unique x xs ys a)
  where
    go : Dec (x ≡ y) → Dec (x < y) → (Ascending x ys → ((v : ℕ) → v ≢ 0 → parity (is v) xs ≡ parity (is v) ys) → xs ≡ ys) → x ∷ xs ≡ y ∷ ys
    go (yes q) d ih =
        ap₂ (λ (z : ℕ) (zs : List ℕ). z ∷ zs) q
        (ih (subst⁻¹ (λ (z : ℕ). Ascending z ys) q b)
        (λ v n.
        sym (plus_cancel (is v x) (parity (is v) xs)) ∙ ap (plus (is v x)) (e v n)
        ∙ ap (λ (z : ℕ). plus (is v z) (plus (is v y) (parity (is v) ys))) q ∙ plus_cancel (is v y) (parity (is v) ys)))
    go (no n) (yes l) ih = absurd (true≢false (sym (in_front x xs a) ∙ e x (λ z. omega arith) ∙ not_below x x (y ∷ ys) (omega arith) (above l b)))
    go (no n) (no l) ih = absurd (false≢true (sym (not_below y y (x ∷ xs) (omega arith) (above (omega arith) a)) ∙ e y (λ z. omega arith) ∙ in_front y ys b))

-- bags whose parities of leads are equal have the same nets
pub odd_same : (f : ℕ → ℕ) (xs ys : List ℕ) → ((v : ℕ) → v ≢ 0 → parity (leads_to f v) xs ≡ parity (leads_to f v) ys) → odd_nets f xs ≡ odd_nets f ys
odd_same f xs ys e =
    ascending_unique 0 (odd_nets f xs) (odd_nets f ys) (odd_ascends f xs) (odd_ascends f ys)
    (λ v n. odd_parity f v n xs ∙ e v n ∙ sym (odd_parity f v n ys))

-- Packed sets

toggled_digits : (w : ℕ) (l : List ℕ) → 0 < w → w < 65536 → Digits l → Digits (toggled w l)
unfolding toggled
toggled_digits w [] p s none = more p s none
toggled_digits w (x ∷ xs) p s (more h k d) = step (toggled_digits w xs p s d)
  where
    step : Digits (toggled w xs) → Digits (toggled w (x ∷ xs))
    step ih = toggled_cases Digits w x xs (λ e. d) (λ l. more p s (more h k d)) (λ l. more h k ih)

pub odd_digits : (f : ℕ → ℕ) (xs : List ℕ) → ((x : ℕ) → Mem x xs → net (f x) < 65536) → Digits (odd_nets f xs)
unfolding odd_nets
odd_digits f [] h = none
odd_digits f (x ∷ xs) h = step (odd_digits f xs (λ y m. h y (Memᴰ.tail m)))
  where
    step : Digits (odd_nets f xs) → Digits (odd_nets f (x ∷ xs))
    step ih = odd_cases f Digits x xs (λ e. ih) (λ n. toggled_digits (net (f x)) (odd_nets f xs) (omega arith) (h x in_first) ih)

pub packed_unique : (l m : List ℕ) → Digits l → Digits m → packed l ≡ packed m → l ≡ m
unfolding packed
packed_unique [] [] d e q = refl
packed_unique [] (y ∷ ys) d (more h k e) q = absurd (omega arith)
packed_unique (x ∷ xs) [] (more h k d) e q = absurd (omega arith)
packed_unique (x ∷ xs) (y ∷ ys) (more h k d) (more i j e) q =
    let same : x ≡ y = omega arith in
    ap₂ (λ (z : ℕ) (zs : List ℕ). z ∷ zs) same (packed_unique xs ys d e (omega arith))

toggled_length : (w : ℕ) (l : List ℕ) → length (toggled w l) ≤ suc (length l)
unfolding toggled
toggled_length w [] = omega arith
toggled_length w (x ∷ xs) = step (toggled_length w xs)
  where
    step : length (toggled w xs) ≤ suc (length xs) → length (toggled w (x ∷ xs)) ≤ suc (suc (length xs))
    step ih = toggled_cases (λ (l : List ℕ). length l ≤ suc (suc (length xs))) w x xs (λ e. omega arith) (λ l. omega arith) (λ l. omega arith)

pub odd_length : (f : ℕ → ℕ) (xs : List ℕ) → length (odd_nets f xs) ≤ length xs
unfolding odd_nets
odd_length f [] = omega arith
odd_length f (x ∷ xs) = step (odd_length f xs)
  where
    step : length (odd_nets f xs) ≤ length xs → length (odd_nets f (x ∷ xs)) ≤ suc (length xs)
    step ih =
        odd_cases f (λ (l : List ℕ). length l ≤ suc (length xs)) x xs (λ e. omega arith)
        (λ n. omega (arith, toggled_length (net (f x)) (odd_nets f xs)))

-- 65536 to the n-th power
unfoldable power : ℕ → ℕ
power zero = 1
power (suc n) = 65536 * power n

packed_below : (n : ℕ) (l : List ℕ) → Digits l → length l ≤ n → packed l < power n
unfolding packed power
packed_below zero [] d h = omega arith
packed_below (suc n) [] d h = let p : packed [] < power n = packed_below n [] d (omega arith) in omega arith
packed_below zero (x ∷ xs) d h = absurd (not-suc-le-zero h)
packed_below (suc n) (x ∷ xs) (more p s d) h = let q : packed xs < power n = packed_below n xs d (le_of_suc-le-suc h) in omega arith

-- three nets leave room for a fourth
pub packed_three : (l : List ℕ) → Digits l → length l ≤ 3 → packed l < 281474976710656
unfolding power
packed_three l d h = packed_below 3 l d h

-- A packed set with one net toggled
module _ (w key : ℕ) where
  pub toggle_none : key ≡ 0 → (l : List ℕ) → Digits l → key ≡ packed l → w ≡ packed (toggled w l)
  unfolding packed toggled
  toggle_none z [] d e = omega arith
  toggle_none z (x ∷ xs) (more p s d) e = absurd (omega arith)

  pub toggle_out : key ≢ 0 → w ≡ key % 65536 → (l : List ℕ) → Digits l → key ≡ packed l → key / 65536 ≡ packed (toggled w l)
  unfolding packed
  toggle_out n q [] d e = absurd (n e)
  toggle_out n q (x ∷ xs) (more p s d) e = let h : key / 65536 ≡ packed xs = omega arith in h ∙ ap packed (sym (toggled_out w x xs (omega arith)))

  pub toggle_in : key ≢ 0 → w < key % 65536 → (l : List ℕ) → Digits l → key ≡ packed l → key * 65536 + w ≡ packed (toggled w l)
  unfolding packed
  toggle_in n q [] d e = absurd (n e)
  toggle_in n q (x ∷ xs) (more p s d) e =
      let low : key % 65536 ≡ x = omega arith in
      let whole : key * 65536 + w ≡ packed (w ∷ x ∷ xs) = omega arith in
      whole ∙ ap packed (sym (toggled_in w x xs (omega arith)))

  pub toggle_on : key ≢ 0 → key % 65536 < w → (r : ℕ) → ((l : List ℕ) → Digits l → key / 65536 ≡ packed l → r ≡ packed (toggled w l))
      → (l : List ℕ) → Digits l → key ≡ packed l → r * 65536 + key % 65536 ≡ packed (toggled w l)
  unfolding packed
  toggle_on n q r h [] d e = absurd (n e)
  toggle_on n q r h (x ∷ xs) (more p s d) e =
      let low : key % 65536 ≡ x = omega arith in
      let rest : r ≡ packed (toggled w xs) = h xs d (omega arith) in
      let whole : r * 65536 + key % 65536 ≡ packed (x ∷ toggled w xs) = omega arith in
      whole ∙ ap packed (sym (toggled_on w x xs (omega arith)))

-- What is left of a bag with one more literal
module _ (f : ℕ → ℕ) (x : ℕ) (xs : List ℕ) (lead : ℕ) (led : f x ≡ lead) (r : Rest) (rest : r ≡ rest_of f xs) where
  -- the signs
  odd_more : plus (is_inverse lead) r.odd ≡ odd_sign f (x ∷ xs)
  unfolding rest_of odd_sign
  odd_more = ap₂ plus (ap is_inverse (sym led)) (ap (λ (q : Rest). q.odd) rest)

  pub rest_constant : net lead ≡ 0 → (odd : Bool) → odd ≡ plus (is_inverse lead) r.odd → record { key = r.key; odd = odd } ≡ rest_of f (x ∷ xs)
  unfolding rest_of
  rest_constant e odd o =
      ap₂ (λ (k : ℕ) (b : Bool). record { key = k; odd = b }) (ap (λ (q : Rest). q.key) rest ∙ ap packed (sym (odd_constant f x xs (ap net led ∙ e)))) (o ∙ odd_more)

  pub rest_net : net lead ≢ 0 → (odd : Bool) → odd ≡ plus (is_inverse lead) r.odd → Digits (odd_nets f xs) → (key : ℕ)
      → ((l : List ℕ) → Digits l → r.key ≡ packed l → key ≡ packed (toggled (net lead) l)) → record { key = key; odd = odd } ≡ rest_of f (x ∷ xs)
  unfolding rest_of
  rest_net n odd o d key h =
      ap₂ (λ (k : ℕ) (b : Bool). record { key = k; odd = b })
      (h (odd_nets f xs) d (ap (λ (q : Rest). q.key) rest) ∙ ap (λ (w : ℕ). packed (toggled w (odd_nets f xs))) (ap net (sym led))
      ∙ ap packed (sym (odd_net f x xs (λ e. n (ap net (sym led) ∙ e)))))
      (o ∙ odd_more)

-- Every net of the set leads some literal
toggled_mem : (u w : ℕ) (l : List ℕ) → Mem w (toggled u l) → (w ≡ u) ⊎ Mem w l
unfolding toggled
toggled_mem u w [] m = inl (Memᴰ.eq_of_singleton m)
toggled_mem u w (x ∷ xs) m = step (toggled_mem u w xs) m
  where
    step : (Mem w (toggled u xs) → (w ≡ u) ⊎ Mem w xs) → Mem w (toggled u (x ∷ xs)) → (w ≡ u) ⊎ Mem w (x ∷ xs)
    step ih = toggled_cases (λ (l : List ℕ). Mem w l → (w ≡ u) ⊎ Mem w (x ∷ xs)) u x xs (λ e m. inr (Memᴰ.tail m)) (λ l m. front m) (λ l m. on m)
      where
        front : Mem w (u ∷ x ∷ xs) → (w ≡ u) ⊎ Mem w (x ∷ xs)
        front (Memᴰ.head e) = inl e
        front (Memᴰ.tail m) = inr m

        on : Mem w (x ∷ toggled u xs) → (w ≡ u) ⊎ Mem w (x ∷ xs)
        on (Memᴰ.head e) = inr (Memᴰ.head e)
        on (Memᴰ.tail m) = ⊎_elim inl (λ k. inr (Memᴰ.tail k)) (ih m)

pub odd_leads : (f : ℕ → ℕ) (xs : List ℕ) (w : ℕ) → Mem w (odd_nets f xs) → (x : ℕ) × Mem x xs × (net (f x) ≡ w)
unfolding odd_nets
odd_leads f [] w m = elim m [ ]
odd_leads f (x ∷ xs) w m = step (odd_leads f xs w) m
  where
    step : (Mem w (odd_nets f xs) → (y : ℕ) × Mem y xs × (net (f y) ≡ w)) → Mem w (odd_nets f (x ∷ xs)) → (y : ℕ) × Mem y (x ∷ xs) × (net (f y) ≡ w)
    step ih =
        odd_cases f (λ (l : List ℕ). Mem w l → (y : ℕ) × Mem y (x ∷ xs) × (net (f y) ≡ w)) x xs (λ e m. further (ih m))
        (λ n m. ⊎_elim (λ e. (x, in_first, sym e)) (λ k. further (ih k)) (toggled_mem (net (f x)) w (odd_nets f xs) m))
      where
        further : (y : ℕ) × Mem y xs × (net (f y) ≡ w) → (y : ℕ) × Mem y (x ∷ xs) × (net (f y) ≡ w)
        further (y, k, e) = (y, Memᴰ.tail k, e)

pub odd_bounded : (f : ℕ → ℕ) (xs : List ℕ) (v : ℕ) → ((x : ℕ) → Mem x xs → net (f x) ≤ v) → (w : ℕ) → Mem w (odd_nets f xs) → w ≤ v
odd_bounded f xs v h w m = let t = odd_leads f xs w m in subst (λ (n : ℕ). n ≤ v) t.2 (h t.0 t.1)

-- leads that are equal on the bag leave the same
module _ (f g : ℕ → ℕ) where
  pub odd_nets_alike : (xs : List ℕ) → ((x : ℕ) → Mem x xs → f x ≡ g x) → odd_nets f xs ≡ odd_nets g xs
  unfolding odd_nets
  odd_nets_alike [] h = refl
  odd_nets_alike (x ∷ xs) h =
      ap₂ (λ (y : ℕ) (l : List ℕ). cond (eqb (net y) 0) l (toggled (net y) l)) (h x in_first) (odd_nets_alike xs (λ y m. h y (Memᴰ.tail m)))

  pub odd_sign_alike : (xs : List ℕ) → ((x : ℕ) → Mem x xs → f x ≡ g x) → odd_sign f xs ≡ odd_sign g xs
  unfolding odd_sign
  odd_sign_alike [] h = refl
  odd_sign_alike (x ∷ xs) h = ap₂ (λ (y : ℕ) (b : Bool). plus (is_inverse y) b) (h x in_first) (odd_sign_alike xs (λ y m. h y (Memᴰ.tail m)))

-- a small number packs at most one net
pub packed_few : (l : List ℕ) → Digits l → packed l < 65536 → (l ≡ []) ⊎ ((w : ℕ) × (0 < w) × (l ≡ w ∷ []))
unfolding packed
packed_few [] d h = inl refl
packed_few (x ∷ []) (more p s d) h = inr (x, p, refl)
packed_few (x ∷ y ∷ l) (more p s (more q t d)) h = absurd (omega arith)
