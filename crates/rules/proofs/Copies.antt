-- A design and its copy are found equal: each net is joined to its copy after as many rounds as its level.
-- Assumes nothing.
use mathlib.Core.Path.{◌≡◌, sym, ◌∙◌, ap, subst, subst⁻¹, subst₂}
use mathlib.Core.Logic.{◌≢◌, ◌⊎◌, inl, inr}
use mathlib.Core.Bool.{false}
use mathlib.Core.List.Memᴰ
use mathlib.Core.List.{List, [], ◌∷◌, ◌++◌, map, Memᴰ}
use Prim.Native.Nat.{ℕ, zero, suc, ◌*◌, ◌≤◌, ◌<◌}
use native.Mathlib.Omega.{arith}
use native.Mathlib.Decide.{ℕ_discrete}
use lib.ListN.{length-map}
use Rattle.clauses.specs.Code.{negate, net}
use Rattle.clauses.specs.Clause.{Mem, Within, Included}
use Rattle.clauses.specs.Lists.{Pick, first, later}
use Rattle.clauses.proofs.Lists.{in_first, in_second, in_third, mem_map, mem_of_map}
use Rattle.clauses.proofs.Codes.{net_negate, net_double, negate_other, same_net}
use Rattle.clauses.specs.Sign.{plus, flip, is_inverse}
use Rattle.gates.proofs.Ands.{Two}
use Rattle.clauses.proofs.Signs.{code_split, same_net_flip}
use Rattle.gates.proofs.Renamed.{flip_image, apart_image}
use Rattle.rules.specs.Rule.{Cancels, Covers, Concludes}
use Rattle.rules.specs.Grouping.{After}
use Rattle.rules.specs.Design.{Gate, and, xor, ite, output, inputs, encodings, ProperPins, HoldsGate, Levelized}
use Rattle.rules.specs.Copy.{copy_of, EqualsCopy, driven, wired, Copied, Differs, by-xor, by-and, by-ands, by_or, Miter, asserted, some_of, opposed}
use Rattle.rules.proofs.Groupings.{after_same, after_back, after_chain, after_flip, after_clash, after_all, after_grows, after_drawn}
use Rattle.rules.proofs.Designs.{holds_more, encodings_hold, encoding_present, one_or_other, clause_inputs, and_found, buffer_found, tied_found, xor_found, ite_found}

pick_middle : (x : ℕ) (xs ys : List ℕ) → Pick x (xs ++ (x ∷ ys)) (xs ++ ys)
pick_middle x [] ys = first
pick_middle x (z ∷ xs) ys = later (pick_middle x xs ys)

-- literals beside their copies cancel
copies_cancel : (G : ℕ → ℕ → Type 0) (ρ : ℕ → ℕ) (ks : List ℕ) → ((y : ℕ) → Mem y ks → G y (ρ y)) → Cancels G (ks ++ map ρ ks) false
copies_cancel G ρ [] h = Cancels.none
copies_cancel G ρ (x ∷ ks) h =
    Cancels.pair false (pick_middle (ρ x) ks (map ρ ks)) (h x in_first) (copies_cancel G ρ ks (λ y m. h y (Memᴰ.tail m)))

module _ {cs : List (List ℕ)} (n : ℕ) where
  -- one more round joins an AND whose inputs are all joined to one of them to that input
  pub input_joined : {l : ℕ} {rs : List ℕ} → HoldsGate cs (and l rs) → (r : ℕ) → Mem r rs → ((y : ℕ) → Mem y rs → After cs n y r) → After cs (suc n) l r
  input_joined {l} {rs} g r m near = go (one_or_other r rs)
    where
      go : ((y : ℕ) → Mem y rs → y ≡ r) ⊎ ((y : ℕ) × Mem y rs × (y ≢ r)) → After cs (suc n) l r
      go (inl e) = after_drawn cs n (buffer_found g (After cs n) r m e)
      go (inr (y, k, d)) =
          let ins = clause_inputs g in
          after_drawn cs n (Concludes.and_input (and_found g (record { one = y; two = r; one_in = k; two_in = m; differ = d })) (ins.outward r m)
          (λ s i. inr (near s (ins.inward s i))))

  -- and one with inputs that are joined as inverses to F
  pub inverses_joined : {l : ℕ} {rs : List ℕ} → HoldsGate cs (and l rs) → (r s : ℕ) → Mem r rs → Mem s rs → After cs n r (negate s) → After cs (suc n) l 0
  inverses_joined {l} {rs} g r s i j h = go (ℕ_discrete r s)
    where
      go : Dec (r ≡ s) → After cs (suc n) l 0
      go (yes e) = after_grows cs n l 0 (after_all cs n l 0 (after_clash cs n s (subst (λ (x : ℕ). After cs n x (negate s)) e h)))
      go (no d) =
          after_drawn cs n (Concludes.and_inverses (and_found g (record { one = r; two = s; one_in = i; two_in = j; differ = d }))
          ((clause_inputs g).outward r i) ((clause_inputs g).outward s j) h)

  module _ (ρ : ℕ → ℕ) where
    and_joined : (l r : ℕ) (rs : List ℕ) → HoldsGate cs (and l (r ∷ rs)) → HoldsGate cs (and (ρ l) (map ρ (r ∷ rs)))
        → ((y : ℕ) → Mem y (r ∷ rs) → After cs n y (ρ y)) → After cs (suc n) l (ρ l)
    and_joined l r rs g h ih = go (one_or_other (ρ r) (map ρ (r ∷ rs)))
      where
        -- the copy has one input
        one : ((y : ℕ) → Mem y (map ρ (r ∷ rs)) → y ≡ ρ r) → After cs (suc n) l (ρ l)
        one e =
            after_chain cs (suc n) l r (ρ l) (input_joined g r in_first near)
            (after_chain cs (suc n) r (ρ r) (ρ l) (after_grows cs n r (ρ r) (ih r in_first)) (after_back cs (suc n) (ρ l) (ρ r) (input_joined h (ρ r) in_first near_copy)))
          where
            near_copy : (y : ℕ) → Mem y (map ρ (r ∷ rs)) → After cs n y (ρ r)
            near_copy y m = subst⁻¹ (λ (z : ℕ). After cs n z (ρ r)) (e y m) (after_same cs n (ρ r))

            near : (y : ℕ) → Mem y (r ∷ rs) → After cs n y r
            near y m =
                after_chain cs n y (ρ y) r (ih y m)
                (after_chain cs n (ρ y) (ρ r) r (near_copy (ρ y) (mem_map ρ m)) (after_back cs n r (ρ r) (ih r in_first)))

        -- the copy has two, and so has the gate
        two : (y : ℕ) → Mem y (map ρ (r ∷ rs)) → y ≢ ρ r → After cs (suc n) l (ρ l)
        two y m d = after_drawn cs n (Concludes.and_and (and_found g pair) (and_found h copies) there back)
          where
            pair : Two (r ∷ rs)
            pair = let o = mem_of_map ρ (r ∷ rs) m in record { one = o.of; two = r; one_in = o.in_list; two_in = in_first; differ = λ e. d (o.is ∙ ap ρ e) }

            copies : Two (map ρ (r ∷ rs))
            copies = record { one = y; two = ρ r; one_in = m; two_in = in_first; differ = d }

            there : Covers (After cs n) (l ∷ map negate (r ∷ rs)) l (ρ l ∷ map negate (map ρ (r ∷ rs))) (ρ l)
            there s i = let k = (clause_inputs g).inward s i in inr (ρ s, (clause_inputs h).outward (ρ s) (mem_map ρ k), ih s k)

            back : Covers (After cs n) (ρ l ∷ map negate (map ρ (r ∷ rs))) (ρ l) (l ∷ map negate (r ∷ rs)) l
            back s i =
                let o = mem_of_map ρ (r ∷ rs) ((clause_inputs h).inward s i) in
                inr (o.of, (clause_inputs g).outward o.of o.in_list, subst⁻¹ (λ (z : ℕ). After cs n z o.of) o.is (after_back cs n o.of (ρ o.of) (ih o.of o.in_list)))

        go : ((y : ℕ) → Mem y (map ρ (r ∷ rs)) → y ≡ ρ r) ⊎ ((y : ℕ) × Mem y (map ρ (r ∷ rs)) × (y ≢ ρ r)) → After cs (suc n) l (ρ l)
        go (inl e) = one e
        go (inr (y, m, d)) = two y m d

    -- if the inputs are joined to their copies, one more round joins the outputs
    gate_joined : (g : Gate) → HoldsGate cs g → HoldsGate cs (copy_of ρ g) → ((y : ℕ) → Mem y (inputs g) → After cs n y (ρ y)) → After cs (suc n) (output g) (ρ (output g))
    gate_joined (and l []) g h ih =
        after_chain cs (suc n) l 1 (ρ l) (after_drawn cs n (tied_found (After cs n) (encoding_present g _ in_first)))
        (after_back cs (suc n) (ρ l) 1 (after_drawn cs n (tied_found (After cs n) (encoding_present h _ in_first))))
    gate_joined (and l (r ∷ rs)) g h ih = and_joined l r rs g h ih
    gate_joined (xor l rs) g h ih = after_drawn cs n (Concludes.xor_xor (xor_found g) (xor_found h) (copies_cancel (After cs n) ρ rs ih))
    gate_joined (ite l c t e) g h ih = after_drawn cs n (Concludes.ite_ite (ite_found g) (ite_found h) (ih c in_first) (ih t in_second) (ih e in_third))

module _ {cs : List (List ℕ)} {gs : List Gate} {ρ level : ℕ → ℕ} (copied : Copied cs gs ρ level) where
  -- a net is joined to its copy if one of its literals is
  by_literal : (n x k : ℕ) → net k ≡ net x → After cs n k (ρ k) → After cs n x (ρ x)
  by_literal n x k e h =
      let s = plus (is_inverse x) (is_inverse k) in
      let is : x ≡ flip s k = same_net_flip x k (sym e) in
      subst₂ (After cs n) (sym is) (sym (ap ρ is ∙ flip_image ρ copied.inverses s k)) (after_flip cs n s k (ρ k) h)

  pub shared_same : (x : ℕ) → level (net x) ≡ 0 → ρ x ≡ x
  shared_same x e =
      ap ρ (code_split x) ∙ flip_image ρ copied.inverses (is_inverse x) (2 * net x) ∙ ap (flip (is_inverse x)) (copied.shared (net x) e) ∙ sym (code_split x)

  shared_joined : (n x : ℕ) → level (net x) ≡ 0 → After cs n x (ρ x)
  shared_joined n x e = subst⁻¹ (After cs n x) (shared_same x e) (after_same cs n x)

  -- A literal is joined to its copy after as many rounds as its net's level, and ever after.
  pub copy_joined : (n x : ℕ) → level (net x) ≤ n → After cs n x (ρ x)
  copy_joined zero x h = shared_joined zero x (omega arith)
  copy_joined (suc n) x h = go (ℕ_discrete (level (net x)) 0) (copy_joined n)
    where
      go : Dec (level (net x) ≡ 0) → ((y : ℕ) → level (net y) ≤ n → After cs n y (ρ y)) → After cs (suc n) x (ρ x)
      go (yes e) ih = shared_joined (suc n) x e
      go (no d) ih = match (copied.equal (net x) (omega arith))
        where
          match : EqualsCopy cs gs ρ (net x) → After cs (suc n) x (ρ x)
          match (driven {g = g} k e) =
              by_literal (suc n) x (output g) e
              (gate_joined n ρ g (copied.design g k) (copied.copy g k) (λ y m. ih y (lower (level (net y)) (subst (λ (w : ℕ). level (net y) < level w) e (copied.levelized g k y m)))))
            where
              lower : (i : ℕ) → i < level (net x) → i ≤ n
              lower i q = omega arith
          match (wired g) =
              by_literal (suc n) x (2 * net x) (net_double (net x))
              (after_drawn cs n (buffer_found g (After cs n) (ρ (2 * net x)) in_first (λ y m. Memᴰ.eq_of_singleton m)))

-- A copy under other names: where no two nets of a gate's pins get one name, the copy's pins are as they must be

module _ (ρ : ℕ → ℕ) where
  images_differ : (x y : ℕ) → (net (ρ x) ≡ net (ρ y) → net x ≡ net y) → x ≢ negate y → ρ x ≢ negate (ρ y)
  images_differ x y f d q = go (same_net x y (f (ap net q ∙ net_negate (ρ y))))
    where
      go : (x ≡ y) ⊎ (x ≡ negate y) → ⊥
      go (inl e) = negate_other (ρ y) (sym q ∙ ap ρ e)
      go (inr e) = d e

  pub copy_proper : (g : Gate) → ((x y : ℕ) → Mem x (output g ∷ inputs g) → Mem y (output g ∷ inputs g) → net (ρ x) ≡ net (ρ y) → net x ≡ net y)
      → ProperPins g → ProperPins (copy_of ρ g)
  copy_proper (and l rs) f p = λ r m.
      let o = mem_of_map ρ rs m in
      let i = Memᴰ.tail o.in_list in (
        λ e. (p o.of o.in_list).0 (f o.of l i in_first (ap net (sym o.is) ∙ e)),
        λ k.
            let u = mem_of_map ρ rs k in
            images_differ u.of o.of (f u.of o.of (Memᴰ.tail u.in_list) i) (λ q. (p o.of o.in_list).1 (Memᴰ.cast (sym q) u.in_list))
            (sym u.is ∙ ap negate o.is),
      )
  copy_proper (xor l rs) f (a, s, t) =
      (apart_image ρ f a, subst⁻¹ (λ (k : ℕ). 2 ≤ k) (length-map rs ρ) s, subst⁻¹ (λ (k : ℕ). k ≤ 4) (length-map rs ρ) t)
  copy_proper (ite l c t e) f (a, b, d) = (
    apart_image ρ (λ x y i j. f x y (then_side x i) (then_side y j)) a,
    apart_image ρ (λ x y i j. f x y (else_side x i) (else_side y j)) b,
    images_differ e t (f e t (Memᴰ.tail in_third) in_third) d,
  )
    where
      then_side : Within (l ∷ c ∷ t ∷ []) (l ∷ c ∷ t ∷ e ∷ [])
      then_side x (Memᴰ.head q) = Memᴰ.head q
      then_side x (Memᴰ.tail (Memᴰ.head q)) = Memᴰ.tail (Memᴰ.head q)
      then_side x (Memᴰ.tail (Memᴰ.tail k)) = rw (Memᴰ.eq_of_singleton k) in_third

      else_side : Within (l ∷ c ∷ e ∷ []) (l ∷ c ∷ t ∷ e ∷ [])
      else_side x (Memᴰ.head q) = Memᴰ.head q
      else_side x (Memᴰ.tail (Memᴰ.head q)) = Memᴰ.tail (Memᴰ.head q)
      else_side x (Memᴰ.tail (Memᴰ.tail k)) = Memᴰ.tail (Memᴰ.tail (Memᴰ.tail k))

-- So of the copy's pins nothing need be asked.
pub renamed_copied : {cs : List (List ℕ)} {gs : List Gate} {ρ level : ℕ → ℕ} → Included (encodings gs) cs → Included (encodings (map (copy_of ρ) gs)) cs
    → ((g : Gate) → Memᴰ g gs → ProperPins g) → Levelized gs level → ((x : ℕ) → ρ (negate x) ≡ negate (ρ x))
    → ((g : Gate) → Memᴰ g gs → (x y : ℕ) → Mem x (output g ∷ inputs g) → Mem y (output g ∷ inputs g) → net (ρ x) ≡ net (ρ y) → net x ≡ net y)
    → ((w : ℕ) → level w ≡ 0 → ρ (2 * w) ≡ 2 * w) → ((w : ℕ) → 0 < level w → EqualsCopy cs gs ρ w) → Copied cs gs ρ level
renamed_copied {ρ = ρ} there copies proper levelized inv apart shared equal =
    record {
      levelized = levelized;
      inverses = inv;
      design = λ g k. encodings_hold there k (proper g k);
      copy = λ g k. encodings_hold copies (mem_map (copy_of ρ) k) (copy_proper ρ g (apart g k) (proper g k));
      shared = shared;
      equal = equal;
    }

-- More clauses take nothing away

equals_more : {cs ds : List (List ℕ)} {gs : List Gate} {ρ : ℕ → ℕ} {w : ℕ} → Included cs ds → EqualsCopy cs gs ρ w → EqualsCopy ds gs ρ w
equals_more more (driven k e) = driven k e
equals_more more (wired g) = wired (holds_more more g)

module _ {cs ds : List (List ℕ)} {ρ level : ℕ → ℕ} (more : Included cs ds) where
  pub copied_more : {gs : List Gate} → Copied cs gs ρ level → Copied ds gs ρ level
  copied_more c =
      record {
        levelized = c.levelized;
        inverses = c.inverses;
        design = λ g k. holds_more more (c.design g k);
        copy = λ g k. holds_more more (c.copy g k);
        shared = c.shared;
        equal = λ w h. equals_more more (c.equal w h);
      }

  differs_more : {n x : ℕ} → Differs cs ρ level n x → Differs ds ρ level n x
  differs_more (by-xor h g) = by-xor h (holds_more more g)
  differs_more (by-and h g i j) = by-and h (holds_more more g) i j
  differs_more (by-ands h g k f i j) = by-ands h (holds_more more g) (holds_more more k) (holds_more more f) i j
  differs_more (by_or p m f) = by_or (more _ p) m (λ y i d. differs_more (f y i d))

  pub miter_more : {n : ℕ} → Miter cs ρ level n → Miter ds ρ level n
  miter_more (asserted d p) = asserted (differs_more d) (more _ p)
  miter_more (some_of f p) = some_of (λ x i. differs_more (f x i)) (more _ p)
  miter_more (opposed h g) = opposed h (holds_more more g)
