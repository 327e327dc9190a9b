-- The rules and the groupings under a renaming: what is joined in a list, its image is joined in the list of the images.
-- Assumes nothing.
use mathlib.Core.Path.{◌≡◌, refl, sym, ◌∙◌, ap, subst, subst⁻¹, subst₂}
use mathlib.Core.Logic.{◌⊎◌, inl, inr}
use mathlib.Core.Bool.{Bool, true, false}
use mathlib.Core.List.{List, [], ◌∷◌, ◌++◌, map}
use Prim.Native.Nat.{ℕ, zero, suc}
use Rattle.clauses.specs.Clause.{Present}
use Rattle.clauses.specs.Lists.{Pick, first, later}
use Rattle.clauses.proofs.Lists.{mem_map, mem_of_map}
use Rattle.clauses.proofs.Renaming.{Renaming, one_stays}
use Rattle.clauses.specs.Sign.{plus, flip}
use Rattle.gates.specs.Gate.{Input}
use Rattle.gates.proofs.Renamed.{flip_renamed, input_renamed, input_back, and_renamed, xor_renamed, ite_renamed}
use Rattle.rules.specs.Rule.{Cancels, Covers, Concludes}
use Rattle.rules.specs.Grouping.{Closure, Nothing, Next, After}

module _ (ρ σ : ℕ → ℕ) (ren : Renaming ρ σ) where
  pick_renamed : {y : ℕ} {xs ys : List ℕ} → Pick y xs ys → Pick (ρ y) (map ρ xs) (map ρ ys)
  pick_renamed first = first
  pick_renamed (later h) = later (pick_renamed h)

  map_append : (xs ys : List ℕ) → map ρ (xs ++ ys) ≡ map ρ xs ++ map ρ ys
  map_append [] ys = refl
  map_append (x ∷ xs) ys = ap (λ (t : List ℕ). ρ x ∷ t) (map_append xs ys)

  -- G' joins the images of what G joins
  module _ (G G' : ℕ → ℕ → Type 0) (up : (a b : ℕ) → G a b → G' (ρ a) (ρ b)) where
    up_constant : (b : Bool) {a : ℕ} → G a (flip b 0) → G' (ρ a) (flip b 0)
    up_constant b {a} h = subst (G' (ρ a)) (flip_renamed ρ σ ren b 0 ∙ ap (flip b) ren.zero_stays) (up _ _ h)

    up_flip : (b : Bool) {a : ℕ} (c : ℕ) → G a (flip b c) → G' (ρ a) (flip b (ρ c))
    up_flip b {a} c h = subst (G' (ρ a)) (flip_renamed ρ σ ren b c) (up _ _ h)

    cancels_renamed : {xs : List ℕ} {p : Bool} → Cancels G xs p → Cancels G' (map ρ xs) p
    cancels_renamed Cancels.none = Cancels.none
    cancels_renamed (Cancels.constant b h r) = Cancels.constant b (up_constant b h) (cancels_renamed r)
    cancels_renamed (Cancels.pair {y = y} b k h r) = Cancels.pair b (pick_renamed k) (up_flip b y h) (cancels_renamed r)

    covers_renamed : {c d : List ℕ} {l m : ℕ} → Covers G c l d m → Covers G' (map ρ c) (ρ l) (map ρ d) (ρ m)
    covers_renamed {c} {d} {l} {m} h r i = go (h (σ r) (input_back ρ σ ren r i))
      where
        go : G (σ r) 1 ⊎ ((s : ℕ) × Input d m s × G (σ r) s) → G' r 1 ⊎ ((s : ℕ) × Input (map ρ d) (ρ m) s × G' r s)
        go (inl g) = inl (subst₂ G' (ren.redo r) (one_stays ρ σ ren) (up _ _ g))
        go (inr (s, j, g)) = inr (ρ s, input_renamed ρ σ ren j, subst (λ (x : ℕ). G' x (ρ s)) (ren.redo r) (up _ _ g))

    module _ (cs ds : List (List ℕ)) (image : (c : List ℕ) → Present cs c → Present ds (map ρ c)) where
      pub concludes_renamed : {a b : ℕ} → Concludes cs G a b → Concludes ds G' (ρ a) (ρ b)
      concludes_renamed (Concludes.unit {c = c} {k = k} h m o) =
          subst⁻¹ (Concludes ds G' (ρ k)) (one_stays ρ σ ren)
          (Concludes.unit (image c h) (mem_map ρ m)
          (λ x i n. let t = mem_of_map ρ c i in subst₂ G' (sym t.is) ren.zero_stays (up _ _ (o t.of t.in_list (λ e. n (t.is ∙ ap ρ e))))))
      concludes_renamed (Concludes.empty_clause h) = subst₂ (Concludes ds G') (sym (one_stays ρ σ ren)) (sym ren.zero_stays) (Concludes.empty_clause (image [] h))
      concludes_renamed (Concludes.equal {a = a} {b = b} h k) =
          Concludes.equal {a = ρ a} {b = ρ b} (rw (← ren.inverse b) (image _ h)) (rw (← ren.inverse a) (image _ k))
      concludes_renamed (Concludes.and_false {l = l} g i h) =
          subst⁻¹ (Concludes ds G' (ρ l)) ren.zero_stays (Concludes.and_false (and_renamed ρ σ ren cs ds image g) (input_renamed ρ σ ren i) (up_constant false h))
      concludes_renamed (Concludes.and_inverses {l = l} {r = r} {s = s} g i j h) =
          subst⁻¹ (Concludes ds G' (ρ l)) ren.zero_stays
          (Concludes.and_inverses (and_renamed ρ σ ren cs ds image g) (input_renamed ρ σ ren i) (input_renamed ρ σ ren j) (subst (G' (ρ r)) (ren.inverse s) (up _ _ h)))
      concludes_renamed (Concludes.and_input {c = c} {l = l} {r = r} g i h) =
          Concludes.and_input (and_renamed ρ σ ren cs ds image g) (input_renamed ρ σ ren i) (λ s j. go s (h (σ s) (input_back ρ σ ren s j)))
        where
          go : (s : ℕ) → G (σ s) 1 ⊎ G (σ s) r → G' s 1 ⊎ G' s (ρ r)
          go s (inl x) = inl (subst₂ G' (ren.redo s) (one_stays ρ σ ren) (up _ _ x))
          go s (inr x) = inr (subst (λ (y : ℕ). G' y (ρ r)) (ren.redo s) (up _ _ x))
      concludes_renamed (Concludes.and_and g h x y) = Concludes.and_and (and_renamed ρ σ ren cs ds image g) (and_renamed ρ σ ren cs ds image h) (covers_renamed x) (covers_renamed y)
      concludes_renamed (Concludes.xor_constant {k = k} {odd = odd} {p = p} g h) =
          subst⁻¹ (Concludes ds G' (ρ k)) (flip_renamed ρ σ ren (plus odd p) 0 ∙ ap (flip (plus odd p)) ren.zero_stays)
          (Concludes.xor_constant (xor_renamed ρ σ ren cs ds image g) (cancels_renamed h))
      concludes_renamed (Concludes.xor_literals {k = k} {m = m} {odd = odd} {p = p} g h) =
          subst⁻¹ (Concludes ds G' (ρ k)) (flip_renamed ρ σ ren (plus odd p) m)
          (Concludes.xor_literals (xor_renamed ρ σ ren cs ds image g) (cancels_renamed h))
      concludes_renamed (Concludes.xor_xor {k = k} {m = m} {ks = ks} {ms = ms} {odd = o} {odd' = q} {p = p} g h r) =
          subst⁻¹ (Concludes ds G' (ρ k)) (flip_renamed ρ σ ren (plus (plus o q) p) m)
          (Concludes.xor_xor (xor_renamed ρ σ ren cs ds image g) (xor_renamed ρ σ ren cs ds image h) (rw map_append at (cancels_renamed r)))
      concludes_renamed (Concludes.ite_then g h) = Concludes.ite_then (ite_renamed ρ σ ren cs ds image g) (up_constant true h)
      concludes_renamed (Concludes.ite_else g h) = Concludes.ite_else (ite_renamed ρ σ ren cs ds image g) (up_constant false h)
      concludes_renamed (Concludes.ite_same g h) = Concludes.ite_same (ite_renamed ρ σ ren cs ds image g) (up _ _ h)
      concludes_renamed (Concludes.ite_ite g h x y z) = Concludes.ite_ite (ite_renamed ρ σ ren cs ds image g) (ite_renamed ρ σ ren cs ds image h) (up _ _ x) (up _ _ y) (up _ _ z)

  module _ (R S : ℕ → ℕ → Type 0) (up : (a b : ℕ) → R a b → S (ρ a) (ρ b)) where
    pub closure_renamed : {a b : ℕ} → Closure R a b → Closure S (ρ a) (ρ b)
    closure_renamed (Closure.base h) = Closure.base (up _ _ h)
    closure_renamed Closure.same = Closure.same
    closure_renamed (Closure.back h) = Closure.back (closure_renamed h)
    closure_renamed (Closure.chain h k) = Closure.chain (closure_renamed h) (closure_renamed k)
    closure_renamed (Closure.inverses {a = a} {b = b} h) = subst₂ (Closure S) (sym (ren.inverse a)) (sym (ren.inverse b)) (Closure.inverses (closure_renamed h))
    closure_renamed (Closure.clash {x = x} h) =
        subst₂ (Closure S) (sym (one_stays ρ σ ren)) (sym ren.zero_stays) (Closure.clash (subst (Closure S (ρ x)) (ren.inverse x) (closure_renamed h)))
    closure_renamed (Closure.collapse h) = Closure.collapse (subst₂ (Closure S) (one_stays ρ σ ren) ren.zero_stays (closure_renamed h))

  module _ (cs ds : List (List ℕ)) (image : (c : List ℕ) → Present cs c → Present ds (map ρ c)) where
    -- what is joined after n rounds, its image is joined after n rounds
    pub after_renamed : (n a b : ℕ) → After cs n a b → After ds n (ρ a) (ρ b)
    unfolding After
    after_renamed zero a b h = closure_renamed Nothing Nothing (λ x y z. z) h
    after_renamed (suc n) a b h = closure_renamed (Next cs (After cs n)) (Next ds (After ds n)) (go (after_renamed n)) h
      where
        go : ((x y : ℕ) → After cs n x y → After ds n (ρ x) (ρ y)) → (x y : ℕ) → Next cs (After cs n) x y → Next ds (After ds n) (ρ x) (ρ y)
        go ih x y (inl k) = inl (ih x y k)
        go ih x y (inr k) = inr (concludes_renamed (After cs n) (After ds n) ih cs ds image k)
