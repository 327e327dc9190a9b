-- A renaming takes gates to gates, and keeps the three counts.
-- Assumes nothing.
use mathlib.Core.Path.{◌≡◌, refl, sym, ◌∙◌, ap, ap₂, subst, subst⁻¹, subst₂}
use mathlib.Core.Logic.{eq-Equivalence}
use mathlib.Core.Bool.{Bool, true, false, cond}
use mathlib.Core.List.Memᴰ
use mathlib.Core.List.{List, [], ◌∷◌, map}
use Prim.Native.Nat.{ℕ, ◌≤◌}
use native.Mathlib.Nat.{le_antisymm}
use lib.ListN.{length-map}
use Rattle.clauses.specs.Code.{negate, net}
use Rattle.clauses.specs.Clause.{Mem, Within, Same, Present}
use Rattle.clauses.specs.Listing.{Fits}
use Rattle.clauses.specs.Sign.{plus, flip, is_inverse, parity, inverted}
use Rattle.clauses.proofs.Lists.{in_first, mem_map, mem_of_map}
use Rattle.clauses.proofs.Picks.{perm_of_same}
use Rattle.clauses.proofs.Renaming.{Renaming, renaming_injective, nets_injective, same_back, Image, image_back}
use Rattle.clauses.proofs.Signs.{perm_parity, plus_cancel, flip_flip, net_flip, plain_flip, plain_equal}
use Rattle.gates.specs.Gate.{Input, AndGate, Apart, XorGate, IteGate}
use Rattle.gates.specs.Count.{and_count, xor_count, ite_count}
use Rattle.gates.specs.Counted.{SameWith, IsAndCount, Plain, XorSum, IsXorCount, PlainIte, IsIteCount}
use Rattle.gates.proofs.Xors.{apart_distinct, xor_resign}
use Rattle.gates.proofs.ItesListed.{ite_rewritten}
use Rattle.gates.proofs.Counting.{same_with, counted_le}
use Rattle.gates.proofs.Counted.{ands_counted, xors_counted, ites_counted}

-- a map that keeps inverses keeps signs
pub flip_image : (ρ : ℕ → ℕ) → ((a : ℕ) → ρ (negate a) ≡ negate (ρ a)) → (b : Bool) (a : ℕ) → ρ (flip b a) ≡ flip b (ρ a)
flip_image ρ inv false a = refl
flip_image ρ inv true a = inv a

-- literals of different nets stay so under a map that gives no two of these nets one name
pub apart_image : (ρ : ℕ → ℕ) {ls : List ℕ} → ((x y : ℕ) → Mem x ls → Mem y ls → net (ρ x) ≡ net (ρ y) → net x ≡ net y) → Apart ls → Apart (map ρ ls)
apart_image ρ f Apart.empty = Apart.empty
apart_image ρ f (Apart.more {l = l} {ls = ls} h r) =
    Apart.more
    (λ m k e.
    let o = mem_of_map ρ ls k in
    h o.of o.in_list (f o.of l (Memᴰ.tail o.in_list) in_first (ap net (sym o.is) ∙ e)))
    (apart_image ρ (λ x y i j. f x y (Memᴰ.tail i) (Memᴰ.tail j)) r)

module _ (ρ σ : ℕ → ℕ) (ren : Renaming ρ σ) where
  pub flip_renamed : (b : Bool) (a : ℕ) → ρ (flip b a) ≡ flip b (ρ a)
  flip_renamed = flip_image ρ ren.inverse

  apart_renamed : {ls : List ℕ} → Apart ls → Apart (map ρ ls)
  apart_renamed = apart_image ρ (λ x y i j e. nets_injective ρ σ ren x y e)

  pub input_renamed : {c : List ℕ} {l r : ℕ} → Input c l r → Input (map ρ c) (ρ l) (ρ r)
  input_renamed {c} {l} {r} h =
      record {
        inverse = Memᴰ.cast (sym (ren.inverse r)) (mem_map ρ h.inverse);
        other = λ e. h.other (renaming_injective ρ σ ren (ren.inverse r ∙ e));
      }

  -- an input of the image is the image of an input
  pub input_back : {c : List ℕ} {l : ℕ} (r : ℕ) → Input (map ρ c) (ρ l) r → Input c l (σ r)
  input_back {c} {l} r h =
      let o = mem_of_map ρ c h.inverse in
      let e : negate (σ r) ≡ o.of = renaming_injective ρ σ ren (ren.inverse (σ r) ∙ ap negate (ren.redo r) ∙ o.is) in
      record { inverse = Memᴰ.cast e o.in_list; other = λ q. h.other (sym (ap negate (ren.redo r)) ∙ sym (ren.inverse (σ r)) ∙ ap ρ q) }

  parity_renamed : (g : ℕ → Bool) (ls : List ℕ) → parity (λ x. g (ρ x)) ls ≡ parity g (map ρ ls)
  parity_renamed g [] = refl
  parity_renamed g (l ∷ ls) = ap (plus (g (ρ l))) (parity_renamed g ls)

  inverted_renamed : (g : ℕ → Bool) (ls : List ℕ) → map ρ (inverted (λ x. g (ρ x)) ls) ≡ inverted g (map ρ ls)
  inverted_renamed g [] = refl
  inverted_renamed g (l ∷ ls) = ap₂ (λ (y : ℕ) (t : List ℕ). y ∷ t) (flip_renamed (g (ρ l)) l) (inverted_renamed g ls)

  module _ (cs ds : List (List ℕ)) (image : (c : List ℕ) → Present cs c → Present ds (map ρ c)) where
    pub and_renamed : {c : List ℕ} {l : ℕ} → AndGate cs c l → AndGate ds (map ρ c) (ρ l)
    and_renamed {c} {l} g =
        record {
          clause = image c g.clause;
          output = mem_map ρ g.output;
          one = ρ g.one;
          two = ρ g.two;
          one_in = input_renamed g.one_in;
          two_in = input_renamed g.two_in;
          differ = λ e. g.differ (renaming_injective ρ σ ren e);
          pairs = λ r h. subst₂ (λ (x y : ℕ). Present ds (x ∷ y ∷ [])) (ren.inverse l) (ren.redo r) (image _ (g.pairs (σ r) (input_back r h)));
        }

    pub xor_renamed : {ls : List ℕ} {odd : Bool} → XorGate cs ls odd → XorGate ds (map ρ ls) odd
    xor_renamed {ls} g =
        record {
          three = subst⁻¹ (λ (n : ℕ). 3 ≤ n) (length-map ls ρ) g.three;
          five = subst⁻¹ (λ (n : ℕ). n ≤ 5) (length-map ls ρ) g.five;
          apart = apart_renamed g.apart;
          all = λ f h. subst (Present ds) (inverted_renamed f ls) (image _ (g.all (λ x. f (ρ x)) (parity_renamed f ls ∙ h)));
        }

    pub ite_renamed : {l c t e : ℕ} → IteGate cs l c t e → IteGate ds (ρ l) (ρ c) (ρ t) (ρ e)
    ite_renamed {l} {c} {t} {e} g =
        record {
          then_apart = apart_renamed g.then_apart;
          else_apart = apart_renamed g.else_apart;
          not_inverses = λ q. g.not_inverses (renaming_injective ρ σ ren (q ∙ sym (ren.inverse t)));
          then_up = rw (← ren.inverse c, ← ren.inverse l) (image _ g.then_up);
          then_down = rw (← ren.inverse c, ← ren.inverse t) (image _ g.then_down);
          else_up = rw (← ren.inverse l) (image _ g.else_up);
          else_down = rw (← ren.inverse e) (image _ g.else_down);
        }

-- The three counts

module _ (ρ σ : ℕ → ℕ) (ren : Renaming ρ σ) (cs ds : List (List ℕ)) (image : (c : List ℕ) → Present cs c → Present ds (map ρ c)) where
  ands_le : {n m : ℕ} → IsAndCount cs n → IsAndCount ds m → n ≤ m
  ands_le =
      counted_le same_with same_with (λ (p : List ℕ × ℕ). (map ρ p.0, ρ p.1)) (λ p g. and_renamed ρ σ ren cs ds image g)
      (λ p q g h s. (same_back ρ σ ren p.0 q.0 s.0, renaming_injective ρ σ ren s.1))

  -- a plain net is known by the net of its image
  plain_back : (x y : ℕ) → Plain x → Plain y → flip (is_inverse (ρ x)) (ρ x) ≡ flip (is_inverse (ρ y)) (ρ y) → x ≡ y
  plain_back x y p q e = plain_equal x y p q (nets_injective ρ σ ren x y (sym (net_flip (is_inverse (ρ x)) (ρ x)) ∙ ap net e ∙ net_flip (is_inverse (ρ y)) (ρ y)))

  -- the images' nets, with the sum that they have
  abbrev moved_sum : List ℕ × Bool → List ℕ × Bool
  moved_sum (ws, odd) = (inverted is_inverse (map ρ ws), plus (parity is_inverse (map ρ ws)) odd)

  sum_moves : (p : List ℕ × Bool) → XorSum cs p → XorSum ds (moved_sum p)
  sum_moves (ws, odd) (plain, g) = (plain', xor_resign (map ρ ws) odd is_inverse (xor_renamed ρ σ ren cs ds image g))
    where
      plain' : (x : ℕ) → Mem x (inverted is_inverse (map ρ ws)) → Plain x
      plain' x k = let o = mem_of_map (λ (y : ℕ). flip (is_inverse y) y) (map ρ ws) k in subst⁻¹ Plain o.is (plain_flip o.of)

  nets_back : (ws zs : List ℕ) → ((w : ℕ) → Mem w ws → Plain w) → ((w : ℕ) → Mem w zs → Plain w)
      → Within (inverted is_inverse (map ρ ws)) (inverted is_inverse (map ρ zs)) → Within ws zs
  nets_back ws zs p q h x k =
      let o = mem_of_map (λ (y : ℕ). flip (is_inverse y) y) (map ρ zs) (h (flip (is_inverse (ρ x)) (ρ x)) (mem_map (λ (y : ℕ). flip (is_inverse y) y) (mem_map ρ k))) in
      let u = mem_of_map ρ zs o.in_list in
      Memᴰ.cast (plain_back x u.of (p x k) (q u.of u.in_list) (o.is ∙ ap (λ (y : ℕ). flip (is_inverse y) y) u.is)) u.in_list

  sum_back : (p q : List ℕ × Bool) → XorSum cs p → XorSum cs q → SameWith (moved_sum p) (moved_sum q) → SameWith p q
  sum_back (ws, odd) (zs, odd') (p, g) (q, h) (s, e) =
      (sets, sym (plus_cancel (parity is_inverse (map ρ ws)) odd) ∙ ap (plus (parity is_inverse (map ρ ws))) (e ∙ ap (λ (b : Bool). plus b odd') (sym signs)) ∙ plus_cancel (parity is_inverse (map ρ ws)) odd')
    where
      sets : Same ws zs
      sets = record { left = nets_back ws zs p q s.left; right = nets_back zs ws q p s.right }

      signs : parity is_inverse (map ρ ws) ≡ parity is_inverse (map ρ zs)
      signs =
          sym (parity_renamed ρ σ ren is_inverse ws) ∙ perm_parity (λ x. is_inverse (ρ x)) (perm_of_same ws zs (apart_distinct g.apart) (apart_distinct h.apart) sets)
          ∙ parity_renamed ρ σ ren is_inverse zs

  xors_le : {n m : ℕ} → IsXorCount cs n → IsXorCount ds m → n ≤ m
  xors_le = counted_le same_with same_with moved_sum sum_moves sum_back

  -- the image, written with l and c as plain nets
  abbrev moved_ite : ℕ × ℕ × ℕ × ℕ → ℕ × ℕ × ℕ × ℕ
  moved_ite (l, c, t, e) =
      let a = is_inverse (ρ l) in
      let b = is_inverse (ρ c) in
      (flip a (ρ l), flip b (ρ c), flip a (cond b (ρ e) (ρ t)), flip a (cond b (ρ t) (ρ e)))

  ite_moves : (q : ℕ × ℕ × ℕ × ℕ) → PlainIte cs q → PlainIte ds (moved_ite q)
  ite_moves (l, c, t, e) (p, q, g) = (plain_flip (ρ l), plain_flip (ρ c), ite_rewritten (is_inverse (ρ l)) (is_inverse (ρ c)) (record { l = ρ l; c = ρ c; t = ρ t; e = ρ e }) (ite_renamed ρ σ ren cs ds image g))

  flip_inj : (a : Bool) (x y : ℕ) → flip a (ρ x) ≡ flip a (ρ y) → x ≡ y
  flip_inj a x y e = renaming_injective ρ σ ren (sym (flip_flip a (ρ x)) ∙ ap (flip a) e ∙ flip_flip a (ρ y))

  branches : (a b : Bool) (t e u f : ℕ) → flip a (cond b (ρ e) (ρ t)) ≡ flip a (cond b (ρ f) (ρ u)) → flip a (cond b (ρ t) (ρ e)) ≡ flip a (cond b (ρ u) (ρ f))
      → (t ≡ u) × (e ≡ f)
  branches a false t e u f p q = (flip_inj a t u p, flip_inj a e f q)
  branches a true t e u f p q = (flip_inj a t u q, flip_inj a e f p)

  ite_back : (g h : ℕ × ℕ × ℕ × ℕ) → PlainIte cs g → PlainIte cs h → moved_ite g ≡ moved_ite h → g ≡ h
  ite_back (l, c, t, e) (m, d, u, f) (pl, pc, _) (pm, pd, _) q = λ i. (outs i, tests i, rest.0 i, rest.1 i)
    where
      outs : l ≡ m
      outs = plain_back l m pl pm (λ i. (q i).0)

      tests : c ≡ d
      tests = plain_back c d pc pd (λ i. (q i).1)

      rest : (t ≡ u) × (e ≡ f)
      rest =
          branches (is_inverse (ρ l)) (is_inverse (ρ c)) t e u f
          ((λ i. (q i).2) ∙ ap₂ (λ (x y : ℕ). flip (is_inverse (ρ x)) (cond (is_inverse (ρ y)) (ρ f) (ρ u))) (sym outs) (sym tests))
          ((λ i. (q i).3) ∙ ap₂ (λ (x y : ℕ). flip (is_inverse (ρ x)) (cond (is_inverse (ρ y)) (ρ u) (ρ f))) (sym outs) (sym tests))

  ites_le : {n m : ℕ} → IsIteCount cs n → IsIteCount ds m → n ≤ m
  ites_le = counted_le eq-Equivalence eq-Equivalence moved_ite ite_moves ite_back

module _ (v : ℕ) (ρ σ : ℕ → ℕ) (cs ds : List (List ℕ)) (im : Image ρ σ cs ds) where
  abbrev back : Image σ ρ ds cs
  back = image_back im

  pub and_count_renamed : and_count cs ≡ and_count ds
  and_count_renamed =
      le_antisymm (ands_le ρ σ im.ren cs ds im.forth (ands_counted cs) (ands_counted ds))
      (ands_le σ ρ back.ren ds cs back.forth (ands_counted ds) (ands_counted cs))

  pub xor_count_renamed : Fits v cs → Fits v ds → xor_count v cs ≡ xor_count v ds
  xor_count_renamed p q =
      le_antisymm (xors_le ρ σ im.ren cs ds im.forth (xors_counted v cs p) (xors_counted v ds q))
      (xors_le σ ρ back.ren ds cs back.forth (xors_counted v ds q) (xors_counted v cs p))

  pub ite_count_renamed : Fits v cs → Fits v ds → ite_count v cs ≡ ite_count v ds
  ite_count_renamed p q =
      le_antisymm (ites_le ρ σ im.ren cs ds im.forth (ites_counted v cs p) (ites_counted v ds q))
      (ites_le σ ρ back.ren ds cs back.forth (ites_counted v ds q) (ites_counted v cs p))
