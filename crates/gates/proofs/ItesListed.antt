-- The ways to write an ITE; and the computed list has each ITE of the clause list once in each, and nothing else.
-- Assumes nothing.
use mathlib.Core.Path.{◌≡◌, refl, sym, ◌∙◌, ap, subst⁻¹}
use mathlib.Core.Logic.{◌≢◌, ◌⊎◌, inl, inr, ◌↔◌}
use mathlib.Core.Bool.{Bool, true, false, not, cond}
use mathlib.Core.List.Memᴰ
use mathlib.Core.List.{List, [], ◌∷◌, Memᴰ}
use Prim.Native.Nat.{ℕ, ◌*◌}
use native.Mathlib.Omega.{arith}
use native.Mathlib.Decide.{ℕ_discrete}
use lib.Dec.{eqb}
use Rattle.clauses.specs.Code.{negate, net}
use Rattle.clauses.specs.Clause.{Mem, Present}
use Rattle.clauses.specs.Lists.{each, only}
use Rattle.clauses.specs.Listing.{present, Fits}
use Rattle.clauses.specs.Sign.{flip}
use Rattle.clauses.proofs.Lists.{and_both, both_and, not_eqb, eqb_not, in_first, in_second, in_third, each_has, has_each, each_elim, only_has, has_only, only_one, from_in}
use Rattle.clauses.proofs.Distinct.{Distinct, each_distinct, only_distinct, one_distinct, from_distinct}
use Rattle.clauses.proofs.Codes.{negate_negate, negate_inj}
use Rattle.clauses.proofs.Clauses.{present_is, is_present, fits_present}
use Rattle.gates.specs.Gate.{Apart, IteGate}
use Rattle.gates.specs.Listing.{Ite, literals_of, is_then, is_else, ites}

-- The ways to write an ITE

-- three literals of different nets, two by two
pub record ThreeNets (l c t : ℕ) : Type 0 where
  pub cl : net c ≢ net l
  pub tl : net t ≢ net l
  pub tc : net t ≢ net c

pub nets_apart : {l c t : ℕ} → ThreeNets l c t → Apart (l ∷ c ∷ t ∷ [])
nets_apart {l} {c} {t} f = Apart.more from_l (Apart.more from_c (Apart.more (λ m k. absurd (Memᴰ.not-nil k)) Apart.empty))
  where
    from_l : (m : ℕ) → Mem m (c ∷ t ∷ []) → net m ≢ net l
    from_l m (Memᴰ.tail (Memᴰ.tail x9)) z = elim x9 [ ]
    from_l m (Memᴰ.head q) z = f.cl (sym (ap net q) ∙ z)
    from_l m (Memᴰ.tail (Memᴰ.head q)) z = f.tl (sym (ap net q) ∙ z)

    from_c : (m : ℕ) → Mem m (t ∷ []) → net m ≢ net c
    from_c m (Memᴰ.tail x5) z = elim x5 [ ]
    from_c m (Memᴰ.head q) z = f.tc (sym (ap net q) ∙ z)

pub apart_nets : {l c t : ℕ} → Apart (l ∷ c ∷ t ∷ []) → ThreeNets l c t
apart_nets {c = c} {t = t} (Apart.more a (Apart.more b z)) = record { cl = a c in_first; tl = a t in_second; tc = b t in_first }

-- .. whatever their signs
pub apart_signs : {l c t l' c' t' : ℕ} → net l' ≡ net l → net c' ≡ net c → net t' ≡ net t → Apart (l ∷ c ∷ t ∷ []) → Apart (l' ∷ c' ∷ t' ∷ [])
apart_signs p q r a =
    let f = apart_nets a in
    nets_apart (record { cl = λ z. f.cl (sym q ∙ z ∙ p); tl = λ z. f.tl (sym r ∙ z ∙ p); tc = λ z. f.tc (sym r ∙ z ∙ q) })

-- where l, c and t are three nets, what `IteGate` asks of e is that 'e is either the same literal as t or on a fourth net'
pub same_or_fourth : {l c t e : ℕ} → Apart (l ∷ c ∷ t ∷ []) → (Apart (l ∷ c ∷ e ∷ []) × (e ≢ negate t)) ↔ ((e ≡ t) ⊎ Apart (e ∷ l ∷ c ∷ t ∷ []))
same_or_fourth {l} {c} {t} {e} a = (λ h. to (apart_nets h.0) h.1 (ℕ_discrete (net e) (net t)), from)
  where
    to : ThreeNets l c e → e ≢ negate t → Dec (net e ≡ net t) → (e ≡ t) ⊎ Apart (e ∷ l ∷ c ∷ t ∷ [])
    to f n (yes q) = inl (omega arith)
    to f n (no d) = inr (Apart.more fourth a)
      where
        fourth : (m : ℕ) → Mem m (l ∷ c ∷ t ∷ []) → net m ≢ net e
        fourth m (Memᴰ.tail (Memᴰ.tail (Memᴰ.tail x14))) z = elim x14 [ ]
        fourth m (Memᴰ.head q) z = f.tl (sym z ∙ ap net q)
        fourth m (Memᴰ.tail (Memᴰ.head q)) z = f.tc (sym z ∙ ap net q)
        fourth m (Memᴰ.tail (Memᴰ.tail (Memᴰ.head q))) z = d (sym z ∙ ap net q)

    from : (e ≡ t) ⊎ Apart (e ∷ l ∷ c ∷ t ∷ []) → Apart (l ∷ c ∷ e ∷ []) × (e ≢ negate t)
    from (inl q) = (apart_signs refl refl (ap net q) a, λ z. omega arith)
    from (inr (Apart.more h r)) =
        let f = apart_nets a in
        (nets_apart (record { cl = f.cl; tl = λ z. h l in_first (sym z); tc = λ z. h c in_second (sym z) }), λ z. h t in_third (omega arith))

-- with l, t and e inverted
pub ite_inverted : {cs : List (List ℕ)} {l c t e : ℕ} → IteGate cs l c t e → IteGate cs (negate l) c (negate t) (negate e)
ite_inverted {t = t} {e = e} g =
    record {
      then_apart = apart_signs (omega arith) refl (omega arith) g.then_apart;
      else_apart = apart_signs (omega arith) refl (omega arith) g.else_apart;
      not_inverses = λ q. g.not_inverses (negate_inj e (negate t) q);
      then_up = rw negate_negate g.then_down;
      then_down = rw (negate_negate t) g.then_up;
      else_up = rw negate_negate g.else_down;
      else_down = rw (negate_negate e) g.else_up;
    }

-- with c inverted, and t and e crossed
pub ite_crossed : {cs : List (List ℕ)} {l c t e : ℕ} → IteGate cs l c t e → IteGate cs l (negate c) e t
ite_crossed {c = c} g =
    record {
      then_apart = apart_signs refl (omega arith) refl g.else_apart;
      else_apart = apart_signs refl (omega arith) refl g.then_apart;
      not_inverses = λ q. g.not_inverses (omega arith);
      then_up = rw negate_negate g.else_up;
      then_down = rw (negate_negate c) g.else_down;
      else_up = g.then_up;
      else_down = g.then_down;
    }

-- in the way that the bits say
abbrev pub rewritten : Bool → Bool → Ite → Ite
rewritten a b g = record { l = flip a g.l; c = flip b g.c; t = flip a (cond b g.e g.t); e = flip a (cond b g.t g.e) }

-- the gate that an element of a list stands for
abbrev pub IsIte : List (List ℕ) → Ite → Type 0
IsIte cs g = IteGate cs g.l g.c g.t g.e

pub ite_rewritten : {cs : List (List ℕ)} (a b : Bool) (g : Ite) → IsIte cs g → IsIte cs (rewritten a b g)
ite_rewritten false false g h = h
ite_rewritten false true g h = ite_crossed h
ite_rewritten true false g h = ite_inverted h
ite_rewritten true true g h = ite_inverted (ite_crossed h)

-- The computed list

ite_is : (cs : List (List ℕ)) (l c t e : ℕ) → is_then cs l c t ≡ true → is_else cs l c t e ≡ true → IteGate cs l c t e
unfolding is_then is_else
ite_is cs l c t e h k =
    let a₁ = and_both (not (eqb (net c) (net l))) _ h in
    let a₂ = and_both (not (eqb (net t) (net l))) _ a₁.1 in
    let a₃ = and_both (not (eqb (net t) (net c))) _ a₂.1 in
    let a₄ = and_both (present cs (negate c ∷ negate l ∷ t ∷ [])) _ a₃.1 in
    let b₁ = and_both (not (eqb (net e) (net l))) _ k in
    let b₂ = and_both (not (eqb (net e) (net c))) _ b₁.1 in
    let b₃ = and_both (not (eqb e (negate t))) _ b₂.1 in
    let b₄ = and_both (present cs (c ∷ negate l ∷ e ∷ [])) _ b₃.1 in
    let cl = not_eqb (net c) (net l) a₁.0 in
    record {
      then_apart = nets_apart (record { cl = cl; tl = not_eqb (net t) (net l) a₂.0; tc = not_eqb (net t) (net c) a₃.0 });
      else_apart = nets_apart (record { cl = cl; tl = not_eqb (net e) (net l) b₁.0; tc = not_eqb (net e) (net c) b₂.0 });
      not_inverses = not_eqb e (negate t) b₃.0;
      then_up = present_is cs (negate c ∷ negate l ∷ t ∷ []) a₄.0;
      then_down = present_is cs (negate c ∷ l ∷ negate t ∷ []) a₄.1;
      else_up = present_is cs (c ∷ negate l ∷ e ∷ []) b₄.0;
      else_down = present_is cs (c ∷ l ∷ negate e ∷ []) b₄.1;
    }

pub ites_are : (v : ℕ) (cs : List (List ℕ)) (g : Ite) → Memᴰ g (ites v cs) → IsIte cs g
unfolding ites
ites_are v cs g m =
    each_elim (literals_of v) _ m (λ l a n. each_elim (literals_of v) _ n (λ c b o. each_elim (literals_of v) _ o (λ t d p.
    let u = only_has (is_then cs l c t) p in
    each_elim (literals_of v) _ u.1 (λ e f q.
    let w = only_one (is_else cs l c t e) _ q in
    subst⁻¹ (IsIte cs) w.1 (ite_is cs l c t e u.0 w.0)))))

literal_in : {v : ℕ} {cs : List (List ℕ)} → Fits v cs → {c : List ℕ} → Present cs c → (x : ℕ) → Mem x c → Mem x (literals_of v)
unfolding literals_of
literal_in {v} fit h x m = let t = fits_present fit h x m in from_in 2 (2 * v) x (omega arith) (omega arith)

pub ite_entry : {v : ℕ} {cs : List (List ℕ)} → Fits v cs → {l c t e : ℕ} → IteGate cs l c t e → Memᴰ (record { l = l; c = c; t = t; e = e }) (ites v cs)
unfolding ites is_then is_else
ite_entry {v} {cs} fit {l} {c} {t} {e} g =
    has_each _ (literal_in fit g.then_down l in_second)
    (has_each _ (literal_in fit g.else_up c in_first)
    (has_each _ (literal_in fit g.then_up t in_third)
    (has_only then_test
    (has_each _ (literal_in fit g.else_up e in_third)
    (has_only else_test in_first)))))
  where
    f : ThreeNets l c t
    f = apart_nets g.then_apart

    k : ThreeNets l c e
    k = apart_nets g.else_apart

    then_test : is_then cs l c t ≡ true
    then_test =
        both_and (eqb_not (net c) (net l) f.cl)
        (both_and (eqb_not (net t) (net l) f.tl)
        (both_and (eqb_not (net t) (net c) f.tc)
        (both_and (is_present cs (negate c ∷ negate l ∷ t ∷ []) g.then_up) (is_present cs (negate c ∷ l ∷ negate t ∷ []) g.then_down))))

    else_test : is_else cs l c t e ≡ true
    else_test =
        both_and (eqb_not (net e) (net l) k.tl)
        (both_and (eqb_not (net e) (net c) k.tc)
        (both_and (eqb_not e (negate t) g.not_inverses)
        (both_and (is_present cs (c ∷ negate l ∷ e ∷ []) g.else_up) (is_present cs (c ∷ l ∷ negate e ∷ []) g.else_down))))

-- None twice

module _ (v : ℕ) (cs : List (List ℕ)) where
  abbrev by_e : ℕ → ℕ → ℕ → List Ite
  by_e l c t = only (is_then cs l c t) (each (literals_of v) (λ e. only (is_else cs l c t e) (record { l = l; c = c; t = t; e = e } ∷ [])))

  abbrev by_t : ℕ → ℕ → List Ite
  by_t l c = each (literals_of v) (by_e l c)

  abbrev by_c : ℕ → List Ite
  by_c l = each (literals_of v) (by_t l)

  e_is : (l c t : ℕ) (g : Ite) → Memᴰ g (by_e l c t) → (g.l ≡ l) × (g.c ≡ c) × (g.t ≡ t)
  e_is l c t g m =
      let s = each_has (literals_of v) _ (only_has (is_then cs l c t) m).1 in
      let q = (only_one (is_else cs l c t s.from_it) _ s.gives).1 in
      (ap (λ (x : Ite). x.l) q, ap (λ (x : Ite). x.c) q, ap (λ (x : Ite). x.t) q)

  t_is : (l c : ℕ) (g : Ite) → Memᴰ g (by_t l c) → (g.l ≡ l) × (g.c ≡ c)
  t_is l c g m = let s = each_has (literals_of v) (by_e l c) m in let q = e_is l c s.from_it g s.gives in (q.0, q.1)

  c_is : (l : ℕ) (g : Ite) → Memᴰ g (by_c l) → g.l ≡ l
  c_is l g m = let s = each_has (literals_of v) (by_t l) m in (t_is l s.from_it g s.gives).0

  literals_of_distinct : Distinct (literals_of v)
  unfolding literals_of
  literals_of_distinct = from_distinct 2 (2 * v)

  pub ites_distinct : Distinct (ites v cs)
  unfolding ites
  ites_distinct =
      each_distinct (literals_of v) by_c literals_of_distinct
      (λ l i. each_distinct (literals_of v) (by_t l) literals_of_distinct
      (λ c j. each_distinct (literals_of v) (by_e l c) literals_of_distinct
      (λ t k. only_distinct (is_then cs l c t) _
      (each_distinct (literals_of v) _ literals_of_distinct
      (λ e m. only_distinct (is_else cs l c t e) _ (one_distinct _))
      (λ e d g p q x y. sym (ap (λ (z : Ite). z.e) (only_one (is_else cs l c t e) _ x).1) ∙ ap (λ (z : Ite). z.e) (only_one (is_else cs l c t d) _ y).1)))
      (λ t u g p q x y. sym (e_is l c t g x).2 ∙ (e_is l c u g y).2))
      (λ c d g p q x y. sym (t_is l c g x).1 ∙ (t_is l d g y).1))
      (λ l m g p q x y. sym (c_is l g x) ∙ c_is m g y)
