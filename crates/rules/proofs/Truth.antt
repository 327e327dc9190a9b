-- Groupings tell the truth: an assignment that satisfies every clause gives joined literals one value.
-- Assumes nothing.
use mathlib.Core.Path.{◌≡◌, refl, sym, ◌∙◌, ap, ap₂, subst, subst⁻¹}
use mathlib.Core.Logic.{◌⊎◌, inl, inr}
use mathlib.Core.Bool.{Bool, true, false, not, cond, true≢false, false≢true, not-not}
use mathlib.Core.List.{List}
use Prim.Native.Nat.{ℕ, zero, suc, ◌*◌, ◌<◌}
use native.Mathlib.Decide.{ℕ_discrete}
use lib.ListN.{get_or}
use Rattle.clauses.specs.Code.{negate}
use Rattle.clauses.specs.Clause.{Present}
use Rattle.clauses.specs.Listing.{present}
use Rattle.clauses.proofs.Lists.{all_have}
use Rattle.clauses.proofs.Codes.{negate_negate}
use Rattle.clauses.proofs.Clauses.{present_is}
use Rattle.clauses.specs.Sign.{plus, flip, parity}
use Rattle.gates.specs.Gate.{Input, AndGate, XorGate, IteGate}
use Rattle.gates.specs.Listing.{signings}
use Rattle.clauses.proofs.Signs.{plus_false, plus_self, plus_cancel, plus_comm, plus_assoc, parity_pick, parity_append}
use Rattle.gates.proofs.XorsListed.{all_signed}
use Rattle.rules.specs.Rule.{Cancels, Covers, Concludes}
use Rattle.rules.specs.Grouping.{Closure, Nothing, Next, After}
use Rattle.rules.specs.Ending.{Clash}
use Rattle.rules.specs.Answer.{lead_of}
use Rattle.rules.specs.Compute.{Closed}
use Rattle.clauses.specs.Assignment.{Assignment, True, Satisfies}
use Rattle.rules.proofs.Endings.{ends_clash}
use Rattle.rules.proofs.Encodings.{rest_true, only_true, inverse_is, equal_says, xor_says, ite_says}
use Rattle.rules.proofs.Closing.{Ran, with_row, with_none, entry}

-- what G joins has one value
abbrev pub Respects : (ℕ → Bool) → (ℕ → ℕ → Type 0) → Type 0
Respects value G = (a b : ℕ) → G a b → value a ≡ value b

pub not_self : (b : Bool) → b ≡ not b → ⊥
not_self true e = true≢false e
not_self false e = false≢true e

-- a summand by the sum and the other
solve : (a s o p : Bool) → plus a s ≡ o → s ≡ p → a ≡ plus o p
solve a s o p e f = sym (sym (plus_assoc a p p) ∙ ap (plus a) (plus_self p) ∙ plus_false a) ∙ ap (λ (x : Bool). plus x p) (ap (plus a) (sym f) ∙ e)

cond_same : (c t : Bool) → cond c t t ≡ t
cond_same false t = refl
cond_same true t = refl

module _ (value : ℕ → Bool) (asg : Assignment value) where
  at_flip : (b : Bool) (c : ℕ) → value (flip b c) ≡ plus b (value c)
  at_flip false c = refl
  at_flip true c = asg.inverse c

  one_true : value 1 ≡ true
  one_true = asg.inverse 0 ∙ ap not asg.zero_false

  at_constant : (b : Bool) → value (flip b 0) ≡ b
  at_constant b = at_flip b 0 ∙ ap (plus b) asg.zero_false ∙ plus_false b

  module _ (G : ℕ → ℕ → Type 0) (resp : Respects value G) where
    cancels_true : {xs : List ℕ} {p : Bool} → Cancels G xs p → parity value xs ≡ p
    cancels_true Cancels.none = refl
    cancels_true (Cancels.constant {x = x} b h r) = ap₂ plus (resp x (flip b 0) h ∙ at_constant b) (cancels_true r)
    cancels_true (Cancels.pair {x = x} {y = y} {ys = ys} {p = p} b k h r) =
        ap₂ plus (resp x (flip b y) h ∙ at_flip b y) (parity_pick value k ∙ ap (plus (value y)) (cancels_true r))
        ∙ drop b (value y) p
      where
        drop : (b c p : Bool) → plus (plus b c) (plus c p) ≡ plus b p
        drop b c p = sym (plus_assoc b c (plus c p)) ∙ ap (plus b) (plus_cancel c p)

  module _ (cs : List (List ℕ)) (sat : Satisfies value cs) where
    pub true_in : {c : List ℕ} → Present cs c → True value c
    true_in h =
        let t = sat h.found h.listed in
        record { lit = t.lit; listed = h.same.right t.lit t.listed; holds = t.holds }

    xor_sum : {ls : List ℕ} {odd : Bool} → XorGate cs ls odd → parity value ls ≡ odd
    xor_sum {ls} {odd} g =
        xor_says value asg ls (not odd) (λ c k. true_in (present_is cs c (all_have (present cs) (signings ls (not odd)) (all_signed g) c k))) ∙ not-not odd

    ite_value : {l c t e : ℕ} → IteGate cs l c t e → value l ≡ cond (value c) (value t) (value e)
    ite_value {l} {c} {t} {e} g = ite_says value asg l c t e (true_in g.then_up) (true_in g.then_down) (true_in g.else_up) (true_in g.else_down)

    -- the output of an AND is true exactly when all its inputs are
    and_down : {c : List ℕ} {l r : ℕ} → AndGate cs c l → Input c l r → value l ≡ true → value r ≡ true
    and_down {r = r} g i e = only_true value asg (rest_true value asg (true_in (g.pairs r i)) (inverse_is value asg e))

    and_up : {c : List ℕ} {l : ℕ} → AndGate cs c l → ((r : ℕ) → Input c l r → value r ≡ true) → value l ≡ true
    and_up {c} {l} g h = go (true_in g.clause)
      where
        go : True value c → value l ≡ true
        go t = pick (ℕ_discrete t.lit l)
          where
            pick : Dec (t.lit ≡ l) → value l ≡ true
            pick (yes e) = sym (ap value e) ∙ t.holds
            pick (no n) =
                let i : Input c l (negate t.lit) = record { inverse = rw negate_negate t.listed; other = rw negate_negate n } in
                absurd (false≢true (sym (asg.inverse t.lit ∙ ap not t.holds) ∙ h (negate t.lit) i))

    -- two outputs or inputs that are true together are equal
    together : (a b : ℕ) → (value a ≡ true → value b ≡ true) → (value b ≡ true → value a ≡ true) → value a ≡ value b
    together a b f g = go (value a) (value b) refl refl
      where
        go : (x y : Bool) → value a ≡ x → value b ≡ y → value a ≡ value b
        go true y p q = p ∙ sym (f p)
        go false true p q = g q ∙ sym q
        go false false p q = p ∙ sym q

    module _ (G : ℕ → ℕ → Type 0) (resp : Respects value G) where
      input_true : (r : ℕ) → G r 1 → value r ≡ true
      input_true r h = resp r 1 h ∙ one_true

      covered : {c d : List ℕ} {l m : ℕ} → AndGate cs d m → Covers G c l d m → AndGate cs c l → value m ≡ true → value l ≡ true
      covered {c} {d} {l} {m} h x g e = and_up g (λ r i. go r (x r i))
        where
          go : (r : ℕ) → G r 1 ⊎ ((s : ℕ) × Input d m s × G r s) → value r ≡ true
          go r (inl k) = input_true r k
          go r (inr (s, j, k)) = resp r s k ∙ and_down h j e

      pub concludes_true : {a b : ℕ} → Concludes cs G a b → value a ≡ value b
      concludes_true (Concludes.unit {c = c} {k = k} h m o) = go (true_in h)
        where
          go : True value c → value k ≡ value 1
          go t = pick (ℕ_discrete t.lit k)
            where
              pick : Dec (t.lit ≡ k) → value k ≡ value 1
              pick (yes e) = sym (ap value e) ∙ t.holds ∙ sym one_true
              pick (no n) = absurd (false≢true (sym (resp t.lit 0 (o t.lit t.listed n) ∙ asg.zero_false) ∙ t.holds))
      concludes_true (Concludes.empty_clause h) = elim (true_in h).listed [ ]
      concludes_true (Concludes.equal {a = a} {b = b} h k) = equal_says value asg a b (true_in k) (true_in h)
      concludes_true (Concludes.and_false {l = l} {r = r} g i h) =
          together l 0
          (λ e. absurd (false≢true (sym (resp r 0 h ∙ asg.zero_false) ∙ and_down g i e)))
          (λ e. absurd (false≢true (sym asg.zero_false ∙ e)))
      concludes_true (Concludes.and_inverses {l = l} {r = r} {s = s} g i j h) =
          together l 0
          (λ e. absurd (not_self (value s) (and_down g j e ∙ sym (and_down g i e) ∙ resp r (negate s) h ∙ asg.inverse s)))
          (λ e. absurd (false≢true (sym asg.zero_false ∙ e)))
      concludes_true (Concludes.and_input {c = c} {l = l} {r = r} g i h) =
          together l r (and_down g i) (λ e. and_up g (λ s j. go s e (h s j)))
        where
          go : (s : ℕ) → value r ≡ true → G s 1 ⊎ G s r → value s ≡ true
          go s e (inl k) = input_true s k
          go s e (inr k) = resp s r k ∙ e
      concludes_true (Concludes.and_and {l = l} {m = m} g h x y) = together l m (λ e. covered g y h e) (λ e. covered h x g e)
      concludes_true (Concludes.xor_constant {k = k} {ks = ks} {odd = odd} {p = p} g h) =
          solve (value k) (parity value ks) odd p (xor_sum g) (cancels_true G resp h) ∙ sym (at_constant (plus odd p))
      concludes_true (Concludes.xor_literals {k = k} {m = m} {ks = ks} {odd = odd} {p = p} g h) =
          solve (value k) (plus (value m) (parity value ks)) odd (plus (value m) p) (xor_sum g) (ap (plus (value m)) (cancels_true G resp h))
          ∙ ap (plus odd) (plus_comm (value m) p) ∙ plus_assoc odd p (value m) ∙ sym (at_flip (plus odd p) m)
      concludes_true (Concludes.xor_xor {k = k} {m = m} {ks = ks} {ms = ms} {odd = o} {odd' = q} {p = p} g h r) =
          solve (value k) (parity value ks) o (plus (plus q p) (value m)) (xor_sum g) rest
          ∙ plus_assoc o (plus q p) (value m) ∙ ap (λ (x : Bool). plus x (value m)) (plus_assoc o q p)
          ∙ sym (at_flip (plus (plus o q) p) m)
        where
          rest : parity value ks ≡ plus (plus q p) (value m)
          rest =
              solve (parity value ks) (parity value ms) p (plus q (value m)) (sym (parity_append value ks ms) ∙ cancels_true G resp r)
              (solve (parity value ms) (value m) q (value m) (plus_comm (parity value ms) (value m) ∙ xor_sum h) refl)
              ∙ plus_assoc p q (value m) ∙ ap (λ (x : Bool). plus x (value m)) (plus_comm p q)
      concludes_true (Concludes.ite_then {c = c} {t = t} {e = e} g h) = ite_value g ∙ ap (λ (b : Bool). cond b (value t) (value e)) (input_true c h)
      concludes_true (Concludes.ite_else {c = c} {t = t} {e = e} g h) = ite_value g ∙ ap (λ (b : Bool). cond b (value t) (value e)) (resp c 0 h ∙ asg.zero_false)
      concludes_true (Concludes.ite_same {c = c} {t = t} {e = e} g h) = ite_value g ∙ ap (cond (value c) (value t)) (sym (resp t e h)) ∙ cond_same (value c) (value t)
      concludes_true (Concludes.ite_ite {c = c} {t = t} {e = e} {d = d} {u = u} {f = f} g h x y z) =
          let p = resp c d x in
          let q = resp t u y in
          let r = resp e f z in
          let i = ite_value g in
          let j = ite_value h in cc

  closure_true : (S : ℕ → ℕ → Type 0) → Respects value S → {a b : ℕ} → Closure S a b → value a ≡ value b
  closure_true S h (Closure.base s) = h _ _ s
  closure_true S h Closure.same = refl
  closure_true S h (Closure.back r) = sym (closure_true S h r)
  closure_true S h (Closure.chain r s) = closure_true S h r ∙ closure_true S h s
  closure_true S h (Closure.inverses {a = a} {b = b} r) = asg.inverse a ∙ ap not (closure_true S h r) ∙ sym (asg.inverse b)
  closure_true S h (Closure.clash {x = x} r) = absurd (not_self (value x) (closure_true S h r ∙ asg.inverse x))
  closure_true S h (Closure.collapse r) = absurd (true≢false (sym one_true ∙ closure_true S h r ∙ asg.zero_false))

  -- joined literals have one value
  pub after_true : (cs : List (List ℕ)) → Satisfies value cs → (n : ℕ) → Respects value (After cs n)
  unfolding After
  after_true cs sat zero a b h = closure_true Nothing (λ x y z. absurd z) h
  after_true cs sat (suc n) a b h = closure_true (Next cs (After cs n)) (go (after_true cs sat n)) h
    where
      go : Respects value (After cs n) → Respects value (Next cs (After cs n))
      go ih x y (inl k) = ih x y k
      go ih x y (inr k) = concludes_true cs sat (After cs n) ih k

  -- where an assignment satisfies the list, T and F are not joined
  pub satisfied_apart : (cs : List (List ℕ)) → Satisfies value cs → (n : ℕ) → ¬ Clash cs n
  satisfied_apart cs sat n h = true≢false (sym one_true ∙ after_true cs sat n 1 0 h ∙ asg.zero_false)

-- each net has the value of its lead
pub ran_true : {v : ℕ} {cs : List (List ℕ)} {limit : ℕ} (value : ℕ → Bool) → Assignment value → Satisfies value cs
    → {r : Closed} → Ran v cs limit r → (i : ℕ) → i < v → value (2 * suc i) ≡ value (get_or r.leads i 0)
ran_true {cs = cs} value asg sat (with_row {n = n} {l = l} d e row) i h =
    after_true value asg cs sat n (2 * suc i) (get_or l i 0)
    (subst (After cs n (2 * suc i)) (entry l i 0 (subst⁻¹ (λ (k : ℕ). i < k) row.size h))
    (row.rep.sound (2 * suc i) (lead_of l (2 * suc i)) (sym (row.rep.canonical.again (2 * suc i)))))
ran_true {cs = cs} value asg sat (with_none {n = n} e) i h = absurd (satisfied_apart value asg cs sat n (ends_clash e 1 0))
