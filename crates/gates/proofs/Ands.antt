-- The computed list of ANDs has each AND of the clause list once, and nothing else.
-- Assumes nothing.
use mathlib.Core.Path.{◌≡◌, refl, sym, ◌∙◌, ap, ap₂, subst, subst⁻¹}
use mathlib.Core.Logic.{◌≢◌}
use mathlib.Core.Bool.{Bool, true, ◌&&◌}
use mathlib.Core.List.Memᴰ
use mathlib.Core.List.{List, [], ◌∷◌, map, Memᴰ}
use Prim.Native.Nat.{ℕ, suc, ◌≤◌}
use native.Mathlib.Omega.{arith}
use native.Mathlib.Nat.{not-suc-le-zero, le_of_suc-le-suc}
use lib.ListN.{length, length-map}
use lib.Dec.{leb}
use borrow.Author.Tests.{le-leb, leb-true}
use Rattle.clauses.specs.Code.{negate}
use Rattle.clauses.specs.Clause.{Mem, Same, Present}
use Rattle.clauses.specs.Lists.{all, only, Pick, picks}
use Rattle.clauses.specs.Listing.{present, clause_sets}
use Rattle.clauses.proofs.Lists.{and_both, both_and, in_first, in_second, mem_map, mem_of_map, all_have, have_all, each_has, has_each, each_elim, has_only, only_one}
use Rattle.clauses.proofs.Distinct.{Distinct, more, distinct_tail, each_distinct, only_distinct, one_distinct}
use Rattle.clauses.proofs.Codes.{negate_negate, negate_inj}
use Rattle.clauses.proofs.Clauses.{present_is, is_present, same_refl, same_sym, same_trans, Kept, clause_sets_listed, clause_sets_kept, clause_sets_once, clause_sets_distinct}
use Rattle.clauses.proofs.Picks.{Picked, picked, pick_in, pick_rest, pick_same, pick_distinct, pick_length, pick_unique, in_rest, rest_other, picks_are, are_picks, picks_distinct}
use Rattle.gates.specs.Gate.{Input, AndGate}
use Rattle.gates.specs.Listing.{And, ands}

-- rs has the inputs of the AND of c and l
pub record Inputs (c : List ℕ) (l : ℕ) (rs : List ℕ) : Type 0 where
  pub inward : (r : ℕ) → Input c l r → Mem r rs
  pub outward : (r : ℕ) → Mem r rs → Input c l r

pick_inputs : {c rest : List ℕ} {l : ℕ} → Pick l c rest → Distinct c → Inputs c l (map negate rest)
pick_inputs {c} {rest} {l} k d =
    record {
      inward = λ r i. Memᴰ.cast (sym (negate_negate r)) (mem_map negate (in_rest k (negate r) i.inverse i.other));
      outward = λ r m. let o = mem_of_map negate rest m in subst⁻¹ (Input c l) o.is (input_of o.of o.in_list);
    }
  where
    input_of : (x : ℕ) → Mem x rest → Input c l (negate x)
    input_of x m = record { inverse = rw negate_negate (pick_rest k x m); other = rw negate_negate (rest_other k d x m) }

pub input_same : {c d : List ℕ} {l r : ℕ} → Same c d → Input c l r → Input d l r
input_same {r = r} s i = record { inverse = s.left (negate r) i.inverse; other = i.other }

same_inputs : {c d rs : List ℕ} {l : ℕ} → Same c d → Inputs d l rs → Inputs c l rs
same_inputs s ins = record { inward = λ r i. ins.inward r (input_same s i); outward = λ r m. input_same (same_sym s) (ins.outward r m) }

-- two different elements, or two or more elements
pub record Two (xs : List ℕ) : Type 0 where
  pub one : ℕ
  pub two : ℕ
  pub one_in : Mem one xs
  pub two_in : Mem two xs
  pub differ : one ≢ two

some_two : (xs : List ℕ) → Distinct xs → 2 ≤ length xs → Two xs
some_two [] d h = absurd (not-suc-le-zero h)
some_two (x ∷ []) d h = absurd (not-suc-le-zero (le_of_suc-le-suc h))
some_two (x ∷ y ∷ xs) (more n d) h =
    record { one = x; two = y; one_in = in_first; two_in = in_second; differ = λ e. n (Memᴰ.head e) }

pub two_long : (xs : List ℕ) → Two xs → 2 ≤ length xs
two_long [] t = elim t.one_in [ ]
two_long (x ∷ []) t = absurd (t.differ (Memᴰ.eq_of_singleton t.one_in ∙ sym (Memᴰ.eq_of_singleton t.two_in)))
two_long (x ∷ y ∷ xs) t = omega arith

-- the gate that an element of the list stands for
pub record IsAnd (cs : List (List ℕ)) (g : And) : Type 0 where
  pub clause : List ℕ
  pub listed : Memᴰ clause (clause_sets cs)
  pub rest : List ℕ
  pub pick : Pick g.l clause rest
  pub makes : g.inputs ≡ map negate rest
  pub gate : AndGate cs clause g.l

pub and_inputs : {cs : List (List ℕ)} {g : And} (a : IsAnd cs g) → Inputs a.clause g.l g.inputs
and_inputs {cs} {g} a =
    subst⁻¹ (Inputs a.clause g.l) a.makes (pick_inputs a.pick (clause_sets_listed cs a.clause a.listed).1)

-- the test that an AND of clause c passes
abbrev and_test : List (List ℕ) → List ℕ → ℕ × List ℕ → Bool
and_test cs c p = leb 3 (length c) && all (λ k. present cs (negate p.0 ∷ negate k ∷ [])) p.1

-- the gate of a clause and one of its literals, from the pair clauses of the others
pub and_picked : {cs : List (List ℕ)} {c rest : List ℕ} {l : ℕ} → Pick l c rest → Distinct c → Present cs c → 3 ≤ length c
    → ((x : ℕ) → Mem x rest → Present cs (negate l ∷ negate x ∷ [])) → AndGate cs c l
and_picked {cs} {c} {rest} {l} i d h long pairs =
    record {
      clause = h;
      output = pick_in i;
      one = negate two.one;
      two = negate two.two;
      one_in = ins.outward (negate two.one) (mem_map negate two.one_in);
      two_in = ins.outward (negate two.two) (mem_map negate two.two_in);
      differ = λ e. two.differ (negate_inj two.one two.two e);
      pairs = λ r j. subst (λ (z : ℕ). Present cs (negate l ∷ z ∷ [])) (negate_negate r) (pairs (negate r) (in_rest i (negate r) j.inverse j.other));
    }
  where
    ins : Inputs c l (map negate rest)
    ins = pick_inputs i d

    two : Two rest
    two = some_two rest (distinct_tail (pick_distinct i d)) (go long (pick_length i))
      where
        go : 3 ≤ length c → length c ≡ suc (length rest) → 2 ≤ length rest
        go a b = omega arith

and_gate : (cs : List (List ℕ)) (c : List ℕ) → Memᴰ c (clause_sets cs) → (p : ℕ × List ℕ) → Pick p.0 c p.1 → and_test cs c p ≡ true → AndGate cs c p.0
and_gate cs c k p i h =
    let u = clause_sets_listed cs c k in
    let t = and_both (leb 3 (length c)) (all (λ x. present cs (negate p.0 ∷ negate x ∷ [])) p.1) h in
    and_picked i u.1 u.0 (leb-true 3 (length c) t.0)
    (λ x m. present_is cs (negate p.0 ∷ negate x ∷ []) (all_have (λ y. present cs (negate p.0 ∷ negate y ∷ [])) p.1 t.1 x m))

-- an element that clause c gives
abbrev and-at : (cs : List (List ℕ)) (c : List ℕ) → Memᴰ c (clause_sets cs) → (p : ℕ × List ℕ) → Memᴰ p (picks c)
    → (g : And) → Memᴰ g (only (and_test cs c p) (record { l = p.0; inputs = map negate p.1 } ∷ [])) → IsAnd cs g
and-at cs c k p i g m =
    let q = only_one (and_test cs c p) (record { l = p.0; inputs = map negate p.1 }) m in
    record {
      clause = c;
      listed = k;
      rest = p.1;
      pick = subst⁻¹ (λ (x : And). Pick x.l c p.1) q.1 (picks_are c p i);
      makes = ap (λ (x : And). x.inputs) q.1;
      gate = subst⁻¹ (λ (x : And). AndGate cs c x.l) q.1 (and_gate cs c k p (picks_are c p i) q.0);
    }

pub ands_are : (cs : List (List ℕ)) (g : And) → Memᴰ g (ands cs) → IsAnd cs g
unfolding ands
ands_are cs g m = each_elim (clause_sets cs) _ m (λ c k n. each_elim (picks c) _ n (λ p i q. and-at cs c k p i g q))

-- where the AND of c and l is listed
pub record AndEntry (cs : List (List ℕ)) (c : List ℕ) (l : ℕ) : Type 0 where
  pub inputs : List ℕ
  pub listed : Memᴰ (record { l = l; inputs = inputs }) (ands cs)
  pub ins : Inputs c l inputs

pub and_entry : {cs : List (List ℕ)} {c : List ℕ} {l : ℕ} → AndGate cs c l → AndEntry cs c l
unfolding ands
and_entry {cs} {c} {l} g =
    record {
      inputs = map negate rest;
      listed = has_each _ k.listed (has_each _ (are_picks p.pick) (has_only (both_and long pairs) in_first));
      ins = ins;
    }
  where
    k : Kept cs c
    k = clause_sets_kept g.clause

    p : Picked l k.it
    p = picked k.it (k.same.left l g.output)

    rest : List ℕ
    rest = p.rest

    ins : Inputs c l (map negate rest)
    ins = same_inputs k.same (pick_inputs p.pick (clause_sets_listed cs k.it k.listed).1)

    long : leb 3 (length k.it) ≡ true
    long =
        le-leb 3 (length k.it)
        (go (two_long (map negate rest) two) (length-map rest negate) (pick_length p.pick))
      where
        two : Two (map negate rest)
        two =
            record {
              one = g.one;
              two = g.two;
              one_in = ins.inward g.one g.one_in;
              two_in = ins.inward g.two g.two_in;
              differ = g.differ;
            }

        go : 2 ≤ length (map negate rest) → length (map negate rest) ≡ length rest → length k.it ≡ suc (length rest) → 3 ≤ length k.it
        go a b d = omega arith

    pairs : all (λ x. present cs (negate l ∷ negate x ∷ [])) rest ≡ true
    pairs = have_all _ rest (λ x m. is_present cs (negate l ∷ negate x ∷ []) (g.pairs (negate x) (ins.outward (negate x) (mem_map negate m))))

-- None twice

-- the pair of clause and l that makes an AND
abbrev pub pair : And → List ℕ × ℕ
pair g = (g.l ∷ map negate g.inputs, g.l)

negate_twice : (c : List ℕ) → map negate (map negate c) ≡ c
negate_twice [] = refl
negate_twice (x ∷ c) = ap₂ (λ (y : ℕ) (t : List ℕ). y ∷ t) (negate_negate x) (negate_twice c)

from_pair : (cs : List (List ℕ)) (g : And) (a : IsAnd cs g) → Same (pair g).0 a.clause
from_pair cs g a =
    subst⁻¹ (λ (t : List ℕ). Same (g.l ∷ t) a.clause) (ap (map negate) a.makes ∙ negate_twice a.rest) (same_sym (pick_same a.pick))

clause_same : (cs : List (List ℕ)) (g h : And) (a : IsAnd cs g) (b : IsAnd cs h) → Same (pair g).0 (pair h).0 → a.clause ≡ b.clause
clause_same cs g h a b s =
    clause_sets_once cs a.clause b.clause a.listed b.listed (same_trans (same_sym (from_pair cs g a)) (same_trans s (from_pair cs h b)))

-- a listed AND is known by the set of its clause and by l
pub and_same : (cs : List (List ℕ)) (g h : And) → IsAnd cs g → IsAnd cs h → Same (pair g).0 (pair h).0 → g.l ≡ h.l → g ≡ h
and_same cs g h a b s o = λ i. record { l = o i; inputs = inputs i }
  where
    inputs : g.inputs ≡ h.inputs
    inputs =
        a.makes
        ∙ ap (map negate)
        (pick_unique (clause_sets_listed cs b.clause b.listed).1 (subst (λ (c : List ℕ). Pick g.l c a.rest) (clause_same cs g h a b s) a.pick)
        (subst⁻¹ (λ (x : ℕ). Pick x b.clause b.rest) o b.pick))
        ∙ sym b.makes

same_pick : (cs : List (List ℕ)) (c : List ℕ) (p q : ℕ × List ℕ) (g : And) → Memᴰ c (clause_sets cs) → Memᴰ p (picks c) → Memᴰ q (picks c)
    → g ≡ record { l = p.0; inputs = map negate p.1 } → g ≡ record { l = q.0; inputs = map negate q.1 } → p ≡ q
same_pick cs c p q g i j k e f = λ z. (outs z, rests z)
  where
    outs : p.0 ≡ q.0
    outs = ap (λ (x : And). x.l) (sym e ∙ f)

    rests : p.1 ≡ q.1
    rests = pick_unique (clause_sets_listed cs c i).1 (picks_are c p j) (subst⁻¹ (λ (x : ℕ). Pick x c q.1) outs (picks_are c q k))

pub ands_distinct : (cs : List (List ℕ)) → Distinct (ands cs)
unfolding ands
ands_distinct cs =
    each_distinct (clause_sets cs) _ (clause_sets_distinct cs)
    (λ c i. each_distinct (picks c) _ (picks_distinct c (clause_sets_listed cs c i).1) (λ p j. only_distinct _ _ (one_distinct _))
    (λ p q g j k x y. same_pick cs c p q g i j k (only_one _ _ x).1 (only_one _ _ y).1))
    (λ c d g i j x y.
    let s = each_has (picks c) _ x in
    let t = each_has (picks d) _ y in
    clause_same cs g g (and-at cs c i s.from_it s.listed g s.gives) (and-at cs d j t.from_it t.listed g t.gives) (same_refl (pair g).0))
