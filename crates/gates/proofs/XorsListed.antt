-- The computed lists of XORs, by their clauses and by their nets, have the XORs of the clause list and nothing else, and by its nets each once.
-- Assumes nothing.
use mathlib.Core.Path.{◌≡◌, refl, sym, ◌∙◌, ap, ap₂, subst, subst⁻¹}
use mathlib.Core.Logic.{◌⊎◌, inl, inr}
use mathlib.Core.Bool.{Bool, true, false, not, ◌&&◌, true≢false, not-not}
use mathlib.Core.List.Memᴰ
use mathlib.Core.List.{List, [], ◌∷◌, map, Memᴰ}
use Prim.Native.Nat.{ℕ, ◌*◌, ◌≤◌, ◌<◌}
use native.Mathlib.Omega.{arith}
use native.Mathlib.Nat.{le_of_suc-le-suc}
use lib.ListN.{length}
use lib.Dec.{leb}
use borrow.Author.Tests.{le-leb, leb-true}
use Rattle.clauses.specs.Code.{negate, net, nets_of}
use Rattle.clauses.specs.Clause.{Mem, Tautology, Present}
use Rattle.clauses.specs.Lists.{all, each, only, from, choose}
use Rattle.clauses.specs.Listing.{present, clause_sets}
use Rattle.clauses.specs.Sign.{plus, flip, is_inverse, parity, inverted}
use Rattle.clauses.proofs.Lists.{and_both, both_and, in_first, in_second, mem_map, mem_of_map, all_have, have_all, keep_has, has_keep, each_has, has_each, only_has, has_only, only_one, from_in, from_low}
use Rattle.clauses.proofs.Distinct.{Distinct, more, each_distinct, only_distinct, one_distinct, map_distinct, from_distinct}
use Rattle.clauses.proofs.Clauses.{present_is, is_present, present_proper, Kept, clause_sets_listed, clause_sets_kept}
use Rattle.clauses.proofs.Picks.{Perm, perm_of_same}
use Rattle.clauses.proofs.Choices.{Sub, sub_within, sub_distinct, sub_choose, choose_sub, choose_distinct}
use Rattle.clauses.proofs.Signs.{plain_of_even, is_inverse_negate, none_odd, none_inverted, change, change_same, change_parity, change_inverted}
use Rattle.gates.specs.Gate.{Apart, XorGate}
use Rattle.gates.specs.Listing.{signings, xor_clauses}
use Rattle.gates.specs.Count.{Xor, xors}
use Rattle.gates.proofs.Xors.{apart_distinct, apart_clause, xor_same}

-- Signs

-- every choice of signs is listed
inverted_signed : (f : ℕ → Bool) (ls : List ℕ) → Memᴰ (inverted f ls) (signings ls (parity f ls))
unfolding signings
inverted_signed f [] = in_first
inverted_signed f (l ∷ ls) = go (f l) refl (inverted_signed f ls)
  where
    go : (b : Bool) → f l ≡ b → Memᴰ (inverted f ls) (signings ls (parity f ls)) → Memᴰ (inverted f (l ∷ ls)) (signings (l ∷ ls) (parity f (l ∷ ls)))
    go false e ih = rw e (Memᴰ.append_left (map (λ d. negate l ∷ d) (signings ls (not (parity f ls)))) (mem_map (λ (d : List ℕ). l ∷ d) ih))
    go true e ih =
        rw e
        (Memᴰ.append_right (map (λ d. l ∷ d) (signings ls (not (parity f ls))))
        (mem_map (λ (d : List ℕ). negate l ∷ d) (subst⁻¹ (λ (b : Bool). Memᴰ (inverted f ls) (signings ls b)) (not-not (parity f ls)) ih)))

-- and what is listed is a choice of signs, where no literal stands twice
pub record Choice (ls : List ℕ) (b : Bool) (c : List ℕ) : Type 0 where
  pub signs : ℕ → Bool
  pub count : parity signs ls ≡ b
  pub makes : c ≡ inverted signs ls

chosen : (l : ℕ) (ls c : List ℕ) (b d : Bool) → (Mem l ls → ⊥) → Choice ls d c → Choice (l ∷ ls) (plus b d) (flip b l ∷ c)
chosen l ls c b d n h =
    record {
      signs = change l b h.signs;
      count = ap₂ plus (change_same l b h.signs) (change_parity l b h.signs ls n ∙ h.count);
      makes = ap₂ (λ (y : ℕ) (t : List ℕ). y ∷ t) (ap (λ (s : Bool). flip s l) (sym (change_same l b h.signs))) (h.makes ∙ sym (change_inverted l b h.signs ls n));
    }

pub signed_choice : (ls : List ℕ) → Distinct ls → (b : Bool) (c : List ℕ) → Memᴰ c (signings ls b) → Choice ls b c
unfolding signings
signed_choice [] n false c (Memᴰ.tail x7) = elim x7 [ ]
signed_choice [] n false c (Memᴰ.head e) = record { signs = λ x. false; count = refl; makes = e }
signed_choice [] n true c k = elim k [ ]
signed_choice (l ∷ ls) (more n r) b c k = go (Memᴰ.append_cases (map (λ d. l ∷ d) (signings ls b)) k) (signed_choice ls r)
  where
    go : Memᴰ c (map (λ d. l ∷ d) (signings ls b)) ⊎ Memᴰ c (map (λ d. negate l ∷ d) (signings ls (not b)))
        → ((e : Bool) (d : List ℕ) → Memᴰ d (signings ls e) → Choice ls e d) → Choice (l ∷ ls) b c
    go (inl m) ih =
        let o = mem_of_map (λ d. l ∷ d) (signings ls b) m in
        subst⁻¹ (Choice (l ∷ ls) b) o.is (chosen l ls o.of false b n (ih b o.of o.in_list))
    go (inr m) ih =
        let o = mem_of_map (λ d. negate l ∷ d) (signings ls (not b)) m in
        subst⁻¹ (Choice (l ∷ ls) b) o.is
        (subst (λ (e : Bool). Choice (l ∷ ls) e (negate l ∷ o.of)) (not-not b) (chosen l ls o.of true (not b) n (ih (not b) o.of o.in_list)))

-- an XOR is found where all its clauses pass the test
pub signed_all : (cs : List (List ℕ)) (ls : List ℕ) (odd : Bool) → all (present cs) (signings ls (not odd)) ≡ true
    → (signs : ℕ → Bool) → parity signs ls ≡ not odd → Present cs (inverted signs ls)
signed_all cs ls odd h f e =
    present_is cs (inverted f ls)
    (all_have (present cs) (signings ls (not odd)) h (inverted f ls) (subst (λ (b : Bool). Memᴰ (inverted f ls) (signings ls b)) e (inverted_signed f ls)))

pub all_signed : {cs : List (List ℕ)} {ls : List ℕ} {odd : Bool} → XorGate cs ls odd → all (present cs) (signings ls (not odd)) ≡ true
all_signed {cs} {ls} {odd} g =
    have_all (present cs) (signings ls (not odd)) (λ c m.
    let h = signed_choice ls (apart_distinct g.apart) (not odd) c m in
    is_present cs c (subst⁻¹ (Present cs) h.makes (g.all h.signs h.count)))

-- By their clauses

pub xor_clauses_are : (cs : List (List ℕ)) (c : List ℕ) → Memᴰ c (xor_clauses cs) → XorGate cs c true
unfolding xor_clauses
xor_clauses_are cs c m =
    let t = keep_has _ (clause_sets cs) c m in
    let u = clause_sets_listed cs c t.0 in
    let a = and_both (leb 3 (length c)) _ t.1 in
    let b = and_both (leb (length c) 5) _ a.1 in
    record {
      three = leb-true 3 (length c) a.0;
      five = leb-true (length c) 5 b.0;
      apart = apart_clause c u.1 (present_proper u.0);
      all = signed_all cs c true b.1;
    }

-- where an XOR is listed
pub record XorEntry (cs : List (List ℕ)) (ls : List ℕ) : Type 0 where
  pub it : List ℕ
  pub listed : Memᴰ it (xor_clauses cs)
  pub perm : Perm ls it

pub xor_entry : {cs : List (List ℕ)} {ls : List ℕ} → XorGate cs ls true → XorEntry cs ls
unfolding xor_clauses
xor_entry {cs} {ls} g =
    record {
      it = k.it;
      listed = has_keep _ (clause_sets cs) k.listed tests;
      perm = perm_of_same ls k.it (apart_distinct g.apart) distinct k.same;
    }
  where
    k : Kept cs ls
    k = clause_sets_kept (subst (Present cs) (none_inverted ls) (g.all (λ x. false) (none_odd ls)))

    distinct : Distinct k.it
    distinct = (clause_sets_listed cs k.it k.listed).1

    gate : XorGate cs k.it true
    gate = xor_same k.it g k.same distinct

    tests : (leb 3 (length k.it) && (leb (length k.it) 5 && all (present cs) (signings k.it false))) ≡ true
    tests = both_and (le-leb 3 (length k.it) gate.three) (both_and (le-leb (length k.it) 5 gate.five) (all_signed gate))

-- By their nets

pub nets_distinct : (v : ℕ) → Distinct (nets_of v)
unfolding nets_of
nets_distinct v = map_distinct (λ w. 2 * w) (from 1 v) (λ x y e. omega arith) (from_distinct 1 v)

pub net_plain : (v x : ℕ) → Mem x (nets_of v) → is_inverse x ≡ false
unfolding nets_of
net_plain v x k = let o = mem_of_map (λ w. 2 * w) (from 1 v) k in ap is_inverse o.is ∙ plain_of_even (2 * o.of) (omega arith)

pub net_in : (v x : ℕ) → 1 ≤ net x → net x ≤ v → Mem (2 * net x) (nets_of v)
unfolding nets_of
net_in v x p q = mem_map (λ w. 2 * w) (from_in 1 v (net x) p (omega arith))

-- the gate that an element of the list stands for
pub record IsXor (v : ℕ) (cs : List (List ℕ)) (g : Xor) : Type 0 where
  pub sub : Sub g.nets (nets_of v)
  pub gate : XorGate cs g.nets g.odd

sizes : from 3 3 ≡ 3 ∷ 4 ∷ 5 ∷ []
unfolding from
sizes = refl

size_bounds : (k : ℕ) → Mem k (3 ∷ 4 ∷ 5 ∷ []) → (3 ≤ k) × (k < 6)
size_bounds k m = from_low 3 3 k (subst⁻¹ (Mem k) sizes m)

size_in : (k : ℕ) → 3 ≤ k → k ≤ 5 → Mem k (3 ∷ 4 ∷ 5 ∷ [])
size_in k p q = subst (Mem k) sizes (from_in 3 3 k p (omega arith))

bool_in : (b : Bool) → Memᴰ b (true ∷ false ∷ [])
bool_in true = in_first
bool_in false = in_second

plain_apart : (v : ℕ) (ws : List ℕ) → Sub ws (nets_of v) → Apart ws
plain_apart v ws s = apart_clause ws (sub_distinct s (nets_distinct v)) proper
  where
    plain : (x : ℕ) → Mem x ws → is_inverse x ≡ false
    plain x m = net_plain v x (sub_within s x m)

    proper : ¬ Tautology ws
    proper t = true≢false (ap not (sym (plain t.lit t.plain)) ∙ sym (is_inverse_negate t.lit) ∙ plain (negate t.lit) t.inverse)

xor_is_of : (v : ℕ) (cs : List (List ℕ)) (k : ℕ) (ws : List ℕ) (odd : Bool) → Mem k (3 ∷ 4 ∷ 5 ∷ []) → Memᴰ ws (choose k (nets_of v))
    → all (present cs) (signings ws (not odd)) ≡ true → IsXor v cs (record { nets = ws; odd = odd })
xor_is_of v cs k ws odd i m h =
    let c = choose_sub k (nets_of v) ws m in
    let r = size_bounds k i in
    record {
      sub = c.sub;
      gate = record {
        three = rw c.size r.0;
        five = rw c.size (le_of_suc-le-suc r.1);
        apart = plain_apart v ws c.sub;
        all = signed_all cs ws odd h;
      };
    }

-- the list in parts
abbrev by_odd : List (List ℕ) → List ℕ → Bool → List Xor
by_odd cs ws odd = only (all (present cs) (signings ws (not odd))) (record { nets = ws; odd = odd } ∷ [])

abbrev by_nets : List (List ℕ) → List ℕ → List Xor
by_nets cs ws = each (true ∷ false ∷ []) (by_odd cs ws)

abbrev by_size : ℕ → List (List ℕ) → ℕ → List Xor
by_size v cs k = each (choose k (nets_of v)) (by_nets cs)

module _ (v : ℕ) (cs : List (List ℕ)) where
  pub xors_are : (g : Xor) → Memᴰ g (xors v cs) → IsXor v cs g
  unfolding xors
  xors_are g m =
      let s = each_has (3 ∷ 4 ∷ 5 ∷ []) (by_size v cs) m in
      let t = each_has (choose s.from_it (nets_of v)) (by_nets cs) s.gives in
      let u = each_has (true ∷ false ∷ []) (by_odd cs t.from_it) t.gives in
      let w = only_has (all (present cs) (signings t.from_it (not u.from_it))) u.gives in
      subst⁻¹ (IsXor v cs) (Memᴰ.eq_of_singleton w.1) (xor_is_of v cs s.from_it t.from_it u.from_it s.listed t.listed w.0)

  pub xor_listed : (ws : List ℕ) (odd : Bool) → Sub ws (nets_of v) → XorGate cs ws odd → Memᴰ (record { nets = ws; odd = odd }) (xors v cs)
  unfolding xors
  xor_listed ws odd s g =
      has_each (by_size v cs) (size_in (length ws) g.three g.five)
      (has_each (by_nets cs) (sub_choose s)
      (has_each (by_odd cs ws) (bool_in odd)
      (has_only (all_signed g) in_first)))

-- None twice

module _ (v : ℕ) (cs : List (List ℕ)) where
  nets_are : (ws : List ℕ) (g : Xor) → Memᴰ g (by_nets cs ws) → g.nets ≡ ws
  nets_are ws g m = let s = each_has (true ∷ false ∷ []) (by_odd cs ws) m in ap (λ (x : Xor). x.nets) (only_one _ _ s.gives).1

  size_is : (k : ℕ) (g : Xor) → Memᴰ g (by_size v cs k) → length g.nets ≡ k
  size_is k g m = let s = each_has (choose k (nets_of v)) (by_nets cs) m in ap length (nets_are s.from_it g s.gives) ∙ (choose_sub k (nets_of v) s.from_it s.listed).size

  pub xors_distinct : Distinct (xors v cs)
  unfolding xors
  xors_distinct =
      each_distinct (3 ∷ 4 ∷ 5 ∷ []) (by_size v cs) three_four_five
      (λ k i. each_distinct (choose k (nets_of v)) (by_nets cs) (choose_distinct k (nets_of v) (nets_distinct v))
      (λ ws j. each_distinct (true ∷ false ∷ []) (by_odd cs ws) two (λ b q. only_distinct _ _ (one_distinct _))
      (λ b c g p q x y. sym (ap (λ (z : Xor). z.odd) (only_one _ _ x).1) ∙ ap (λ (z : Xor). z.odd) (only_one _ _ y).1))
      (λ ws zs g p q x y. sym (nets_are ws g x) ∙ nets_are zs g y))
      (λ k l g p q x y. sym (size_is k g x) ∙ size_is l g y)
    where
      two : Distinct (true ∷ false ∷ [])
      two = more (λ k. true≢false (Memᴰ.eq_of_singleton k)) (one_distinct false)

      three_four_five : Distinct {A = ℕ} (3 ∷ 4 ∷ 5 ∷ [])
      three_four_five = subst Distinct sizes (from_distinct 3 3)
