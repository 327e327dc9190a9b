-- The computed counts are the numbers of gates, and no other numbers are.
-- Assumes nothing.
use mathlib.Core.Path.{◌≡◌, refl, sym, ◌∙◌, ap}
use mathlib.Core.Logic.{◌↔◌, eq-Equivalence}
use mathlib.Core.Bool.{Bool, true, not}
use mathlib.Core.List.Memᴰ
use mathlib.Core.List.{List, ◌∷◌, map, Memᴰ}
use Prim.Native.Nat.{ℕ, ◌*◌}
use native.Mathlib.Decide.{ℕ_discrete}
use Rattle.clauses.specs.Code.{negate, net, nets_of}
use Rattle.clauses.specs.Clause.{Mem, Within, Same}
use Rattle.clauses.specs.Lists.{keep}
use Rattle.clauses.specs.Listing.{mem, Fits}
use Rattle.clauses.specs.Sign.{flip, is_inverse}
use Rattle.clauses.proofs.Lists.{and_both, both_and, not_is, mem_map, mem_of_map, keep_has, has_keep}
use Rattle.clauses.proofs.Distinct.{keep_distinct}
use Rattle.clauses.proofs.Codes.{negate_negate}
use Rattle.clauses.proofs.Clauses.{mem_in, in_mem, same_sym, present_same}
use Rattle.clauses.proofs.Choices.{sub_within, sub_unique, keep_sub}
use Rattle.clauses.proofs.Signs.{code_split}
use Rattle.gates.specs.Gate.{AndGate, XorGate}
use Rattle.gates.specs.Listing.{ands, Ite, ites}
use Rattle.gates.specs.Count.{and_count, Xor, xors, xor_count, is_plain, ite_count}
use Rattle.gates.specs.Counted.{SameWith, IsAndCount, Plain, IsXorCount, IsIteCount}
use Rattle.gates.proofs.Ands.{Inputs, input_same, and_inputs, ands_are, and_entry, pair, and_same, ands_distinct}
use Rattle.gates.proofs.Xors.{xor_same, xor_fits}
use Rattle.gates.proofs.XorsListed.{nets_distinct, net_plain, net_in, xors_are, xor_listed, xors_distinct}
use Rattle.gates.proofs.ItesListed.{ites_are, ite_entry, ites_distinct}
use Rattle.gates.proofs.Counting.{same_with, counted_only, counted_by}

-- ANDs

-- only the clause's set matters
pub and_gate_same : {cs : List (List ℕ)} {c d : List ℕ} {l : ℕ} → Same c d → AndGate cs c l → AndGate cs d l
and_gate_same {l = l} s g =
    record {
      clause = present_same (same_sym s) g.clause;
      output = s.left l g.output;
      one = g.one;
      two = g.two;
      one_in = input_same s g.one_in;
      two_in = input_same s g.two_in;
      differ = g.differ;
      pairs = λ r i. g.pairs r (input_same (same_sym s) i);
    }

-- a clause is its literal l with the inverses of the inputs
clause_set : (c : List ℕ) (l : ℕ) (inputs : List ℕ) → Mem l c → Inputs c l inputs → Same c (l ∷ map negate inputs)
clause_set c l inputs out ins = record { left = λ x k. there x k (ℕ_discrete x l); right = back }
  where
    there : (x : ℕ) → Mem x c → Dec (x ≡ l) → Mem x (l ∷ map negate inputs)
    there x k (yes e) = Memᴰ.head e
    there x k (no n) =
        Memᴰ.tail
        (Memᴰ.cast (sym (negate_negate x))
        (mem_map negate (ins.inward (negate x) (record { inverse = Memᴰ.cast (negate_negate x) k; other = λ e. n (sym (negate_negate x) ∙ e) }))))

    back : Within (l ∷ map negate inputs) c
    back x (Memᴰ.head e) = Memᴰ.cast e out
    back x (Memᴰ.tail k) = let o = mem_of_map negate inputs k in Memᴰ.cast o.is (ins.outward o.of o.in_list).inverse

pub ands_counted : (cs : List (List ℕ)) → IsAndCount cs (and_count cs)
unfolding and_count
ands_counted cs =
    counted_by pair (ands cs) (ands_distinct cs)
    (λ g k. let a = ands_are cs g k in and_gate_same (clause_set a.clause g.l g.inputs a.gate.output (and_inputs a)) a.gate)
    (λ g h k m s. and_same cs g h (ands_are cs g k) (ands_are cs h m) s.0 s.1)
    (λ p g.
    let e = and_entry g in
    (record { l = p.1; inputs = e.inputs }, e.listed, (clause_set p.0 p.1 e.inputs g.output e.ins, refl)))

-- XORs

abbrev summed : Xor → List ℕ × Bool
summed g = (g.nets, g.odd)

pub xors_counted : (v : ℕ) (cs : List (List ℕ)) → Fits v cs → IsXorCount cs (xor_count v cs)
unfolding xor_count
xors_counted v cs fit =
    counted_by summed (xors v cs) (xors_distinct v cs)
    (λ g k. let a = xors_are v cs g k in (λ w m. net_plain v w (sub_within a.sub w m), a.gate))
    (λ g h k m s i. record { nets = sub_unique (xors_are v cs g k).sub (xors_are v cs h m).sub (nets_distinct v) s.0 i; odd = s.1 i })
    (λ p h. listed p h.0 h.1)
  where
    -- the nets in the order of their numbers
    listed : (p : List ℕ × Bool) → ((w : ℕ) → Mem w p.0 → Plain w) → XorGate cs p.0 p.1 → (g : Xor) × Memᴰ g (xors v cs) × SameWith p (summed g)
    listed p plain gate = (
      record { nets = ws; odd = p.1 },
      xor_listed v cs ws p.1 (keep_sub in_p (nets_of v)) (xor_same ws gate sets (keep_distinct in_p (nets_of v) (nets_distinct v))),
      (sets, refl),
    )
      where
        in_p : ℕ → Bool
        in_p w = mem w p.0

        ws : List ℕ
        ws = keep in_p (nets_of v)

        in_nets : (x : ℕ) → Mem x p.0 → Mem x (nets_of v)
        in_nets x k =
            let b = xor_fits fit gate x k in
            Memᴰ.cast (code_split x ∙ ap (λ (t : Bool). flip t (2 * net x)) (plain x k)) (net_in v x b.0 b.1)

        sets : Same p.0 ws
        sets =
            record {
              left = λ x k. has_keep in_p (nets_of v) (in_nets x k) (in_mem p.0 k);
              right = λ x k. mem_in x p.0 (keep_has in_p (nets_of v) x k).1;
            }

-- ITEs

plain_is : (g : Ite) → is_plain g ≡ true → Plain g.l × Plain g.c
unfolding is_plain
plain_is g e =
    let t = and_both (not (is_inverse g.l)) (not (is_inverse g.c)) e in
    (not_is (is_inverse g.l) t.0, not_is (is_inverse g.c) t.1)

is-plain : (g : Ite) → Plain g.l → Plain g.c → is_plain g ≡ true
unfolding is_plain
is-plain g p q = both_and (ap not p) (ap not q)

abbrev written : Ite → ℕ × ℕ × ℕ × ℕ
written g = (g.l, g.c, g.t, g.e)

pub ites_counted : (v : ℕ) (cs : List (List ℕ)) → Fits v cs → IsIteCount cs (ite_count v cs)
unfolding ite_count
ites_counted v cs fit =
    counted_by written (keep is_plain (ites v cs)) (keep_distinct is_plain (ites v cs) (ites_distinct v cs))
    (λ g k.
    let t = keep_has is_plain (ites v cs) g k in
    let p = plain_is g t.1 in
    (p.0, p.1, ites_are v cs g t.0))
    (λ g h k m e i. record { l = (e i).0; c = (e i).1; t = (e i).2; e = (e i).3 })
    (λ q h.
    let g : Ite = record { l = q.0; c = q.1; t = q.2; e = q.3 } in
    (g, has_keep is_plain (ites v cs) (ite_entry fit h.2) (is-plain g h.0 h.1), refl))

-- The only numbers

pub and_count_only : (cs : List (List ℕ)) (n : ℕ) → IsAndCount cs n ↔ (n ≡ and_count cs)
and_count_only cs = counted_only same_with (ands_counted cs)

module _ (v : ℕ) (cs : List (List ℕ)) (fit : Fits v cs) where
  pub xor_count_only : (n : ℕ) → IsXorCount cs n ↔ (n ≡ xor_count v cs)
  xor_count_only = counted_only same_with (xors_counted v cs fit)

  pub ite_count_only : (n : ℕ) → IsIteCount cs n ↔ (n ≡ ite_count v cs)
  ite_count_only = counted_only eq-Equivalence (ites_counted v cs fit)
