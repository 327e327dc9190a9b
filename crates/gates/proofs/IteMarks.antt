-- The marks of the sides say which ITEs there are, and the number of pairs of halves how many.
-- Assumes nothing.
use mathlib.Core.Path.{◌≡◌, sym, ◌∙◌, ap, subst⁻¹}
use mathlib.Core.Logic.{◌⊎◌, inl, inr, ◌↔◌}
use mathlib.Core.Bool.{Bool, true, false, not, cond}
use mathlib.Core.List.{List, map, Memᴰ}
use Prim.Native.Nat.{ℕ, ◌+◌, ◌/◌, ◌%◌, ◌<◌}
use native.Mathlib.Omega.{arith}
use borrow.Author.Tests.{eq-eqb, ne_eqb, lt-ltb, ltb-true}
use borrow.Table.Steps.{cases}
use lib.Dec.{eqb}
use lib.ListN.{length, get_or}
use Rattle.clauses.specs.Code.{negate}
use Rattle.clauses.specs.Clause.{clauses_in, Present}
use Rattle.clauses.specs.Lists.{keep}
use Rattle.clauses.specs.Sign.{is_inverse}
use Rattle.clauses.specs.Row.{clause_at, LiteralAt, start_of, around}
use Rattle.clauses.proofs.Lists.{and_both, both_and, mem_map, mem_of_map, keep_has, has_keep, each_has, has_each}
use Rattle.clauses.proofs.Distinct.{Distinct, each_distinct, map_distinct, keep_distinct}
use Rattle.clauses.proofs.Codes.{negate_inj}
use Rattle.clauses.proofs.Signs.{is_inverse_negate}
use Rattle.clauses.proofs.Rows.{literal_some}
use Rattle.clauses.proofs.StartOf.{start_only}
use Rattle.gates.specs.Gate.{IteGate}
use Rattle.gates.specs.Counted.{Plain, PlainIte, IsIteCount}
use Rattle.gates.specs.Found.{is_and, is_select_next, is_select_after}
use Rattle.gates.specs.Normal.{Normal}
use Rattle.gates.specs.Ites.{other, is_paired, Half, all_halves, output, side, mates, is_side, side_mark, Sided, is_plain_half, pairs_of}
use Rattle.gates.proofs.Counting.{counted_by}
use Rattle.gates.proofs.Marks.{literal_inside}
use Rattle.gates.proofs.Threes.{InThree, in_three_is}
use Rattle.gates.proofs.Halves.{paired_in_three, place_inside, no_mark}
use Rattle.gates.proofs.Sides.{half_literal, half_once}
use Rattle.gates.proofs.Mates.{some_of, of_some, in_all, all_distinct, Mate, mate_is, is-mate, mate_ite, Halved, ite_halved}

-- Marks

module _ (m : ℕ) (low : m < 2) where
  next_bit : (s t : Bool) → eqb ((m + (cond s 2 0 + cond t 4 0)) / 2 % 2) 1 ≡ s
  next_bit true true = eq-eqb ((m + (2 + 4)) / 2 % 2) 1 (omega arith)
  next_bit true false = eq-eqb ((m + (2 + 0)) / 2 % 2) 1 (omega arith)
  next_bit false true = ne_eqb ((m + (0 + 4)) / 2 % 2) 1 (omega arith)
  next_bit false false = ne_eqb ((m + (0 + 0)) / 2 % 2) 1 (omega arith)

  after_bit : (s t : Bool) → eqb ((m + (cond s 2 0 + cond t 4 0)) / 4 % 2) 1 ≡ t
  after_bit true true = eq-eqb ((m + (2 + 4)) / 4 % 2) 1 (omega arith)
  after_bit true false = ne_eqb ((m + (2 + 0)) / 4 % 2) 1 (omega arith)
  after_bit false true = eq-eqb ((m + (0 + 4)) / 4 % 2) 1 (omega arith)
  after_bit false false = ne_eqb ((m + (0 + 0)) / 4 % 2) 1 (omega arith)

  and_bit : (s t : Bool) → (m + (cond s 2 0 + cond t 4 0)) % 2 ≡ m % 2
  and_bit true true = omega arith
  and_bit true false = omega arith
  and_bit false true = omega arith
  and_bit false false = omega arith

module _ {row before marks : List ℕ} (bits : (p : ℕ) → get_or before p 0 < 2) (sided : Sided row before marks) where
  select_next : (p : ℕ) → is_select_next (get_or marks p 0) ≡ is_side row (record { place = p; after = false })
  unfolding is_select_next side_mark
  select_next p = rw (sided.at p) (next_bit (get_or before p 0) (bits p) (is_side row (record { place = p; after = false })) (is_side row (record { place = p; after = true })))

  select_after : (p : ℕ) → is_select_after (get_or marks p 0) ≡ is_side row (record { place = p; after = true })
  unfolding is_select_after side_mark
  select_after p = rw (sided.at p) (after_bit (get_or before p 0) (bits p) (is_side row (record { place = p; after = false })) (is_side row (record { place = p; after = true })))

  -- the other marks are kept
  pub and_kept : (p : ℕ) → is_and (get_or marks p 0) ≡ is_and (get_or before p 0)
  unfolding is_and side_mark
  and_kept p = rw (sided.at p, and_bit (get_or before p 0) (bits p) (is_side row (record { place = p; after = false })) (is_side row (record { place = p; after = true })))

  pub end_kept : (p : ℕ) → get_or row p 0 ≡ 0 → get_or marks p 0 ≡ get_or before p 0
  end_kept p z = cases (is_paired row p) (λ t. absurd (literal (in_three_is row p (paired_in_three row p t)))) (λ t. omega (arith, sided.at p, no_mark row p t))
    where
      literal : InThree row p → ⊥
      literal t = literal_some row (start_of row p) p t.low (omega (arith, t.high, t.clause.size)) z

module _ {cs : List (List ℕ)} {row : List ℕ} (normal : Normal row) (same : (c : List ℕ) → Present cs c ↔ Present (clauses_in row) c) where
  -- a half with a mate
  side_paired : (p : ℕ) (a : Bool) → is_side row (record { place = p; after = a }) ≡ true → is_paired row p ≡ true
  unfolding is_side
  side_paired p a h = (and_both (is_paired row p) _ h).0

  side_ite : (p : ℕ) (a : Bool) → is_side row (record { place = p; after = a }) ≡ true
      → (e : ℕ) × IteGate cs (negate (other row p a)) (negate (get_or row p 0)) (other row p (not a)) e
  unfolding is_side output side
  side_ite p a h =
      let k = and_both (is_paired row p) _ h in
      let m = some_of (mates row (record { place = p; after = a })) (ltb-true _ _ k.1) in
      (side row m.0, mate_ite normal same (record { place = p; after = a }) m.0 k.0 (mate_is normal (record { place = p; after = a }) m.0 m.1))

  is-side : {l c t e : ℕ} (k : Halved normal same l c t e) → is_side row k.then_half ≡ true
  unfolding is_side
  is-side k = both_and k.paired (lt-ltb _ _ (of_some (mates row k.then_half) (is-mate normal k.then_half k.else_half k.mate)))

  module _ {before marks : List ℕ} (bits : (p : ℕ) → get_or before p 0 < 2) (sided : Sided row before marks) where
    marked_next : (p : ℕ) → is_select_next (get_or marks p 0) ≡ is_side row (record { place = p; after = false })
    marked_next = select_next bits sided

    marked_after : (p : ℕ) → is_select_after (get_or marks p 0) ≡ is_side row (record { place = p; after = true })
    marked_after = select_after bits sided

    start : (b p : ℕ) → LiteralAt row b p → start_of row p ≡ b
    start b p at = start_only row b p at.start at.low (omega (arith, at.high)) (literal_inside row b p at)

    pub select_three : (b p : ℕ) → LiteralAt row b p → (is_select_next (get_or marks p 0) ≡ true) ⊎ (is_select_after (get_or marks p 0) ≡ true) → length (clause_at row b) ≡ 3
    select_three b p at h = go h
      where
        three : is_paired row p ≡ true → length (clause_at row b) ≡ 3
        three t = rw (← start b p at) (in_three_is row p (paired_in_three row p t)).clause.size

        go : (is_select_next (get_or marks p 0) ≡ true) ⊎ (is_select_after (get_or marks p 0) ≡ true) → length (clause_at row b) ≡ 3
        go (inl e) = three (side_paired p false (sym (marked_next p) ∙ e))
        go (inr e) = three (side_paired p true (sym (marked_after p) ∙ e))

    pub next_is : (b p : ℕ) → LiteralAt row b p → is_select_next (get_or marks p 0) ≡ true
        → (e : ℕ) × IteGate cs (negate (get_or row (around b p) 0)) (negate (get_or row p 0)) (get_or row (around b (around b p)) 0) e
    unfolding other
    next_is b p at h = rw (← start b p at) (side_ite p false (sym (marked_next p) ∙ h))

    pub after_is : (b p : ℕ) → LiteralAt row b p → is_select_after (get_or marks p 0) ≡ true
        → (e : ℕ) × IteGate cs (negate (get_or row (around b (around b p)) 0)) (negate (get_or row p 0)) (get_or row (around b p) 0) e
    unfolding other
    after_is b p at h = rw (← start b p at) (side_ite p true (sym (marked_after p) ∙ h))

    abbrev FoundAt : ℕ → ℕ → ℕ → ℕ → Type 0
    FoundAt b p l t =
        ((is_select_next (get_or marks p 0) ≡ true) × (get_or row (around b p) 0 ≡ negate l) × (get_or row (around b (around b p)) 0 ≡ t))
        ⊎ ((is_select_after (get_or marks p 0) ≡ true) × (get_or row (around b (around b p)) 0 ≡ negate l) × (get_or row (around b p) 0 ≡ t))

    found_at : (p : ℕ) (a : Bool) (l t : ℕ) → is_side row (record { place = p; after = a }) ≡ true
        → other row p a ≡ negate l → other row p (not a) ≡ t → FoundAt (start_of row p) p l t
    unfolding other
    found_at p false l t h e f = inl (marked_next p ∙ h, e, f)
    found_at p true l t h e f = inr (marked_after p ∙ h, e, f)

    pub side_found : (l c t e : ℕ) → IteGate cs l c t e → (b : ℕ) × (p : ℕ) × LiteralAt row b p × (get_or row p 0 ≡ negate c) × FoundAt b p l t
    unfolding output side
    side_found l c t e g =
        let k = ite_halved normal same l c t e g in
        let p = k.then_half.place in
        let at = half_literal normal p k.paired in
        (start_of row p, p, at, k.select, found_at p k.then_half.after l t (is-side k) k.out k.then_side)

-- The count

plain_negate : (x : ℕ) → is_inverse x ≡ true → Plain (negate x)
plain_negate x e = is_inverse_negate x ∙ ap not e

negate_plain : (x y : ℕ) → y ≡ negate x → Plain x → is_inverse y ≡ true
negate_plain x y e p = ap is_inverse e ∙ is_inverse_negate x ∙ ap not p

module _ {row : List ℕ} (normal : Normal row) where
  abbrev written : Half × Half → ℕ × ℕ × ℕ × ℕ
  written (h, m) = (negate (output row h), negate (get_or row h.place 0), side row h, side row m)

  record PlainPair (q : Half × Half) : Type 0 where
    paired : is_paired row q.0.place ≡ true
    select : is_inverse (get_or row q.0.place 0) ≡ true
    out : is_inverse (output row q.0) ≡ true
    mate : Mate normal q.0 q.1

  abbrev with_mates : Half → List (Half × Half)
  with_mates h = map (λ m. (h, m)) (mates row h)

  pair_is : (q : Half × Half) → Memᴰ q (pairs_of row (all_halves row)) → PlainPair q
  unfolding pairs_of is_plain_half
  pair_is q k =
      let s = each_has (keep (is_plain_half row) (all_halves row)) with_mates k in
      let o = mem_of_map (λ m. (s.from_it, m)) (mates row s.from_it) s.gives in
      let a = (keep_has (is_plain_half row) (all_halves row) s.from_it s.listed).1 in
      let b = and_both (is_paired row s.from_it.place) _ a in
      let c = and_both (is_inverse (get_or row s.from_it.place 0)) _ b.1 in
      subst⁻¹ PlainPair o.is (record { paired = b.0; select = c.0; out = c.1; mate = mate_is normal s.from_it o.of o.in_list })

  is-pair : (q : Half × Half) → PlainPair q → Memᴰ q (pairs_of row (all_halves row))
  unfolding pairs_of is_plain_half
  is-pair q k =
      has_each with_mates
      (has_keep (is_plain_half row) (all_halves row) (in_all row q.0 (place_inside row q.0.place k.paired)) (both_and k.paired (both_and k.select k.out)))
      (mem_map (λ m. (q.0, m)) (is-mate normal q.0 q.1 k.mate))

  pairs_distinct : Distinct (pairs_of row (all_halves row))
  unfolding pairs_of mates
  pairs_distinct =
      each_distinct (keep (is_plain_half row) (all_halves row)) with_mates (keep_distinct (is_plain_half row) (all_halves row) (all_distinct row))
      (λ h k. map_distinct (λ m. (h, m)) (mates row h) (λ x y e. ap (λ (q : Half × Half). q.1) e) (keep_distinct _ (all_halves row) (all_distinct row)))
      (λ h k q i j x y.
      let o = mem_of_map (λ m. (h, m)) (mates row h) x in
      let r = mem_of_map (λ m. (k, m)) (mates row k) y in
      ap (λ (z : Half × Half). z.0) (sym o.is ∙ r.is))

  pub half_same : (h k : Half) → is_paired row h.place ≡ true → is_paired row k.place ≡ true → get_or row h.place 0 ≡ get_or row k.place 0
      → output row h ≡ output row k → side row h ≡ side row k → h ≡ k
  unfolding output side
  half_same h k p q e f g = let r = half_once normal h.place k.place h.after k.after p q e f g in λ i. record { place = r.0 i; after = r.1 i }

  written_once : (q r : Half × Half) → PlainPair q → PlainPair r → written q ≡ written r → q ≡ r
  written_once q r j k e = λ i. (first i, second i)
    where
      out : output row q.0 ≡ output row r.0
      out = negate_inj _ _ (ap (λ (x : ℕ × ℕ × ℕ × ℕ). x.0) e)

      select : get_or row q.0.place 0 ≡ get_or row r.0.place 0
      select = negate_inj _ _ (ap (λ (x : ℕ × ℕ × ℕ × ℕ). x.1) e)

      first : q.0 ≡ r.0
      first = half_same q.0 r.0 j.paired k.paired select out (ap (λ (x : ℕ × ℕ × ℕ × ℕ). x.2) e)

      second : q.1 ≡ r.1
      second =
          half_same q.1 r.1 j.mate.paired k.mate.paired (j.mate.select ∙ ap negate select ∙ sym k.mate.select) (j.mate.same ∙ out ∙ sym k.mate.same)
          (ap (λ (x : ℕ × ℕ × ℕ × ℕ). x.3) e)

module _ {cs : List (List ℕ)} {row : List ℕ} (normal : Normal row) (same : (c : List ℕ) → Present cs c ↔ Present (clauses_in row) c) where
  pub ites_many : IsIteCount cs (length (pairs_of row (all_halves row)))
  ites_many =
      counted_by (written normal) (pairs_of row (all_halves row)) (pairs_distinct normal) have (λ q r j k. written_once normal q r (pair_is normal q j) (pair_is normal r k)) every
    where
      have : (q : Half × Half) → Memᴰ q (pairs_of row (all_halves row)) → PlainIte cs (written normal q)
      have q i =
          let k = pair_is normal q i in
          (plain_negate _ k.out, plain_negate _ k.select, mate_ite normal same q.0 q.1 k.paired k.mate)

      back : (x y : ℕ) → y ≡ negate x → x ≡ negate y
      back x y e = omega arith

      every : (x : ℕ × ℕ × ℕ × ℕ) → PlainIte cs x → (q : Half × Half) × Memᴰ q (pairs_of row (all_halves row)) × (x ≡ written normal q)
      every (l, c, t, e) (p, q, g) =
          let k = ite_halved normal same l c t e g in (
            (k.then_half, k.else_half),
            is-pair normal (k.then_half, k.else_half) (record { paired = k.paired; select = negate_plain c _ k.select q; out = negate_plain l _ k.out p; mate = k.mate }),
            λ i. (back l _ k.out i, back c _ k.select i, sym k.then_side i, sym k.else_side i),
          )
