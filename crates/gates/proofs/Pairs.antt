-- The marks of the clauses of two literals whose inverses are a clause too.
-- Assumes nothing.
use mathlib.Core.Path.{◌≡◌, sym, ◌∙◌, ap}
use mathlib.Core.Logic.{◌≢◌, ◌↔◌}
use mathlib.Core.Bool.{true, false, cond}
use mathlib.Core.List.Memᴰ
use mathlib.Core.List.{List, [], ◌∷◌, map}
use Prim.Native.Nat.{ℕ, ◌+◌, ◌≤◌, ◌<◌}
use native.Mathlib.Numerals.{add-one}
use native.Mathlib.Omega.{arith}
use native.Mathlib.Decide.{ℕ_discrete, dec_lt}
use lib.Dec.{eqb}
use lib.ListN.{length, get_or, set, length-set}
use lib.Seq.{get_or-set_same, get_or-set_other}
use borrow.Author.Tests.{eq-eqb, ne_eqb, eqb-true}
use Rattle.clauses.specs.Code.{negate}
use Rattle.clauses.specs.Clause.{Within, Same, Present, clauses_in}
use Rattle.clauses.specs.Lists.{from}
use Rattle.clauses.specs.Listing.{present}
use Rattle.clauses.specs.Row.{clause_at, Starts}
use Rattle.clauses.proofs.Lists.{and_both, both_and, mem_map, mem_of_map}
use Rattle.clauses.proofs.Clauses.{present_is, is_present, present_same, same_sym}
use Rattle.clauses.proofs.Picks.{perm_of_same, perm_length}
use Rattle.clauses.proofs.Rows.{literal_some, clause_ended, clause_listed}
use Rattle.clauses.proofs.StartOf.{start_only}
use Rattle.gates.specs.Normal.{Normal}
use Rattle.gates.specs.Mark.{marks_pair, pair_at, Pairing}
use Rattle.gates.specs.Mask.{masked}
use Rattle.gates.proofs.Masks.{masked_two}
use Rattle.gates.proofs.Firsts.{first_of}
use Rattle.gates.proofs.Marks.{clause_distinct}
use Rattle.gates.proofs.Queries.{two_distinct}

module _ (row : List ℕ) where
  clause_two : (b : ℕ) → length (clause_at row b) ≡ 2 → clause_at row b ≡ get_or row b 0 ∷ get_or row (b + 1) 0 ∷ []
  unfolding from
  clause_two b e = rw add-one (clause_listed row 2 b e)

  -- told by the search for the inverses
  pub pair_by : (b : ℕ) → length (clause_at row b) ≡ 2 → marks_pair row b ≡ present (clauses_in row) (masked 3 (clause_at row b))
  unfolding marks_pair
  pair_by b e = rw (eq-eqb (length (clause_at row b)) 2 e) (ap (present (clauses_in row)) (sym (ap (masked 3) (clause_two b e) ∙ masked_two _ _)))

  pub pair_literal : (p : ℕ) → get_or row p 0 ≢ 0 → pair_at row p ≡ false
  unfolding pair_at
  pair_literal p n = rw (ne_eqb (get_or row p 0) 0 n)

  pub pair_end : (b : ℕ) → Starts row b → b + length (clause_at row b) < length row → pair_at row (b + length (clause_at row b)) ≡ marks_pair row b
  unfolding pair_at
  pair_end b s h =
      rw (eq-eqb (get_or row (b + length (clause_at row b)) 0) 0 (clause_ended row b), start_only row b (b + length (clause_at row b)) s (omega arith) (omega arith) h)

-- As they are written

module _ {row before marks : List ℕ} {b : ℕ} (s : Starts row b) (inside : b + length (clause_at row b) < length row) (k : Pairing row before marks b) where
  -- the marks before the end of the clause
  passed : (q : ℕ) → q < b + length (clause_at row b) → get_or marks q 0 ≡ cond (pair_at row q) 2 (get_or before q 0)
  passed q h = go (dec_lt q b)
    where
      go : Dec (q < b) → get_or marks q 0 ≡ cond (pair_at row q) 2 (get_or before q 0)
      go (yes l) = k.written q l
      go (no n) = rw (pair_literal row q (literal_some row b q (omega arith) h)) (k.rest q (omega arith))

  pub pairing_pair : b + length (clause_at row b) < length marks → marks_pair row b ≡ true
      → Pairing row before (set marks (b + length (clause_at row b)) 2) (b + length (clause_at row b) + 1)
  pairing_pair h e =
      record {
        size = rw length-set k.size;
        written = λ q l. at q l (ℕ_discrete q (b + length (clause_at row b)));
        rest = λ q l. get_or-set_other marks (b + length (clause_at row b)) q 2 0 (λ i. never q l i) ∙ k.rest q (omega arith);
      }
    where
      never : (q : ℕ) → b + length (clause_at row b) + 1 ≤ q → q ≡ b + length (clause_at row b) → ⊥
      never q l i = omega arith

      at : (q : ℕ) → q < b + length (clause_at row b) + 1 → Dec (q ≡ b + length (clause_at row b)) → get_or (set marks (b + length (clause_at row b)) 2) q 0 ≡ cond (pair_at row q) 2 (get_or before q 0)
      at q l (yes i) = rw (i, pair_end row b s inside, e) (get_or-set_same marks (b + length (clause_at row b)) 2 0 h)
      at q l (no n) = get_or-set_other marks (b + length (clause_at row b)) q 2 0 n ∙ passed q (omega arith)

  pub pairing_other : marks_pair row b ≡ false → Pairing row before marks (b + length (clause_at row b) + 1)
  pairing_other e =
      record { size = k.size; written = λ q l. at q l (ℕ_discrete q (b + length (clause_at row b))); rest = λ q l. k.rest q (omega arith) }
    where
      at : (q : ℕ) → q < b + length (clause_at row b) + 1 → Dec (q ≡ b + length (clause_at row b)) → get_or marks q 0 ≡ cond (pair_at row q) 2 (get_or before q 0)
      at q l (yes i) = rw (i, pair_end row b s inside, e) (k.rest (b + length (clause_at row b)) (omega arith))
      at q l (no n) = passed q (omega arith)

-- The pairs of a row in normal form

inverses_same : {c d : List ℕ} → Same c d → Same (map negate c) (map negate d)
inverses_same {c} {d} s = record { left = half s.left; right = half s.right }
  where
    half : {c d : List ℕ} → Within c d → Within (map negate c) (map negate d)
    half {c} w x k = let o = mem_of_map negate c k in Memᴰ.cast o.is (mem_map negate (w o.of o.in_list))

module _ {cs : List (List ℕ)} {row : List ℕ} (normal : Normal row) (same : (c : List ℕ) → Present cs c ↔ Present (clauses_in row) c) where
  pub pair_marks : (b : ℕ) → marks_pair row b ≡ true → (length (clause_at row b) ≡ 2) × Present cs (negate (get_or row b 0) ∷ negate (get_or row (b + 1) 0) ∷ [])
  unfolding marks_pair
  pair_marks b h =
      let t = and_both (eqb (length (clause_at row b)) 2) _ h in
      (eqb-true (length (clause_at row b)) 2 t.0, (same _).1 (present_is (clauses_in row) _ t.1))

  -- where such a clause stands
  pub record PairOf (x y : ℕ) : Type 0 where
    pub place : ℕ
    pub start : Starts row place
    pub marked : marks_pair row place ≡ true
    pub same-set : Same (x ∷ y ∷ []) (clause_at row place)

  pub pair_of : (x y : ℕ) → x ≢ y → Present cs (x ∷ y ∷ []) → Present cs (negate x ∷ negate y ∷ []) → PairOf x y
  unfolding marks_pair
  pair_of x y n h k =
      let f = first_of row ((same (x ∷ y ∷ [])).0 h) in
      let e = perm_length (perm_of_same (x ∷ y ∷ []) (clause_at row f.place) (two_distinct n) (clause_distinct normal f.place f.start) f.same) in
      record {
        place = f.place;
        start = f.start;
        marked =
            both_and (eq-eqb (length (clause_at row f.place)) 2 (sym e))
            (is_present (clauses_in row) _ (rw (← ap (map negate) (clause_two row f.place (sym e))) (present_same (same_sym (inverses_same f.same)) ((same _).0 k))));
        same-set = f.same;
      }
