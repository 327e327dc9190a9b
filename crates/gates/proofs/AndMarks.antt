-- The literals that are marked as outputs are those of the ANDs, each once.
-- Assumes nothing.
use mathlib.Core.Path.{◌≡◌, sym, ◌∙◌, subst, subst⁻¹}
use mathlib.Core.Logic.{◌⊎◌, inl, inr, ◌↔◌}
use mathlib.Core.Bool.{true, not, ◌||◌}
use mathlib.Core.List.Memᴰ
use mathlib.Core.List.{List, [], ◌∷◌}
use Prim.Native.Nat.{ℕ, ◌≤◌, ◌<◌}
use native.Mathlib.Omega.{arith}
use native.Mathlib.Decide.{ℕ_discrete}
use lib.Dec.{eqb, leb}
use lib.ListN.{length, get_or}
use borrow.Author.Tests.{eq-eqb, eqb-true, le-leb, leb-true}
use Rattle.clauses.specs.Code.{negate}
use Rattle.clauses.specs.Clause.{Mem, Same, Present, clauses_in}
use Rattle.clauses.specs.Listing.{present}
use Rattle.clauses.specs.Row.{clause_at, LiteralAt, start_of}
use Rattle.clauses.proofs.Lists.{and_both, both_and, or_cases, or_left, or_right, not_eqb, all_have, have_all}
use Rattle.clauses.proofs.Distinct.{Distinct, more}
use Rattle.clauses.proofs.Codes.{negate_negate, negate_inj}
use Rattle.clauses.proofs.Clauses.{present_is, is_present}
use Rattle.clauses.proofs.Picks.{Picked, picked, pick_rest, pick_distinct, pick_length, in_rest}
use Rattle.clauses.proofs.Rows.{literal_in, literal_of}
use Rattle.clauses.proofs.StartOf.{literal_start, start_only}
use Rattle.gates.specs.Gate.{AndGate}
use Rattle.gates.specs.Counted.{IsAndCount}
use Rattle.gates.specs.Found.{is_and}
use Rattle.gates.specs.Normal.{Normal}
use Rattle.gates.specs.Mark.{is_first, is_candidate, gives_and, marks_and, and_at, how_many}
use Rattle.gates.proofs.Firsts.{first_once, first_of}
use Rattle.gates.proofs.HowMany.{many_counted}
use Rattle.gates.proofs.Ands.{and_picked, two_long}
use Rattle.gates.proofs.Counted.{and_gate_same}
use Rattle.gates.proofs.Marks.{literal_inside, and_literal, clause_distinct, clause_present}

module _ {cs : List (List ℕ)} {row : List ℕ} (normal : Normal row) (same : (c : List ℕ) → Present cs c ↔ Present (clauses_in row) c) where
  -- a marked literal is the output of an AND
  marked_and : (b p : ℕ) → LiteralAt row b p → marks_and row b p ≡ true → AndGate cs (clause_at row b) (get_or row p 0)
  unfolding marks_and is_candidate gives_and
  marked_and b p at h =
      let t = and_both (is_candidate row b) _ h in
      let u = and_both (leb 3 (length (clause_at row b))) _ t.0 in
      go (leb-true 3 (length (clause_at row b)) u.0) (all_have _ (clause_at row b) t.1) (picked (clause_at row b) (literal_in row b p at))
    where
      l : ℕ
      l = get_or row p 0

      c : List ℕ
      c = clause_at row b

      distinct : Distinct c
      distinct = clause_distinct normal b at.start

      go : 3 ≤ length c → ((k : ℕ) → Mem k c → (eqb k l || present (clauses_in row) (negate l ∷ negate k ∷ [])) ≡ true) → Picked l c → AndGate cs c l
      go long each r =
          and_picked r.pick distinct (clause_present normal same b at.start) long
          (λ k m. other k m (or_cases (eqb k l) _ (each k (pick_rest r.pick k m))) (pick_distinct r.pick distinct))
        where
          other : (k : ℕ) → Mem k r.rest → (eqb k l ≡ true) ⊎ (present (clauses_in row) (negate l ∷ negate k ∷ []) ≡ true) → Distinct (l ∷ r.rest)
              → Present cs (negate l ∷ negate k ∷ [])
          other k m (inl e) (more n d) = absurd (n (Memᴰ.cast (sym (eqb-true k l e)) m))
          other k m (inr e) d = (same (negate l ∷ negate k ∷ [])).1 (present_is (clauses_in row) (negate l ∷ negate k ∷ []) e)

  -- an AND of a clause that is the first of its set is marked
  and_marked : (b p : ℕ) → LiteralAt row b p → is_first row b ≡ true → AndGate cs (clause_at row b) (get_or row p 0) → marks_and row b p ≡ true
  unfolding marks_and is_candidate gives_and
  and_marked b p at first g = both_and (both_and (le-leb 3 (length c) long) first) (have_all _ c (λ k m. go k m (ℕ_discrete k l)))
    where
      c : List ℕ
      c = clause_at row b

      l : ℕ
      l = get_or row p 0

      long : 3 ≤ length c
      long = go (picked c g.output)
        where
          go : Picked l c → 3 ≤ length c
          go r =
              let a : Mem (negate g.one) r.rest = in_rest r.pick (negate g.one) g.one_in.inverse g.one_in.other in
              let d : Mem (negate g.two) r.rest = in_rest r.pick (negate g.two) g.two_in.inverse g.two_in.other in
              omega (arith, pick_length r.pick, two_long r.rest (record { one = negate g.one; two = negate g.two; one_in = a; two_in = d; differ = λ e. g.differ (negate_inj g.one g.two e) }))

      go : (k : ℕ) → Mem k c → Dec (k ≡ l) → (eqb k l || present (clauses_in row) (negate l ∷ negate k ∷ [])) ≡ true
      go k m (yes e) = or_left _ (eq-eqb k l e)
      go k m (no n) =
          or_right (eqb k l)
          (is_present (clauses_in row) (negate l ∷ negate k ∷ [])
          ((same (negate l ∷ negate k ∷ [])).0 (g.pairs (negate k) (record { inverse = Memᴰ.cast (negate_negate k) m; other = λ e. n (sym (negate_negate k) ∙ e) }))))

  -- .. by their places
  and-at : (b p : ℕ) → LiteralAt row b p → and_at row p ≡ true → AndGate cs (clause_at row b) (get_or row p 0)
  and-at b p at h = marked_and b p at (sym (and_literal row b p at) ∙ h)

  and_placed : (c : List ℕ) (l : ℕ) → AndGate cs c l
      → (b : ℕ) × (p : ℕ) × LiteralAt row b p × (and_at row p ≡ true) × Same c (clause_at row b) × (get_or row p 0 ≡ l)
  and_placed c l g =
      let f = first_of row ((same c).0 g.clause) in
      let o = literal_of row f.place f.start l (f.same.left l g.output) in
      let m = and_marked f.place o.place o.at f.first (subst⁻¹ (AndGate cs (clause_at row f.place)) o.is (and_gate_same f.same g)) in
      (f.place, o.place, o.at, and_literal row f.place o.place o.at ∙ m, f.same, o.is)

  and_first : (b p : ℕ) → marks_and row b p ≡ true → is_first row b ≡ true
  unfolding marks_and is_candidate
  and_first b p h = (and_both (leb 3 (length (clause_at row b))) _ (and_both (is_candidate row b) _ h).0).1

  -- a marked place is a literal's, and its clause is the first of its set
  record AndPlace (p : ℕ) : Type 0 where
    at : LiteralAt row (start_of row p) p
    first : is_first row (start_of row p) ≡ true

  and_place : (p : ℕ) → p < length row → and_at row p ≡ true → AndPlace p
  unfolding and_at
  and_place p h e =
      let t = and_both (not (eqb (get_or row p 0) 0)) _ e in
      record { at = literal_start row p h (not_eqb (get_or row p 0) 0 t.0); first = and_first (start_of row p) p t.1 }

  -- how many are marked
  pub ands_many : IsAndCount cs (how_many (and_at row) (length row))
  ands_many =
      many_counted (λ (p : ℕ). (clause_at row (start_of row p), get_or row p 0)) (and_at row) (length row)
      (λ p h e. and-at (start_of row p) p (and_place p h e).at e)
      (λ p q h e k i s. same_place p q (and_place p h e) (and_place q k i) s.0 s.1)
      (λ x g.
      let f = and_placed x.0 x.1 g in
      let h = literal_inside row f.0 f.1 f.2 in
      let e = start_only row f.0 f.1 f.2.start f.2.low (omega (arith, f.2.high)) h in
      (f.1, h, f.3, (rw e f.4, sym f.5)))
    where
      same_place : (p q : ℕ) → AndPlace p → AndPlace q → Same (clause_at row (start_of row p)) (clause_at row (start_of row q)) → get_or row p 0 ≡ get_or row q 0 → p ≡ q
      same_place p q a b s e =
          let i : start_of row p ≡ start_of row q = first_once row (start_of row p) (start_of row q) a.first b.first s in
          normal.once (start_of row q) p q (subst (λ (k : ℕ). LiteralAt row k p) i a.at) b.at e

  -- a row of marks that has them
  module _ (marks : List ℕ) (marked : (b p : ℕ) → LiteralAt row b p → is_and (get_or marks p 0) ≡ and_at row p) where
    pub and_is : (b p : ℕ) → LiteralAt row b p → is_and (get_or marks p 0) ≡ true → AndGate cs (clause_at row b) (get_or row p 0)
    and_is b p at h = and-at b p at (sym (marked b p at) ∙ h)

    pub and_found : (c : List ℕ) (l : ℕ) → AndGate cs c l
        → (b : ℕ) × (p : ℕ) × LiteralAt row b p × (is_and (get_or marks p 0) ≡ true) × Same c (clause_at row b) × (get_or row p 0 ≡ l)
    and_found c l g = let f = and_placed c l g in (f.0, f.1, f.2, marked f.0 f.1 f.2 ∙ f.3, f.4, f.5)
