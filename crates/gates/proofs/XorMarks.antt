-- The clauses that are marked stand for the XORs, one for each.
-- Assumes nothing.
use mathlib.Core.Path.{◌≡◌, refl, sym, ◌∙◌, ap, ap₂, subst}
use mathlib.Core.Logic.{◌↔◌}
use mathlib.Core.Bool.{Bool, true, false, not, not-not}
use mathlib.Core.List.Memᴰ
use mathlib.Core.List.{List, [], ◌∷◌}
use Prim.Native.Nat.{ℕ, ◌+◌, ◌*◌, ◌<◌}
use native.Mathlib.Omega.{arith}
use lib.Dec.{eqb, leb}
use lib.ListN.{length, get_or}
use borrow.Author.Tests.{eqb-true, le-leb, leb-true}
use Rattle.clauses.specs.Clause.{Mem, Same, Present, clauses_in}
use Rattle.clauses.specs.Sign.{plus, flip, is_inverse, parity, inverted}
use Rattle.clauses.specs.Row.{clause_at, Starts, start_of}
use Rattle.clauses.proofs.Lists.{and_both, both_and, mem_map, mem_of_map}
use Rattle.clauses.proofs.Distinct.{Distinct}
use Rattle.clauses.proofs.Clauses.{present_proper}
use Rattle.clauses.proofs.Picks.{perm_of_same}
use Rattle.clauses.proofs.Signs.{plus_false, plus_comm, net_flip, is_inverse_flip, plain_net, plain_flip, perm_parity, none_odd, none_inverted}
use Rattle.clauses.proofs.StartOf.{start_is, end_start, start_only}
use Rattle.gates.specs.Gate.{XorGate}
use Rattle.gates.specs.Counted.{SameWith, Plain, IsXorCount}
use Rattle.gates.specs.Found.{is_xor}
use Rattle.gates.specs.Normal.{Normal}
use Rattle.gates.specs.Mark.{is_first, is_candidate, is_upright, gives_xor, marks_xor, xor_at, how_many}
use Rattle.gates.proofs.MoreClauses.{xor_present}
use Rattle.gates.proofs.Xors.{apart_distinct, apart_clause, apart_inverted, xor_same, xor_resign}
use Rattle.gates.proofs.Firsts.{first_once, FirstOf, first_of}
use Rattle.gates.proofs.HowMany.{many_counted}
use Rattle.gates.proofs.XorsListed.{signed_all, all_signed}
use Rattle.gates.proofs.Uprights.{Upright, upright_is, is-upright, upright_same, Turned, turned, xor_turned, upright_only}
use Rattle.gates.proofs.Marks.{xor_end, clause_distinct, clause_present}

-- the literals as plain nets, with the sum that they then have
abbrev summed : List ℕ → List ℕ × Bool
summed c = (inverted is_inverse c, plus (parity is_inverse c) true)

plain_parity : (f : ℕ → Bool) (ws : List ℕ) → ((w : ℕ) → Mem w ws → Plain w) → parity is_inverse (inverted f ws) ≡ parity f ws
plain_parity f [] plain = refl
plain_parity f (w ∷ ws) plain =
    ap₂ plus (is_inverse_flip (f w) w ∙ ap (plus (f w)) (plain w (Memᴰ.head refl)) ∙ plus_false (f w)) (plain_parity f ws (λ x k. plain x (Memᴰ.tail k)))

-- a plain literal that has been inverted or not, written as a plain net
plain_again : (b : Bool) (x : ℕ) → Plain x → flip (is_inverse (flip b x)) (flip b x) ≡ x
plain_again b x e = sym (plain_net (flip b x)) ∙ ap (λ (n : ℕ). 2 * n) (net_flip b x) ∙ plain_net x ∙ ap (λ (t : Bool). flip t x) e

-- a constraint of plain nets is the one that its chosen clause stands for
same_summed : (ws : List ℕ) (odd : Bool) (f : ℕ → Bool) (c : List ℕ) → ((w : ℕ) → Mem w ws → Plain w) → Distinct (inverted f ws) → Distinct c → Same (inverted f ws) c
    → plus odd (parity f ws) ≡ true → SameWith (ws, odd) (summed c)
same_summed ws odd f c plain d e s h = (
  record {
    left = λ x k. Memᴰ.cast (sym (plain_again (f x) x (plain x k))) (mem_map (λ (y : ℕ). flip (is_inverse y) y) (s.left (flip (f x) x) (mem_map (λ (y : ℕ). flip (f y) y) k)));
    right = λ z k.
        let o = mem_of_map (λ (y : ℕ). flip (is_inverse y) y) c k in
        let q = mem_of_map (λ (y : ℕ). flip (f y) y) ws (s.right o.of o.in_list) in
        Memᴰ.cast (o.is ∙ ap (λ (y : ℕ). flip (is_inverse y) y) q.is ∙ plain_again (f q.of) q.of (plain q.of q.in_list)) q.in_list;
  },
  other odd (parity f ws) h ∙ ap (λ (b : Bool). plus b true) (sym (plain_parity f ws plain) ∙ perm_parity is_inverse (perm_of_same (inverted f ws) c d e s)),
)
  where
    other : (a b : Bool) → plus a b ≡ true → a ≡ plus b true
    other false b i = sym (ap (λ (t : Bool). plus t true) i)
    other true false i = refl
    other true true i = sym i

module _ {cs : List (List ℕ)} {row : List ℕ} (normal : Normal row) (same : (c : List ℕ) → Present cs c ↔ Present (clauses_in row) c) where
  -- a marked clause
  record XorClause (b : ℕ) : Type 0 where
    first : is_first row b ≡ true
    upright : Upright (clause_at row b)
    gate : XorGate cs (clause_at row b) true

  marked_xor : (b : ℕ) → Starts row b → marks_xor row b ≡ true → XorClause b
  unfolding marks_xor is_candidate gives_xor
  marked_xor b s h =
      let t = and_both (is_candidate row b) _ h in
      let u = and_both (leb 3 (length (clause_at row b))) _ t.0 in
      let v = and_both (leb (length (clause_at row b)) 5) _ t.1 in
      let w = and_both (is_upright (clause_at row b)) _ v.1 in
      record {
        first = u.1;
        upright = upright_is (clause_at row b) w.0;
        gate =
            record {
              three = leb-true 3 (length (clause_at row b)) u.0;
              five = leb-true (length (clause_at row b)) 5 v.0;
              apart = apart_clause (clause_at row b) (clause_distinct normal b s) (present_proper (clause_present normal same b s));
              all = λ f e. (same (inverted f (clause_at row b))).1 (signed_all (clauses_in row) (clause_at row b) true w.1 f e);
            };
      }

  xor_marked : (b : ℕ) → XorClause b → marks_xor row b ≡ true
  unfolding marks_xor is_candidate gives_xor
  xor_marked b x =
      let g = xor_present (λ c. (same c).0) x.gate in
      both_and (both_and (le-leb 3 (length (clause_at row b)) g.three) x.first)
      (both_and (le-leb (length (clause_at row b)) 5 g.five) (both_and (is-upright (clause_at row b) x.upright) (all_signed g)))

  -- .. by its end
  xor-at : (b : ℕ) → Starts row b → xor_at row (b + length (clause_at row b)) ≡ true → XorGate cs (clause_at row b) true
  xor-at b s h = (marked_xor b s (sym (xor_end row b s (normal.ended b s)) ∙ h)).gate

  -- the marked clause of an XOR
  record Stands (ls : List ℕ) (odd : Bool) : Type 0 where
    place : ℕ
    signs : ℕ → Bool
    start : Starts row place
    marked : xor_at row (place + length (clause_at row place)) ≡ true
    same-set : Same (inverted signs ls) (clause_at row place)
    sum : plus odd (parity signs ls) ≡ true

  xor_placed : (ls : List ℕ) (odd : Bool) → XorGate cs ls odd → Stands ls odd
  xor_placed [] odd g = absurd (omega (arith, g.three))
  xor_placed (l ∷ ls) odd g = record { place = b; signs = t.signs; start = r.start; marked = xor_end row b r.start (normal.ended b r.start) ∙ xor_marked b clause; same-set = r.same; sum = t.sum }
    where
      t : Turned (l ∷ ls) odd
      t = turned l ls odd g.apart

      c : List ℕ
      c = inverted t.signs (l ∷ ls)

      gate : XorGate cs c true
      gate = xor_turned (l ∷ ls) odd t.signs t.sum g

      r : FirstOf row c
      r = first_of row ((same c).0 (subst (Present cs) (none_inverted c) (gate.all (λ x. false) (none_odd c))))

      b : ℕ
      b = r.place

      clause : XorClause b
      clause =
          record {
            first = r.first;
            upright = upright_same r.same t.upright;
            gate = xor_same (clause_at row b) gate r.same (clause_distinct normal b r.start);
          }

  -- a marked place is the end of a marked clause
  record XorPlace (p : ℕ) : Type 0 where
    end : start_of row p + length (clause_at row (start_of row p)) ≡ p
    clause : XorClause (start_of row p)

  xor_place : (p : ℕ) → p < length row → xor_at row p ≡ true → XorPlace p
  unfolding xor_at
  xor_place p h e =
      let t = and_both (eqb (get_or row p 0) 0) _ e in
      record { end = end_start row p (eqb-true (get_or row p 0) 0 t.0); clause = marked_xor (start_of row p) (start_is row p h) t.1 }

  -- how many are marked
  pub xors_many : IsXorCount cs (how_many (xor_at row) (length row))
  xors_many =
      many_counted (λ (p : ℕ). summed (clause_at row (start_of row p))) (xor_at row) (length row)
      (λ p h e. (λ w m. plain (clause_at row (start_of row p)) w m, xor_resign (clause_at row (start_of row p)) true is_inverse (xor_place p h e).clause.gate))
      (λ p q h e k i s. same_place p q (xor_place p h e) (xor_place q k i) s.0 s.1)
      (λ x g. every x.0 x.1 g.0 g.1 (xor_placed x.0 x.1 g.1))
    where
      plain : (c : List ℕ) (w : ℕ) → Mem w (inverted is_inverse c) → Plain w
      plain c w m = let o = mem_of_map (λ (y : ℕ). flip (is_inverse y) y) c m in ap is_inverse o.is ∙ plain_flip o.of

      every : (ws : List ℕ) (odd : Bool) → ((w : ℕ) → Mem w ws → Plain w) → XorGate cs ws odd → Stands ws odd
          → (p : ℕ) × (p < length row) × (xor_at row p ≡ true) × SameWith (ws, odd) (summed (clause_at row (start_of row p)))
      every ws odd nets g f =
          let b = f.place in
          let end = b + length (clause_at row b) in
          let h = normal.ended b f.start in
          let e : start_of row end ≡ b = start_only row b end f.start (omega arith) (omega arith) h in (
            end,
            h,
            f.marked,
            rw e (same_summed ws odd f.signs (clause_at row b) nets (apart_distinct (apart_inverted f.signs g.apart)) (clause_distinct normal b f.start) f.same-set f.sum),
          )

      same_place : (p q : ℕ) → XorPlace p → XorPlace q → Same (summed (clause_at row (start_of row p))).0 (summed (clause_at row (start_of row q))).0
          → plus (parity is_inverse (clause_at row (start_of row p))) true ≡ plus (parity is_inverse (clause_at row (start_of row q))) true → p ≡ q
      same_place p q a b s e =
          let t = upright_only a.clause.upright b.clause.upright a.clause.gate.apart b.clause.gate.apart s (equal _ _ e) in
          let i : start_of row p ≡ start_of row q = first_once row (start_of row p) (start_of row q) a.clause.first b.clause.first t in
          sym a.end ∙ ap (λ (k : ℕ). k + length (clause_at row k)) i ∙ b.end
        where
          equal : (x y : Bool) → plus x true ≡ plus y true → x ≡ y
          equal x y h = sym (not-not x) ∙ ap not (plus_comm true x ∙ h ∙ plus_comm y true) ∙ not-not y

  -- a row of marks that has them
  module _ (marks : List ℕ)
      (marked : (b : ℕ) → Starts row b → is_xor (get_or marks (b + length (clause_at row b)) 0) ≡ xor_at row (b + length (clause_at row b))) where
    pub xor_is : (b : ℕ) → Starts row b → is_xor (get_or marks (b + length (clause_at row b)) 0) ≡ true → XorGate cs (clause_at row b) true
    xor_is b s h = xor-at b s (sym (marked b s) ∙ h)

    pub xor_found : (ls : List ℕ) (odd : Bool) → XorGate cs ls odd
        → (b : ℕ) × (f : ℕ → Bool) × Starts row b × (is_xor (get_or marks (b + length (clause_at row b)) 0) ≡ true)
        × Same (inverted f ls) (clause_at row b) × (plus odd (parity f ls) ≡ true)
    xor_found ls odd g = let f = xor_placed ls odd g in (f.place, f.signs, f.start, marked f.place f.start ∙ f.marked, f.same-set, f.sum)
