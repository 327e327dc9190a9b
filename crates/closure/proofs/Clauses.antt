-- Rules 1 and 2, clause by clause: what the searches find is what the rules draw.
-- Assumes nothing.
use mathlib.Core.Path.{◌≡◌, refl, sym, ◌∙◌, ap, ap₂, subst, subst⁻¹}
use mathlib.Core.Logic.{◌≢◌, ◌⊎◌, inl, inr}
use mathlib.Core.Bool.{Bool, true, false, true≢false}
use mathlib.Core.List.Memᴰ
use mathlib.Core.List.{List, [], ◌∷◌}
use Prim.Native.Nat.{ℕ, ◌+◌, ◌≤◌, ◌<◌}
use native.Mathlib.Omega.{arith}
use native.Mathlib.Nat.{add-zero}
use native.Mathlib.Decide.{ℕ_discrete, dec_lt}
use lib.ListN.{length, get_or}
use borrow.Author.Tests.{eq-eqb, ne_eqb}
use Rattle.clauses.specs.Code.{negate, net}
use Rattle.clauses.specs.Clause.{Mem, Within, Same, Present}
use Rattle.clauses.proofs.Lists.{in_first, in_second}
use Rattle.clauses.proofs.Codes.{negate_negate, net_negate}
use Rattle.gates.specs.Found.{is_pair, Found}
use Rattle.clauses.specs.Row.{clause_at, Starts, LiteralAt}
use Rattle.clauses.proofs.Rows.{clause-at, literal_in, LiteralOf, literal_of}
use Rattle.rules.specs.Rule.{Concludes}
use Rattle.rules.specs.Grouping.{Closure}
use Rattle.closure.specs.Making.{Kernel, Drawn, Making, JoinedBy, Later, Rule1, Rule2}
use Rattle.closure.specs.Joining.{join_state}
use Rattle.closure.specs.Passing.{lead_at, is_other, First, UnitJoined, ClauseJoined}
use Rattle.closure.specs.Marked.{Marked, Ready, Went}
use Rattle.closure.specs.declared.tally.Tally.{Tally}
use Rattle.closure.proofs.Searches.{lead_false, other_is, not_other}
use Rattle.closure.proofs.JoinedBy.{drawn_old, drawn_new, joined_back, joined_chain, joined_inverses, joined_clash}
use Rattle.closure.proofs.Going.{found_marked, went_none, went_then, went_making, ready_on, ready_net, join_went}

two_of : (c : List ℕ) → length c ≡ 2 → c ≡ get_or c 0 0 ∷ get_or c 1 0 ∷ []
two_of [] h = absurd (omega arith)
two_of (x ∷ []) h = absurd (omega arith)
two_of (x ∷ y ∷ []) h = refl
two_of (x ∷ y ∷ z ∷ c) h = absurd (omega arith)

one_of : {x a b : ℕ} → Mem x (a ∷ b ∷ []) → (x ≡ a) ⊎ (x ≡ b)
one_of (Memᴰ.head e) = inl e
one_of (Memᴰ.tail m) = inr (Memᴰ.eq_of_singleton m)

-- two sets of two literals: in one order or the other
ordered : (x y a b : ℕ) → x ≢ y → Same (x ∷ y ∷ []) (a ∷ b ∷ []) → ((x ≡ a) × (y ≡ b)) ⊎ ((x ≡ b) × (y ≡ a))
ordered x y a b n s = go (one_of (s.left x in_first)) (one_of (s.left y in_second))
  where
    go : (x ≡ a) ⊎ (x ≡ b) → (y ≡ a) ⊎ (y ≡ b) → ((x ≡ a) × (y ≡ b)) ⊎ ((x ≡ b) × (y ≡ a))
    go (inl p) (inl q) = absurd (n (p ∙ sym q))
    go (inl p) (inr q) = inl (p, q)
    go (inr p) (inl q) = inr (p, q)
    go (inr p) (inr q) = absurd (n (p ∙ sym q))

-- Rule 1

module _ (row old : List ℕ) (b ending : ℕ) (start : Starts row b) (end_is : ending ≡ b + length (clause_at row b)) where
  abbrev is_open : ℕ → Bool
  is_open = is_other row old ending 0

  left_over : {from r : ℕ} → First is_open from ending r → r < ending → lead_at row old r ≢ 0
  left_over {r = r} f h = (other_is row old ending 0 r (f.here h)).1

  literal : (q : ℕ) → b ≤ q → q < ending → LiteralAt row b q
  literal q l h = record { start = start; low = l; high = omega (arith, end_is) }

  -- a literal with lead F that stands before the place found
  closed : {from r : ℕ} → First is_open from ending r → (q : ℕ) → from ≤ q → q < r → Kernel old (get_or row q 0) 0
  closed f q l h = go (not_other row old ending 0 q (f.before q l h) (omega (arith, f.high))) ∙ sym (lead_false old)
    where
      go : (lead_at row old q ≡ 0) ⊎ (lead_at row old q ≡ 0) → lead_at row old q ≡ 0
      go (inl e) = e
      go (inr e) = e

  -- no literal is left
  module _ (p : ℕ) (f : First is_open b ending p) (at-end : p ≡ ending) where
    none_left : (cs : List (List ℕ)) → Present cs (clause_at row b) → Drawn cs old 1 0
    none_left cs present = go (ℕ_discrete (length (clause_at row b)) 0)
      where
        empty : (c : List ℕ) → length c ≡ 0 → Present cs c → Present cs []
        empty [] h k = k
        empty (x ∷ c) h k = absurd (omega arith)

        go : Dec (length (clause_at row b) ≡ 0) → Drawn cs old 1 0
        go (yes z) = drawn_new cs old _ _ (Concludes.empty_clause (empty (clause_at row b) z present))
        go (no n) =
            let in-clause = literal b (omega arith) (omega (arith, end_is)) in
            Closure.chain
            (Closure.back (drawn_new cs old _ _ (Concludes.unit present (literal_in row b b in-clause) (λ x m d. all_false x m))))
            (drawn_old cs old _ _ (closed f b (omega arith) (omega (arith, end_is))))
          where
            all_false : (x : ℕ) → Mem x (clause_at row b) → Kernel old x 0
            all_false x m = let o = literal_of row b start x m in subst (λ (y : ℕ). Kernel old y 0) o.is (closed f o.place o.at.low (omega (arith, o.at.high, end_is)))

  -- one literal is left
  module _ (p q : ℕ) (f : First is_open b ending p) (h : p < ending) (g : First is_open (p + 1) ending q) (at-end : q ≡ ending) where
    others_false : (x : ℕ) → Mem x (clause_at row b) → x ≢ get_or row p 0 → Kernel old x 0
    others_false x m d = let o = literal_of row b start x m in go o (dec_lt o.place p) (ℕ_discrete o.place p)
      where
        go : (o : LiteralOf row b x) → Dec (o.place < p) → Dec (o.place ≡ p) → Kernel old x 0
        go o (yes l) k = subst (λ (y : ℕ). Kernel old y 0) o.is (closed f o.place o.at.low l)
        go o (no l) (yes k) = absurd (d (sym o.is ∙ ap (λ (i : ℕ). get_or row i 0) k))
        go o (no l) (no k) = subst (λ (y : ℕ). Kernel old y 0) o.is (closed g o.place (omega arith) (omega (arith, o.at.high, end_is)))

    one_left : (cs : List (List ℕ)) → Present cs (clause_at row b) → Drawn cs old (get_or row p 0) 1
    one_left cs present = drawn_new cs old _ _ (Concludes.unit present (literal_in row b p (literal p f.low h)) others_false)

    one_left_joined : (new : List ℕ) (t : Tally) → JoinedBy new t (get_or row p 0) 1 → UnitJoined row old new t b
    one_left_joined new t j = record { unit = unit; empty_clause = λ z. absurd (omega (arith, f.low, end_is)) }
      where
        unit : (k : ℕ) → Mem k (clause_at row b) → ((x : ℕ) → Mem x (clause_at row b) → x ≢ k → Kernel old x 0) → JoinedBy new t k 1
        unit k m u = go (ℕ_discrete (get_or row p 0) k)
          where
            go : Dec (get_or row p 0 ≡ k) → JoinedBy new t k 1
            go (yes e) = subst (λ (y : ℕ). JoinedBy new t y 1) e j
            go (no n) = absurd (left_over f h (u (get_or row p 0) (literal_in row b p (literal p f.low h)) n ∙ lead_false old))

  -- two literals are left, or more
  more_left : ((p q : ℕ) → LiteralAt row b p → LiteralAt row b q → get_or row p 0 ≡ get_or row q 0 → p ≡ q)
      → (p q : ℕ) → First is_open b ending p → p < ending → First is_open (p + 1) ending q → q < ending → (new : List ℕ) (t : Tally) → UnitJoined row old new t b
  more_left once p q f h g k new t = record { unit = λ x m u. absurd (unit x u); empty_clause = λ z. absurd (omega (arith, f.low, end_is)) }
    where
      unit : (x : ℕ) → ((y : ℕ) → Mem y (clause_at row b) → y ≢ x → Kernel old y 0) → ⊥
      unit x u = go (ℕ_discrete (get_or row p 0) x)
        where
          here : LiteralAt row b p
          here = literal p f.low h

          there : LiteralAt row b q
          there = literal q (omega (arith, f.low, g.low)) k

          go : Dec (get_or row p 0 ≡ x) → ⊥
          go (no n) = left_over f h (u (get_or row p 0) (literal_in row b p here) n ∙ lead_false old)
          go (yes e) =
              left_over g k
              (u (get_or row q 0) (literal_in row b q there) (λ d. absurd (omega (arith, g.low, once p q here there (e ∙ sym d))))
              ∙ lead_false old)

  -- what the search has left decides
  module _ {marks new : List ℕ} {t : Tally} (r : Ready row marks old new t) where
    pub unit_none : (p : ℕ) → First is_open b ending p → p ≡ ending → (new' : List ℕ) (t' : Tally) → record { row = new'; tally = t' } ≡ join_state new t 1 0
        → Went row marks old new t new' t' × UnitJoined row old new' t' b
    unit_none p f h new' t' e =
        let k = join_went r (λ cs s. none_left p f h cs (s.clause_is b start)) (omega arith) (omega arith) e in
        (k.0, record { unit = λ x i u. joined_clash (went_making r k.0) 1 x 1 k.1; empty_clause = λ z. k.1 })

    pub unit_one : (p q : ℕ) → First is_open b ending p → p < ending → First is_open (p + 1) ending q → q ≡ ending
        → (new' : List ℕ) (t' : Tally) → record { row = new'; tally = t' } ≡ join_state new t (get_or row p 0) 1
        → Went row marks old new t new' t' × UnitJoined row old new' t' b
    unit_one p q f h g at-end new' t' e =
        let k = join_went r (λ cs s. one_left p q f h g at-end cs (s.clause_is b start)) (ready_net r b p (literal p f.low h)) (omega arith) e in
        (k.0, one_left_joined p q f h g at-end new' t' k.1)

    pub unit_more : (p q : ℕ) → First is_open b ending p → p < ending → First is_open (p + 1) ending q → q < ending
        → Went row marks old new t new t × UnitJoined row old new t b
    unit_more p q f h g k = (went_none, more_left (r.marked.literal_once b) p q f h g k new t)

-- Rule 2

unit_later : {row old new new' : List ℕ} {t t' : Tally} {b : ℕ} → Later new t new' t' → UnitJoined row old new t b → UnitJoined row old new' t' b
unit_later l u = record { unit = λ k i h. l k 1 (u.unit k i h); empty_clause = λ z. l 1 0 (u.empty_clause z) }

module _ (row marks : List ℕ) (b e : ℕ) (h : e ≡ b + length (clause_at row b)) where
  pub pair_mark : get_or marks e 0 ≡ 2 → is_pair (get_or marks (b + length (clause_at row b)) 0) ≡ true
  unfolding is_pair
  pair_mark k = rw h at (eq-eqb _ _ k)

  pub no_pair_mark : get_or marks e 0 ≢ 2 → is_pair (get_or marks (b + length (clause_at row b)) 0) ≡ false
  unfolding is_pair
  no_pair_mark k = rw h at (ne_eqb _ _ k)

module _ {cs : List (List ℕ)} {row marks : List ℕ} (marked : Marked cs row marks) (b : ℕ) (s : Starts row b)
    (i : is_pair (get_or marks (b + length (clause_at row b)) 0) ≡ true) where
  pub pair_inside : b + 1 < length row
  pair_inside = omega (arith, (marked.pair_is b s i).0, marked.ended b s)

  pair_clause : clause_at row b ≡ get_or row b 0 ∷ get_or row (b + 1) 0 ∷ []
  pair_clause =
      let two = (marked.pair_is b s i).0 in
      two_of (clause_at row b) two
      ∙ ap₂ (λ (x y : ℕ). x ∷ y ∷ []) (clause-at row b 0 (omega arith) ∙ ap (λ (i : ℕ). get_or row i 0) (add-zero b)) (clause-at row b 1 (omega arith))

  pair_drawn : (old : List ℕ) → Drawn cs old (get_or row b 0) (negate (get_or row (b + 1) 0))
  pair_drawn old =
      drawn_new cs old _ _ (Concludes.equal (rw negate_negate (subst (Present cs) pair_clause (marked.clause_is b s))) (marked.pair_is b s i).1)

module _ {row marks old new : List ℕ} {t : Tally} (r : Ready row marks old new t) (b : ℕ) (s : Starts row b) {new₁ : List ℕ} {t₁ : Tally}
    (u : Went row marks old new t new₁ t₁ × UnitJoined row old new₁ t₁ b) where
  pub pair_joined : is_pair (get_or marks (b + length (clause_at row b)) 0) ≡ true → (z : ℕ) → z ≡ negate (get_or row (b + 1) 0)
      → (new' : List ℕ) (t' : Tally) → record { row = new'; tally = t' } ≡ join_state new₁ t₁ (get_or row b 0) z
      → Went row marks old new t new' t' × ClauseJoined row marks old new' t' b
  pair_joined i z d new' t' e =
      let two = (r.marked.pair_is b s i).0 in
      let k = join_went (ready_on r u.0) (λ cs m. pair_drawn m b s i old) (inside b (omega arith) (omega arith)) (rw net_negate (inside (b + 1) (omega arith) (omega arith)))
      (e ∙ ap (join_state new₁ t₁ (get_or row b 0)) d)
      in
      (went_then u.0 k.0, (unit_later k.0.later u.1, λ _. k.1))
    where
      inside : (q : ℕ) → b ≤ q → q < b + length (clause_at row b) → net (get_or row q 0) ≤ length old
      inside q l h = ready_net r b q (record { start = s; low = l; high = h })

  pub pair_none : is_pair (get_or marks (b + length (clause_at row b)) 0) ≡ false → Went row marks old new t new₁ t₁ × ClauseJoined row marks old new₁ t₁ b
  pair_none i = (u.0, (u.1, λ k. absurd (true≢false (sym k ∙ i))))

-- All clauses

-- the clauses that start before b are done
pub clause_later : {row old new new' : List ℕ} {t t' : Tally} {b : ℕ} (marks : List ℕ) → Later new t new' t' → ClauseJoined row marks old new t b → ClauseJoined row marks old new' t' b
clause_later marks later k = (unit_later later k.0, λ i. later _ _ (k.1 i))

-- Rules 1 and 2 of a list, from the clauses of its row

module _ {cs : List (List ℕ)} {row marks old new : List ℕ} {t : Tally} (found : Found cs row marks) (making : Making cs old new t)
    (done : (b : ℕ) → Starts row b → ClauseJoined row marks old new t b) where
  pub rule1 : Rule1 cs old new t
  rule1 = record { unit = unit; empty_clause = empty }
    where
      unit : (c : List ℕ) (k : ℕ) → Present cs c → Mem k c → ((x : ℕ) → Mem x c → x ≢ k → Kernel old x 0) → JoinedBy new t k 1
      unit c k p m u =
          let f = found.clause_found c p in
          (done f.0 f.1).0.unit k (f.2.left k m) (λ x i n. u x (f.2.right x i) n)

      empty : Present cs [] → JoinedBy new t 1 0
      empty p =
          let f = found.clause_found [] p in
          (done f.0 f.1).0.empty_clause (none (clause_at row f.0) f.2.right)
        where
          none : (c : List ℕ) → Within c [] → length c ≡ 0
          none [] w = refl
          none (x ∷ c) w = absurd (Memᴰ.not-nil (w x in_first))

  pub rule2 : Rule2 cs old new t
  rule2 = record { equal = λ x y p q. go x y p q (ℕ_discrete x (negate y)) }
    where
      pair : (x y b : ℕ) → x ≢ y → Starts row b → is_pair (get_or marks (b + length (clause_at row b)) 0) ≡ true → Same (x ∷ y ∷ []) (clause_at row b)
          → JoinedBy new t x (negate y)
      pair x y b n s i k = turn (ordered x y (get_or row b 0) (get_or row (b + 1) 0) n (subst (Same (x ∷ y ∷ [])) (pair_clause (found_marked found) b s i) k)) ((done b s).1 i)
        where
          turn : ((x ≡ get_or row b 0) × (y ≡ get_or row (b + 1) 0)) ⊎ ((x ≡ get_or row (b + 1) 0) × (y ≡ get_or row b 0))
              → JoinedBy new t (get_or row b 0) (negate (get_or row (b + 1) 0)) → JoinedBy new t x (negate y)
          turn (inl e) j = subst⁻¹ (λ (z : ℕ). JoinedBy new t x (negate z)) e.1 (subst⁻¹ (λ (z : ℕ). JoinedBy new t z (negate (get_or row (b + 1) 0))) e.0 j)
          turn (inr e) j =
              subst⁻¹ (λ (z : ℕ). JoinedBy new t z (negate y)) e.0
              (subst⁻¹ (λ (z : ℕ). JoinedBy new t (get_or row (b + 1) 0) (negate z)) e.1
              (subst (λ (z : ℕ). JoinedBy new t z (negate (get_or row b 0))) (negate_negate (get_or row (b + 1) 0))
              (joined_inverses making _ _ (joined_back making _ _ j))))

      -- a clause of one literal, written twice
      only : (x y : ℕ) → y ≡ x → Present cs (x ∷ y ∷ []) → JoinedBy new t x 1
      only x y e p = rule1.unit (x ∷ y ∷ []) x p in_first (λ z m n. absurd (n (same z (one_of m))))
        where
          same : (z : ℕ) → (z ≡ x) ⊎ (z ≡ y) → z ≡ x
          same z (inl d) = d
          same z (inr d) = d ∙ e

      go : (x y : ℕ) → Present cs (x ∷ negate y ∷ []) → Present cs (negate x ∷ y ∷ []) → Dec (x ≡ negate y) → JoinedBy new t x y
      go x y p q (yes e) =
          joined_clash making x x y
          (joined_chain making x 1 (negate x) (only x (negate y) (sym e) p) (joined_back making (negate x) 1 (only (negate x) y (sym (negate_negate y) ∙ ap negate (sym e)) q)))
      go x y p q (no n) =
          let f = found.pair_found x (negate y) n p (rw negate_negate q) in
          subst (JoinedBy new t x) (negate_negate y) (pair x (negate y) f.0 n f.1 f.2 f.3)
