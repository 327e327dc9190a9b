-- The literals that are in clauses of two, and the ANDs that they rule out.
-- Assumes nothing.
use mathlib.Core.Path.{◌≡◌, refl, sym, ◌∙◌, ap}
use mathlib.Core.Logic.{◌≢◌, ◌⊎◌, inl, inr}
use mathlib.Core.Bool.{true, false}
use mathlib.Core.List.Memᴰ
use mathlib.Core.List.{List, [], ◌∷◌}
use Prim.Native.Nat.{ℕ, ◌+◌, ◌≤◌, ◌<◌}
use native.Mathlib.Omega.{arith}
use native.Mathlib.Decide.{ℕ_discrete}
use lib.Dec.{eqb, leb}
use lib.ListN.{length, get_or, set, length-set}
use lib.Seq.{get_or-set_same, get_or-set_other}
use borrow.Author.Tests.{eqb-true, leb-true}
use borrow.Table.Steps.{cases}
use Rattle.clauses.specs.Code.{negate}
use Rattle.clauses.specs.Clause.{clauses_in, Present}
use Rattle.clauses.specs.Listing.{present}
use Rattle.clauses.specs.Row.{clause_at, LiteralAt}
use Rattle.clauses.proofs.Lists.{and_both, or_cases, all_have}
use Rattle.clauses.proofs.Clauses.{present_is}
use Rattle.clauses.proofs.Picks.{perm_of_same, perm_length}
use Rattle.clauses.proofs.Rows.{starts_before, literal_in, literal_of}
use Rattle.gates.specs.Normal.{Normal, max_code}
use Rattle.gates.specs.Mark.{is_candidate, Twos, gives_and}
use Rattle.gates.proofs.Firsts.{first_of}
use Rattle.gates.proofs.Marks.{clause_distinct}
use Rattle.gates.proofs.Queries.{two_distinct}

-- As they are written

set_here : (l : List ℕ) (i : ℕ) → i < length l → get_or (set l i 1) i 0 ≢ 0
set_here l i h e = omega (arith, get_or-set_same l i 1 0 h)

set_there : (l : List ℕ) (i j : ℕ) → get_or l j 0 ≢ 0 → i < length l → get_or (set l i 1) j 0 ≢ 0
set_there l i j n h e = go (ℕ_discrete j i)
  where
    go : Dec (j ≡ i) → ⊥
    go (yes q) = set_here l i h (rw q at e)
    go (no m) = n (sym (get_or-set_other l i j 1 0 m) ∙ e)

module _ {row twos : List ℕ} where
  pub twos_none : max_code < length twos → Twos row twos 0
  twos_none l = record { room = l; some = λ b q h. absurd (omega arith) }

  module _ (b : ℕ) (d : Twos row twos b) where
    pub twos_other : length (clause_at row b) ≢ 2 → Twos row twos (b + length (clause_at row b) + 1)
    twos_other n = record { room = d.room; some = λ a q h l e. go a q h l e (ℕ_discrete a b) }
      where
        go : (a q : ℕ) → a < b + length (clause_at row b) + 1 → LiteralAt row a q → length (clause_at row a) ≡ 2 → Dec (a ≡ b) → get_or twos (get_or row q 0) 0 ≢ 0
        go a q h l e (yes i) = absurd (n (sym (ap (λ (k : ℕ). length (clause_at row k)) i) ∙ e))
        go a q h l e (no m) = d.some a q (starts_before row b a l.start h m) l e

    pub twos_two : Normal row → length (clause_at row b) ≡ 2
        → Twos row (set (set twos (get_or row b 0) 1) (get_or row (b + 1) 0) 1) (b + length (clause_at row b) + 1)
    twos_two normal t = record { room = rw (length-set, length-set) d.room; some = λ a q h l e. go a q h l e (ℕ_discrete a b) }
      where
        first_in : get_or row b 0 < length twos
        first_in = omega (arith, normal.small b, d.room)

        second_in : get_or row (b + 1) 0 < length (set twos (get_or row b 0) 1)
        second_in = omega (arith, normal.small (b + 1), d.room, length-set twos (get_or row b 0) 1)

        here : (q : ℕ) → b ≤ q → q < b + 2 → Dec (q ≡ b) → get_or (set (set twos (get_or row b 0) 1) (get_or row (b + 1) 0) 1) (get_or row q 0) 0 ≢ 0
        here q l u (yes i) = rw i (set_there (set twos (get_or row b 0) 1) (get_or row (b + 1) 0) (get_or row b 0) (set_here twos (get_or row b 0) first_in) second_in)
        here q l u (no n) = let i : q ≡ b + 1 = omega arith in rw i (set_here (set twos (get_or row b 0) 1) (get_or row (b + 1) 0) second_in)

        go : (a q : ℕ) → a < b + length (clause_at row b) + 1 → LiteralAt row a q → length (clause_at row a) ≡ 2 → Dec (a ≡ b) → get_or (set (set twos (get_or row b 0) 1) (get_or row (b + 1) 0) 1) (get_or row q 0) 0 ≢ 0
        go a q h l e (yes i) = here q (omega (arith, l.low)) (omega (arith, l.high)) (ℕ_discrete q b)
        go a q h l e (no m) =
            set_there (set twos (get_or row b 0) 1) (get_or row (b + 1) 0) (get_or row q 0)
            (set_there twos (get_or row b 0) (get_or row q 0) (d.some a q (starts_before row b a l.start h m) l e) first_in) second_in

-- No AND without a clause of two

module _ {row twos : List ℕ} (normal : Normal row) (d : Twos row twos (length row)) where
  -- the literals of a clause of two have entries
  two_noted : (x y : ℕ) → x ≢ y → Present (clauses_in row) (x ∷ y ∷ []) → get_or twos x 0 ≢ 0
  two_noted x y n h =
      let f = first_of row h in
      let e = perm_length (perm_of_same (x ∷ y ∷ []) (clause_at row f.place) (two_distinct n) (clause_distinct normal f.place f.start) f.same) in
      let l = literal_of row f.place f.start x (f.same.left x (Memᴰ.head refl)) in
      rw l.is at (d.some f.place l.place f.start.inside l.at (sym e))

  pub no_and : (b p : ℕ) → is_candidate row b ≡ true → LiteralAt row b p → get_or twos (negate (get_or row p 0)) 0 ≡ 0 → gives_and (clauses_in row) (clause_at row b) (get_or row p 0) ≡ false
  unfolding gives_and is_candidate
  no_and b p k at z =
      cases (gives_and (clauses_in row) (clause_at row b) (get_or row p 0)) (λ t. absurd (go t (ℕ_discrete p b))) (λ t. t)
    where
      long : 3 ≤ length (clause_at row b)
      long = leb-true 3 _ (and_both (leb 3 (length (clause_at row b))) _ k).0

      input : (q : ℕ) → LiteralAt row b q → q ≢ p → gives_and (clauses_in row) (clause_at row b) (get_or row p 0) ≡ true → ⊥
      input q l n t = each (or_cases (eqb (get_or row q 0) (get_or row p 0)) _ (all_have _ (clause_at row b) t (get_or row q 0) (literal_in row b q l)))
        where
          apart : get_or row q 0 ≢ get_or row p 0
          apart e = n (normal.once b q p l at e)

          each : (eqb (get_or row q 0) (get_or row p 0) ≡ true) ⊎ (present (clauses_in row) (negate (get_or row p 0) ∷ negate (get_or row q 0) ∷ []) ≡ true) → ⊥
          each (inl e) = apart (eqb-true _ _ e)
          each (inr e) = two_noted (negate (get_or row p 0)) (negate (get_or row q 0)) (λ i. apart (omega arith)) (present_is (clauses_in row) _ e) z

      go : gives_and (clauses_in row) (clause_at row b) (get_or row p 0) ≡ true → Dec (p ≡ b) → ⊥
      go t (yes e) = input (b + 1) (record { start = at.start; low = omega arith; high = omega (arith, long) }) (omega arith) t
      go t (no n) = input b (record { start = at.start; low = omega arith; high = omega (arith, long) }) (λ i. n (sym i)) t
