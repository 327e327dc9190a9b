-- An assignment satisfies the clauses of a circuit exactly when it obeys every AND line and makes the output true.
-- Assumes nothing.
use mathlib.Core.Path.{◌≡◌, refl, sym, ◌∙◌, ap, subst⁻¹}
use mathlib.Core.Logic.{inl, inr, ⊎_elim, ◌↔◌}
use mathlib.Core.Bool.{Bool, true, false, not, ◌&&◌, ◌||◌, true≢false, false≢true}
use mathlib.Core.List.Memᴰ
use mathlib.Core.List.{List, [], ◌∷◌, ◌++◌, map, Memᴰ}
use Prim.Native.Nat.{ℕ, zero, suc, ◌+◌, ◌*◌, ◌%◌, ◌≤◌}
use native.Mathlib.Omega.{arith}
use borrow.Author.Tests.{ne_eqb, eqb-true, eqb-false}
use borrow.Table.Steps.{cases}
use lib.Dec.{eqb}
use lib.IntN.{ℤ, pos, neg_ℤ}
use Rattle.clauses.specs.Assignment.{Assignment, True, Satisfies}
use Rattle.clauses.specs.Clause.{onto, clauses_in, clauses_of, Mem}
use Rattle.clauses.specs.Code.{code_of, negate, net}
use Rattle.clauses.specs.Lists.{any, each}
use Rattle.clauses.proofs.Lists.{in_first, in_second, in_third, any_has, has_any, each_elim, has_each}
use Rattle.aiger.specs.declared.ands.And.{And}
use Rattle.aiger.specs.Circuit.{Circuit, Runs, and_clauses, is_left_out, without_false, simplified, entry_of, literal_row}
use Rattle.aiger.specs.Reading.{entries_of}
use Rattle.aiger.specs.Scanning.{made}
use Rattle.aiger.proofs.Entries.{row_nil, row_cons, LeftOut, left_out_has, and_all, given_clauses, circuit_made, simplified_has, has_simplified, without_has, has_without, Nets, simplified_nets}

-- The clauses of the entries made are the clauses that made them

negative_code : (m : ℕ) → 1 ≤ m → code_of (neg_ℤ (pos m)) ≡ 2 * m + 1
unfolding code_of
negative_code zero h = absurd (omega arith)
negative_code (suc m) h = refl

entry_code : (x : ℕ) → 2 ≤ x → code_of (entry_of x) ≡ x
unfolding entry_of code_of
entry_code x h =
    cases (eqb (x % 2) 1)
    (λ e. rw e (negative_code (net x) (omega arith) ∙ omega (arith, eqb-true (x % 2) 1 e)))
    (λ e. rw e (omega (arith, eqb-false (x % 2) 1 e)))

clause_of_entries : (c : List ℕ) (row : List ℤ) → ((x : ℕ) → Mem x c → 2 ≤ x) → clauses_of (map entry_of c ++ (pos 0 ∷ row)) ≡ c ∷ clauses_of row
unfolding clauses_of clauses_in onto code_of
clause_of_entries [] row h = refl
clause_of_entries (x ∷ c) row h =
    let n : 2 ≤ x = h x in_first in
    rw (entry_code x n, ne_eqb x 0 (λ e. omega arith)) (ap (onto x) (clause_of_entries c row (λ y m. h y (Memᴰ.tail m))))

clauses_of_row : (cs : List (List ℕ)) → Nets cs → clauses_of (literal_row cs) ≡ cs
unfolding clauses_of clauses_in
clauses_of_row [] h = ap clauses_of row_nil
clauses_of_row (c ∷ cs) h =
    ap clauses_of (row_cons c cs) ∙ clause_of_entries c (literal_row cs) (h c in_first)
    ∙ ap (λ (ds : List (List ℕ)). c ∷ ds) (clauses_of_row cs (λ d m. h d (Memᴰ.tail m)))

pub made_clauses : (cs : List (List ℕ)) → clauses_of (made cs) ≡ simplified cs
unfolding made
made_clauses cs = clauses_of_row (simplified cs) (simplified_nets cs)

-- Lists of clauses

satisfies_append : (value : ℕ → Bool) (cs ds : List (List ℕ)) → Satisfies value (cs ++ ds) ↔ (Satisfies value cs × Satisfies value ds)
satisfies_append value cs ds = (
  λ sat. (λ c m. sat c (Memᴰ.append_left ds m), λ c m. sat c (Memᴰ.append_right cs m)),
  λ s c m. ⊎_elim (λ k. s.0 c k) (λ k. s.1 c k) (Memᴰ.append_cases cs m),
)

satisfies_each : {A : Type 0} (value : ℕ → Bool) (l : List A) (f : A → List (List ℕ)) → Satisfies value (each l f) ↔ ((x : A) → Memᴰ x l → Satisfies value (f x))
satisfies_each value l f = (
  λ sat x m c k. sat c (has_each f m k),
  λ s c m. each_elim l f m (λ x i k. s x i c k),
)

-- The three clauses of an AND line

any_cons : (f : ℕ → Bool) (x : ℕ) (c : List ℕ) → any f (x ∷ c) ≡ (f x || any f c)
unfolding any
any_cons f x c = cases (f x) (λ e. rw (e, any)) (λ e. rw (e, any))

three_say : (o a b : Bool) → (not o || (a || false)) ≡ true → (not o || (b || false)) ≡ true → (o || (not a || (not b || false))) ≡ true → o ≡ (a && b)
three_say true true true p q r = refl
three_say true true false p q r = absurd (false≢true q)
three_say true false b p q r = absurd (false≢true p)
three_say false true true p q r = absurd (false≢true r)
three_say false true false p q r = refl
three_say false false b p q r = refl

say_three : (o a b : Bool) → o ≡ (a && b) → ((not o || (a || false)) ≡ true) × ((not o || (b || false)) ≡ true) × ((o || (not a || (not b || false))) ≡ true)
say_three true true true e = (refl, refl, refl)
say_three true true false e = absurd (true≢false e)
say_three true false b e = absurd (true≢false e)
say_three false true true e = absurd (false≢true e)
say_three false true false e = (refl, refl, refl)
say_three false false b e = (refl, refl, refl)

module _ (g : And) where
  and_first : Memᴰ (negate g.output ∷ g.left ∷ []) (and_clauses g)
  unfolding and_clauses
  and_first = in_first

  and_second : Memᴰ (negate g.output ∷ g.right ∷ []) (and_clauses g)
  unfolding and_clauses
  and_second = in_second

  and_third : Memᴰ (g.output ∷ negate g.left ∷ negate g.right ∷ []) (and_clauses g)
  unfolding and_clauses
  and_third = in_third

module _ (value : ℕ → Bool) where
  -- a clause is true if some literal passes
  true_any : (c : List ℕ) → True value c → any value c ≡ true
  true_any c t = has_any value c t.listed t.holds

  any_true : (c : List ℕ) → any value c ≡ true → True value c
  any_true c h = let w = any_has value c h in record { lit = w.it; listed = w.listed; holds = w.passes }

  -- a clause of one literal
  one_true : (x : ℕ) → Satisfies value ((x ∷ []) ∷ []) ↔ (value x ≡ true)
  one_true x = (
    λ sat. let t = sat (x ∷ []) in_first in ap value (sym (Memᴰ.eq_of_singleton t.listed)) ∙ t.holds,
    λ e c m. subst⁻¹ (True value) (Memᴰ.eq_of_singleton m) (record { lit = x; listed = in_first; holds = e }),
  )

  module _ (asg : Assignment value) where
    -- Simplified clauses

    left_out_true : (c : List ℕ) → LeftOut c → True value c
    left_out_true c (inl m) = record { lit = 1; listed = m; holds = asg.inverse 0 ∙ ap not asg.zero_false }
    left_out_true c (inr t) =
        cases (value t.lit) (λ e. record { lit = t.lit; listed = t.plain; holds = e })
        (λ e. record { lit = negate t.lit; listed = t.inverse; holds = asg.inverse t.lit ∙ ap not e })

    without_true : (c : List ℕ) → True value (without_false c) → True value c
    without_true c t = record { lit = t.lit; listed = (without_has c t.listed).0; holds = t.holds }

    true_without : (c : List ℕ) → True value c → True value (without_false c)
    true_without c t =
        record { lit = t.lit; listed = has_without c t.listed (λ e. true≢false (sym t.holds ∙ ap value e ∙ asg.zero_false)); holds = t.holds }

    pub simplified_true : (cs : List (List ℕ)) → Satisfies value (simplified cs) ↔ Satisfies value cs
    simplified_true cs = (
      λ sat c m. cases (is_left_out c) (λ e. left_out_true c (left_out_has c e)) (λ e. without_true c (sat (without_false c) (has_simplified cs m e))),
      λ sat c m. let k = simplified_has cs m in subst⁻¹ (True value) k.is (true_without k.of (sat k.of k.listed)),
    )

    -- AND lines

    pair_says : (x y : ℕ) → any value (negate x ∷ y ∷ []) ≡ (not (value x) || (value y || false))
    unfolding any
    pair_says x y = rw (any_cons value (negate x) (y ∷ []), any_cons value y [], asg.inverse x)

    triple_says : (x y z : ℕ) → any value (x ∷ negate y ∷ negate z ∷ []) ≡ (value x || (not (value y) || (not (value z) || false)))
    unfolding any
    triple_says x y z = rw (any_cons value x (negate y ∷ negate z ∷ []), any_cons value (negate y) (negate z ∷ []), any_cons value (negate z) [], asg.inverse y, asg.inverse z)

    pub and_true : (g : And) → Satisfies value (and_clauses g) ↔ (value g.output ≡ (value g.left && value g.right))
    and_true g = (says, said)
      where
        says : Satisfies value (and_clauses g) → value g.output ≡ (value g.left && value g.right)
        says sat =
            three_say (value g.output) (value g.left) (value g.right)
            (sym (pair_says g.output g.left) ∙ true_any _ (sat _ (and_first g)))
            (sym (pair_says g.output g.right) ∙ true_any _ (sat _ (and_second g)))
            (sym (triple_says g.output g.left g.right) ∙ true_any _ (sat _ (and_third g)))

        said : value g.output ≡ (value g.left && value g.right) → Satisfies value (and_clauses g)
        said e =
            let t = say_three (value g.output) (value g.left) (value g.right) e in
            and_all g (True value)
            (any_true _ (pair_says g.output g.left ∙ t.0))
            (any_true _ (pair_says g.output g.right ∙ t.1))
            (any_true _ (triple_says g.output g.left g.right ∙ t.2))

    -- Circuits

    given_true : (k : Circuit) → Satisfies value (given_clauses k) ↔ Runs value k
    given_true k = (
      λ sat. let s = (satisfies_append value (each k.ands and_clauses) ((k.output ∷ []) ∷ [])).0 sat in
          record { obeys = λ g m. (and_true g).0 ((satisfies_each value k.ands and_clauses).0 s.0 g m); true_output = (one_true k.output).0 s.1 },
      λ r. (satisfies_append value (each k.ands and_clauses) ((k.output ∷ []) ∷ [])).1
          ((satisfies_each value k.ands and_clauses).1 (λ g m. (and_true g).1 (r.obeys g m)), (one_true k.output).1 r.true_output),
    )

    -- An assignment satisfies the clauses of a circuit exactly when it obeys every AND line and makes the output true.
    pub circuit_true : (k : Circuit) → Satisfies value (clauses_of (entries_of k)) ↔ Runs value k
    circuit_true k = rw (circuit_made k, made_clauses) (λ sat. (given_true k).0 ((simplified_true _).0 sat), λ r. (simplified_true _).1 ((given_true k).1 r))
