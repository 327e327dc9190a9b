-- Examples: the tenth starred list is a design, its copy and their comparison, which takes as many rounds as the theorem allows; and a loop, in
-- which a net and its copy are left apart.
-- Assumes nothing.
use mathlib.Core.Path.{◌≡◌, refl, sym, ◌∙◌, ap, ap₂}
use mathlib.Core.Logic.{◌≢◌, inl}
use mathlib.Core.Bool.{Bool, true, false, not, false≢true, not-not}
use mathlib.Core.List.Memᴰ
use mathlib.Core.List.{List, [], ◌∷◌, ◌++◌, Memᴰ}
use Prim.Native.Nat.{ℕ, ◌+◌, ◌*◌, ◌%◌, ◌≤◌, ◌<◌}
use native.Mathlib.Omega.{arith}
use native.Mathlib.Decide.{ℕ_discrete}
use lib.Dec.{eqb}
use borrow.Author.Tests.{eq-eqb, ne_eqb}
use Rattle.rules.specs.declared.Verdict.TheVariants.{Contradiction, Settled}
use Rattle.clauses.specs.Code.{negate, net}
use Rattle.clauses.specs.Clause.{Mem}
use Rattle.clauses.specs.Lists.{any, all, keep, each, also, only, from, same_list, picks, choose}
use Rattle.clauses.specs.Listing.{mem, within, same_set, tautology, present, literals, clause_sets}
use Rattle.clauses.proofs.Lists.{in_first, any_has, all_have}
use Rattle.clauses.proofs.Codes.{net_negate, net_double}
use Rattle.clauses.proofs.Clauses.{present_is, present_same}
use Rattle.clauses.specs.Sign.{plus, is_inverse}
use Rattle.gates.specs.Listing.{ands, signings, xor_clauses, literals_of, is_then, is_else, ites}
use Rattle.gates.specs.Count.{and_count, xors, xor_count, is_plain, ite_count}
use Rattle.clauses.specs.Code.{nets_of}
use Rattle.clauses.proofs.Signs.{is_inverse_negate}
use Rattle.gates.proofs.ItesListed.{nets_apart}
use Rattle.rules.specs.Answer.{Answer, lead_of, own}
use Rattle.clauses.specs.Assignment.{Assignment, Satisfies}
use Rattle.rules.specs.Compute.{parities, by_clause, by_and, covers, by_ands, by_xor, by_xors, by_ite, by_ites, gates_of, alone_and_paired, conclusions, replace, join_leads, join_all, same_lead, round, run, closed, tally, answer}
use Rattle.rules.specs.Design.{Gate, and, xor, encoding, ProperPins, HoldsGate}
use Rattle.rules.specs.Copy.{EqualsCopy, driven, Copied, by-xor, Miter, asserted}
use Rattle.rules.specs.Starred.{Starred, compared, starred}
use Rattle.rules.proofs.Starred.{starred_computed, starred_fits}
use Rattle.rules.proofs.Theorems.{answer_compared}

-- 3 = 1 AND 2 is copied as 4, and 5 = 3 XOR 4 is true
abbrev gate : Gate
gate = and 6 (2 ∷ 4 ∷ [])

abbrev ρ : ℕ → ℕ
ρ x = elim (eqb (net x) 3) [ true ↦ x + 2 | false ↦ x ]

abbrev level : ℕ → ℕ
level w = elim (eqb w 3) [ true ↦ 1 | false ↦ 0 ]

ρ-three : (x : ℕ) → net x ≡ 3 → ρ x ≡ x + 2
ρ-three x e = rw (eq-eqb (net x) 3 e, ρ)

ρ-other : (x : ℕ) → net x ≢ 3 → ρ x ≡ x
ρ-other x d = rw (ne_eqb (net x) 3 d, ρ)

holds : (cs : List (List ℕ)) (g : Gate) → ProperPins g → all (present cs) (encoding g) ≡ true → HoldsGate cs g
holds cs g p e = record { proper = p; clauses = λ c k. present_same k.same (present_is cs k.found (all_have (present cs) (encoding g) e k.found k.listed)) }

copied : Copied compared (gate ∷ []) ρ level
unfolding any all mem within same_set tautology present signings
copied =
    record {
      levelized = λ g k. rw (Memᴰ.eq_of_singleton k) lower;
      inverses = λ x. inverses x (ℕ_discrete (net x) 3);
      design = λ g k. rw (Memᴰ.eq_of_singleton k) (holds compared gate (proper 6 (omega arith) (omega arith)) refl);
      copy = λ g k. rw (Memᴰ.eq_of_singleton k) (holds compared (and 8 (2 ∷ 4 ∷ [])) (proper 8 (omega arith) (omega arith)) refl);
      shared = λ w h. shared w h (ℕ_discrete w 3);
      equal = λ w h. equal w h (ℕ_discrete w 3);
    }
  where
    lower : (x : ℕ) → Mem x (2 ∷ 4 ∷ []) → level (net x) < 1
    lower x (Memᴰ.head e) = rw e (omega arith)
    lower x (Memᴰ.tail k) = rw (Memᴰ.eq_of_singleton k) (omega arith)

    plain : (x : ℕ) → Mem x (2 ∷ 4 ∷ []) → x % 2 ≡ 0
    plain x (Memᴰ.head e) = rw e refl
    plain x (Memᴰ.tail k) = rw (Memᴰ.eq_of_singleton k) refl

    proper : (l : ℕ) → 1 ≢ net l → 2 ≢ net l → ProperPins (and l (2 ∷ 4 ∷ []))
    proper l p q r (Memᴰ.head e) = rw e (p, λ k. let z = plain 3 k in omega arith)
    proper l p q r (Memᴰ.tail k) = rw (Memᴰ.eq_of_singleton k) (q, λ k. let z = plain 5 k in omega arith)

    inverses : (x : ℕ) → Dec (net x ≡ 3) → ρ (negate x) ≡ negate (ρ x)
    inverses x (yes e) = ρ-three (negate x) (net_negate x ∙ e) ∙ plus_two ∙ ap negate (sym (ρ-three x e))
      where
        plus_two : negate x + 2 ≡ negate (x + 2)
        plus_two = omega arith
    inverses x (no d) = ρ-other (negate x) (λ q. d (sym (net_negate x) ∙ q)) ∙ ap negate (sym (ρ-other x d))

    shared : (w : ℕ) → level w ≡ 0 → Dec (w ≡ 3) → ρ (2 * w) ≡ 2 * w
    shared w h (yes e) = let z : ◌≡◌ {A = ℕ} 1 0 = sym (ap level e) ∙ h in omega arith
    shared w h (no d) = ρ-other (2 * w) (λ q. d (sym (net_double w) ∙ q))

    equal : (w : ℕ) → 0 < level w → Dec (w ≡ 3) → EqualsCopy compared (gate ∷ []) ρ w
    equal w h (yes e) = driven in_first (sym e)
    equal w h (no d) = let z : level w ≡ 0 = rw (ne_eqb w 3 d, level) in absurd (omega arith)

miter : Miter compared ρ level 2
unfolding any all mem within same_set tautology present signings
miter =
    asserted (by-xor {n = 2} {o = 6} (omega arith)
    (holds compared (xor 10 (6 ∷ 8 ∷ [])) (nets_apart (record { cl = omega arith; tl = omega arith; tc = omega arith }), omega arith, omega arith) refl))
    (present_is compared (10 ∷ []) refl)

abbrev tenth : (s : Starred) × Memᴰ s starred
tenth = (_, Memᴰ.tail (Memᴰ.tail (Memᴰ.tail (Memᴰ.tail (Memᴰ.tail (Memᴰ.tail (Memᴰ.tail (Memᴰ.tail (Memᴰ.tail in_first)))))))))

-- The design is found equal within 2 rounds, and not in fewer.
pub copy_compared : ((answer 5 compared 6).verdict ≡ Contradiction) × ((answer 5 compared 6).rounds ≤ 2)
copy_compared = answer_compared 5 compared (starred_fits tenth.0 tenth.1) 6 copied 2 miter (inl (omega arith))

pub bound_reached : (answer 5 compared 6).rounds ≡ 2
bound_reached = ap (λ (a : Answer). a.rounds) (starred_computed tenth.0 tenth.1)

-- A loop: 3 = 1 AND 4 and 4 = 2 AND 3, copied as 5 and 6
abbrev loop : List (List ℕ)
loop =
    encoding (and 6 (2 ∷ 8 ∷ [])) ++ (encoding (and 8 (4 ∷ 6 ∷ [])) ++
    (encoding (and 10 (2 ∷ 12 ∷ [])) ++ encoding (and 12 (4 ∷ 10 ∷ []))))

-- an assignment: 1, 2, 5 and 6 are true
abbrev state : ℕ → Bool
state w = mem w (1 ∷ 2 ∷ 5 ∷ 6 ∷ [])

abbrev value : ℕ → Bool
value c = plus (is_inverse c) (state (net c))

-- It satisfies the list and tells 3 from its copy:
pub loop_differs : Assignment value × Satisfies value loop × (value 6 ≢ value 10)
unfolding any all mem is_inverse
loop_differs = (
  record { zero_false = refl; inverse = λ c. ap₂ plus (is_inverse_negate c) (ap state (net_negate c)) ∙ not_plus (is_inverse c) (state (net c)) },
  λ c k. let w = any_has value c (all_have (any value) loop refl c k) in record { lit = w.it; listed = w.listed; holds = w.passes },
  false≢true,
)
  where
    not_plus : (a b : Bool) → plus (not a) b ≡ not (plus a b)
    not_plus false b = refl
    not_plus true b = sym (not-not b)

-- rightly the rules join 3 to 4 and 5 to 6 and no net to its copy.
pub loop_apart : ((answer 6 loop 7).verdict ≡ Settled) × ((answer 6 loop 7).leads ≡ 2 ∷ 4 ∷ 6 ∷ 6 ∷ 10 ∷ 10 ∷ [])
unfolding any all keep each also only from same_list picks choose mem within same_set tautology present literals clause_sets is_inverse ands signings xor_clauses literals_of is_then is_else ites and_count nets_of xors xor_count is_plain ite_count lead_of own parities by_clause by_and covers by_ands by_xor by_xors by_ite by_ites gates_of alone_and_paired conclusions replace join_leads join_all same_lead round run closed tally answer
loop_apart = (refl, refl)
