-- The answer, computed: the conclusions of the rules as a list, rounds that merge leads, verdict and leads. That it is the answer of
-- Answer.antt is shown in proofs/Theorems.antt.
-- Assumes nothing.
use Rattle.std.specs.Prelude.{Bool, true, false, not, ◌&&◌, ◌||◌, List, [], ◌∷◌, ◌++◌, map, ℕ, zero, suc, length, replicate, eqb, ltb}
use Rattle.rules.specs.declared.Verdict.{Verdict}
use Rattle.rules.specs.declared.Verdict.TheVariants.{Contradiction, Settled, Unfinished}
use Rattle.clauses.specs.Code.{negate, net}
use Rattle.clauses.specs.Lists.{any, all, each, also, only, same_list, picks}
use Rattle.clauses.specs.Listing.{same_set, present, clause_sets}
use Rattle.clauses.specs.Sign.{flip}
use Rattle.gates.specs.Listing.{And, ands, xor_clauses, Ite, ites}
use Rattle.gates.specs.Count.{and_count, xor_count, ite_count}
use Rattle.clauses.specs.Code.{nets_of}
use Rattle.rules.specs.Answer.{Answer, lead_of, own, no_lead}

-- Conclusions, from a test of which literals are joined

-- these two are joined
pub record Conclusion : Type 0 where
  pub one : ℕ
  pub two : ℕ

-- the parities to which a bag of at most n literals cancels
unfoldable pub parities : (ℕ → ℕ → Bool) → ℕ → List ℕ → List Bool
parities j zero [] = false ∷ []
parities j zero (x ∷ xs) = []
parities j (suc n) [] = false ∷ []
parities j (suc n) (x ∷ xs) =
    (elim (j x 0) [ true ↦ parities j n xs | false ↦ [] ] ++ elim (j x (negate 0)) [ true ↦ map not (parities j n xs) | false ↦ [] ]) ++
    each (picks xs) (λ p.
    elim (j x p.0) [ true ↦ parities j n p.1 | false ↦ [] ] ++
    elim (j x (negate p.0)) [ true ↦ map not (parities j n p.1) | false ↦ [] ])

-- rules 1 and 2
unfoldable pub by_clause : (ℕ → ℕ → Bool) → List (List ℕ) → List ℕ → List Conclusion
by_clause j cs c =
    also (only (eqb (length c) 0) (record { one = 1; two = 0 } ∷ []))
    (also (each (picks c) (λ p. only (all (λ y. j y 0) p.1) (record { one = p.0; two = 1 } ∷ [])))
    (each c (λ a. each c (λ b.
    only (same_set c (a ∷ b ∷ []) && present cs (negate a ∷ negate b ∷ [])) (record { one = a; two = negate b } ∷ [])))))

-- rule 3
unfoldable pub by_and : (ℕ → ℕ → Bool) → And → List Conclusion
by_and j g =
    also (only (any (λ r. j r 0 || any (λ s. j r (negate s)) g.inputs) g.inputs) (record { one = g.l; two = 0 } ∷ []))
    (each g.inputs (λ r. only (all (λ s. j s 1 || j s r) g.inputs) (record { one = g.l; two = r } ∷ [])))

-- whether every input of the first is joined to T or to some input of the second
unfoldable pub covers : (ℕ → ℕ → Bool) → And → And → Bool
covers j g h = all (λ r. j r 1 || any (λ s. j r s) h.inputs) g.inputs

-- rule 4
unfoldable pub by_ands : (ℕ → ℕ → Bool) → And → And → List Conclusion
by_ands j g h = only (covers j g h && covers j h g) (record { one = g.l; two = h.l } ∷ [])

-- rule 5, for literals whose sum is odd
unfoldable pub by_xor : (ℕ → ℕ → Bool) → List ℕ → List Conclusion
by_xor j c =
    each (picks c) (λ k.
    also (map (λ p. record { one = k.0; two = flip (not p) 0 }) (parities j 5 k.1))
    (each (picks k.1) (λ m.
    map (λ p. record { one = k.0; two = flip (not p) m.0 }) (parities j 5 m.1))))

-- rule 6, for literals whose sums are odd
unfoldable pub by_xors : (ℕ → ℕ → Bool) → List ℕ → List ℕ → List Conclusion
by_xors j c d =
    each (picks c) (λ k.
    each (picks d) (λ m.
    map (λ p. record { one = k.0; two = flip p m.0 }) (parities j 8 (k.1 ++ m.1))))

-- rule 7
unfoldable pub by_ite : (ℕ → ℕ → Bool) → Ite → List Conclusion
by_ite j g =
    also (only (j g.c 1 || j g.t g.e) (record { one = g.l; two = g.t } ∷ []))
    (only (j g.c 0) (record { one = g.l; two = g.e } ∷ []))

-- rule 8
unfoldable pub by_ites : (ℕ → ℕ → Bool) → Ite → Ite → List Conclusion
by_ites j g h =
    only (j g.c h.c && (j g.t h.t && j g.e h.e)) (record { one = g.l; two = h.l } ∷ [])

-- the gates of each kind
pub record Gates : Type 0 where
  pub and_gates : List And
  pub xor_gates : List (List ℕ)
  pub ite_gates : List Ite

unfoldable pub gates_of : ℕ → List (List ℕ) → Gates
gates_of v cs = record { and_gates = ands cs; xor_gates = xor_clauses cs; ite_gates = ites v cs }

-- what the gates of one kind say, alone and in pairs
unfoldable pub alone_and_paired : {A : Type 0} → List A → (A → List Conclusion) → (A → A → List Conclusion) → List Conclusion
alone_and_paired l f g = each l (λ a. also (f a) (each l (g a)))

-- all conclusions
unfoldable pub conclusions : List (List ℕ) → Gates → (ℕ → ℕ → Bool) → List Conclusion
conclusions cs g j =
    also (each (clause_sets cs) (by_clause j cs))
    (also (alone_and_paired g.and_gates (by_and j) (by_ands j))
    (also (alone_and_paired g.xor_gates (by_xor j) (by_xors j))
    (alone_and_paired g.ite_gates (by_ite j) (by_ites j))))

-- Rounds

-- a grouping, as a row of leads unless everything is joined
pub data Grouping : Type 0 where
  by_leads : List ℕ → Grouping
  everything : Grouping

-- hi and its inverse become lo and its inverse
unfoldable pub replace : ℕ → ℕ → ℕ → ℕ
replace hi lo e = elim (eqb e hi) [ true ↦ lo | false ↦ elim (eqb e (negate hi)) [ true ↦ negate lo | false ↦ e ] ]

-- two groups are joined, x and y being their leads: the lead of the lower net leads both
unfoldable pub join_leads : List ℕ → ℕ → ℕ → Grouping
join_leads leads x y =
    elim (eqb (net x) (net y)) [
      | true ↦ elim (eqb x y) [ true ↦ by_leads leads | false ↦ everything ]
      | false ↦ elim (ltb (net x) (net y)) [ true ↦ by_leads (map (replace y x) leads) | false ↦ by_leads (map (replace x y) leads) ]
    ]

-- the conclusions are joined one after the other
unfoldable pub join_all : List Conclusion → Grouping → Grouping
join_all [] g = g
join_all (p ∷ ps) everything = everything
join_all (p ∷ ps) (by_leads leads) = join_all ps (join_leads leads (lead_of leads p.one) (lead_of leads p.two))

-- whether two literals or constants have the same lead
unfoldable pub same_lead : List ℕ → ℕ → ℕ → Bool
same_lead leads a b = eqb (lead_of leads a) (lead_of leads b)

-- one round
unfoldable pub round : List (List ℕ) → Gates → List ℕ → Grouping
round cs g leads = join_all (conclusions cs g (same_lead leads)) (by_leads leads)

-- Verdict

-- how closing ends
pub record Closed : Type 0 where
  pub verdict : Verdict
  pub rounds : ℕ
  pub leads : List ℕ

abbrev pub ended : Verdict → ℕ → List ℕ → Closed
ended w n leads = record { verdict = w; rounds = n; leads = leads }

-- k more rounds are allowed, n have been made
unfoldable pub run : List (List ℕ) → Gates → ℕ → ℕ → List ℕ → Closed
run cs g zero n leads =
    elim (round cs g leads) [
      | by_leads next ↦ elim (same_list next leads) [ true ↦ ended Settled n leads | false ↦ ended Unfinished n leads ]
      | everything ↦ ended Unfinished n leads
    ]
run cs g (suc k) n leads =
    elim (round cs g leads) [
      | by_leads next ↦ elim (same_list next leads) [ true ↦ ended Settled n leads | false ↦ run cs g k (suc n) next ]
      | everything ↦ ended Contradiction (suc n) (replicate (length leads) no_lead)
    ]

-- at first each net leads itself
unfoldable pub closed : ℕ → List (List ℕ) → ℕ → Closed
closed v cs limit = run cs (gates_of v cs) limit 0 (nets_of v)

-- with the counts and the groups
unfoldable pub tally : ℕ → List (List ℕ) → Closed → Answer
tally v cs r =
    record {
      verdict = r.verdict;
      rounds = r.rounds;
      ands = and_count cs;
      xors = xor_count v cs;
      ites = ite_count v cs;
      groups = length (own v r.leads);
      leads = r.leads;
    }

-- the answer to a list of V nets under a round limit
unfoldable pub answer : ℕ → List (List ℕ) → ℕ → Answer
answer v cs limit = tally v cs (closed v cs limit)
