-- The theorems about what closing answers, for every list that it accepts, whatever the lead and work rows held.
-- Assumes nothing.
use mathlib.Core.Path.{◌≡◌, refl, sym, ◌∙◌, ap, subst⁻¹}
use mathlib.Core.Logic.{◌≢◌, ◌↔◌}
use mathlib.Core.Bool.{Bool, true, false≢true}
use mathlib.Core.List.{List, [], ◌∷◌}
use Prim.Native.Nat.{ℕ, suc, ◌*◌, ◌≤◌, ◌<◌}
use native.Mathlib.Omega.{arith}
use lib.IntN.{ℤ}
use lib.ListN.{length, get_or, take, drop, length-replicate}
use lib.Seq.{take_at}
use Rattle.std.specs.Prelude.{Result, Ok, Err}
use Rattle.clauses.specs.Code.{net}
use Rattle.clauses.specs.Clause.{clauses_of, Included}
use Rattle.clauses.specs.Listing.{mem, Fits}
use Rattle.clauses.specs.Limit.{max_entries}
use Rattle.clauses.specs.Lists.{any, all}
use Rattle.clauses.specs.Refusal.{number_of, numbered, first_over}
use Rattle.clauses.specs.Renaming.{Renames, Images}
use Rattle.clauses.specs.declared.refusal.Refusal.{Refusal}
use Rattle.clauses.specs.declared.refusal.Refusal.TheVariants.{TooManyRounds}
use Rattle.clauses.proofs.Deciding.{NoneHolds, is_among, decide_among}
use Rattle.rules.specs.declared.Verdict.{Verdict}
use Rattle.rules.specs.declared.Verdict.TheVariants.{Contradiction, Settled, Unfinished}
use Rattle.closure.specs.declared.close.Summary.{Summary}
use Rattle.rules.specs.Grouping.{After}
use Rattle.rules.specs.Ending.{Allows}
use Rattle.rules.specs.Answer.{Answer, Leads, on_contradiction, otherwise, no_lead, IsAnswer, Joined}
use Rattle.clauses.specs.Assignment.{Assignment, Satisfies}
use Rattle.rules.specs.Renaming.{Renamed}
use Rattle.rules.specs.Monotone.{Monotone}
use Rattle.rules.specs.Design.{Gate}
use Rattle.rules.specs.Copy.{Copied, Miter}
use Rattle.rules.specs.Compute.{answer}
use Rattle.closure.specs.Closing.{list_tests, closing_tests, Outcome, refused, summary, accepted, closing, Answers}
use Rattle.closure.specs.Passed.{close_rounds}
use Rattle.rules.proofs.Theorems.{answer_exact, answer_joined, answer_true, contradiction_true, answer_copied, answer_compared, settled_bound, rounds_bound, answer_beyond, demand_three, answers_monotone}
use Rattle.gates.proofs.CountBounds.{counts_few}
use Rattle.rules.proofs.Groups.{own_length}
use Rattle.closure.proofs.ClosingTests.{closing_parts, none_holds_fits, never_unfinished, rounds_accepted, accepted_fits, accepted_passed, accepted_outcome}
use Rattle.closure.proofs.Finishing.{passed_findable}

pub leads_length : {v : ℕ} {G : ℕ → ℕ → Type 0} {w : Verdict} {g : ℕ} {l : List ℕ} → Leads v G w g l → length l ≡ v
leads_length {v} on_contradiction = length-replicate v no_lead
leads_length (otherwise d s f) = s

-- there are at most V groups
pub groups_few : {v : ℕ} {G : ℕ → ℕ → Type 0} {w : Verdict} {g : ℕ} {l : List ℕ} → Leads v G w g l → g ≤ v
groups_few on_contradiction = omega arith
groups_few {v} {l = l} (otherwise d s f) = own_length v l

accepted_same : {s t : Summary} → ◌≡◌ {A = Result Summary Refusal} (Ok s) (Ok t) → s ≡ t
accepted_same e = cc

-- an accepted list has an answer
pub accepted_answers : (v c : ℕ) (row : List ℤ) (limit : ℕ) (leads work : List ℕ) (s : Summary) → (closing v c row limit leads work).result ≡ Ok s
    → (a : Answer) × Answers v c row limit leads work a
accepted_answers v c row limit leads work s h = (
  record {
    verdict = s.verdict;
    rounds = s.rounds;
    ands = s.ands;
    xors = s.xors;
    ites = s.ites;
    groups = s.groups;
    leads = take v (closing v c row limit leads work).leads;
  },
  record { accepts = h; hands_over = refl },
)

module _ (v c : ℕ) (row : List ℤ) (limit : ℕ) (leads work : List ℕ) (a : Answer) (h : Answers v c row limit leads work a) where
  abbrev cs : List (List ℕ)
  cs = clauses_of row

  fit : Fits v cs
  fit = accepted_fits v c row limit leads work (summary a) h.accepts

  -- and it is the computed one
  pub answers_is : a ≡ answer v cs limit
  unfolding accepted
  answers_is =
      λ i. record {
        verdict = (same i).verdict;
        rounds = (same i).rounds;
        ands = (same i).ands;
        xors = (same i).xors;
        ites = (same i).ites;
        groups = (same i).groups;
        leads = rows i;
      }
    where
      b : Answer
      b = answer v cs limit

      out : closing v c row limit leads work ≡ accepted v leads work b
      out = accepted_outcome v c row limit leads work (summary a) h.accepts

      same : summary a ≡ summary b
      same = accepted_same (sym h.accepts ∙ ap (λ (o : Outcome). o.result) out)

      rows : a.leads ≡ b.leads
      rows =
          sym h.hands_over ∙ ap (λ (o : Outcome). take v o.leads) out
          ∙ take_at b.leads (drop v leads) v (leads_length (answer_exact v cs fit limit).leads)

  -- Exactness: verdict, rounds, counts, groups and leads are what the gates and the groupings of the rules leave.
  pub closing_exact : IsAnswer v cs limit a
  closing_exact = subst⁻¹ (IsAnswer v cs limit) answers_is (answer_exact v cs fit limit)

  -- The leads join two literals or constants exactly when the grouping after the answer's rounds does: none missing, none added.
  pub closing_joined : (x y : ℕ) → Joined a x y ↔ After cs a.rounds x y
  closing_joined x y = subst⁻¹ (λ (b : Answer). Joined b x y ↔ After cs b.rounds x y) answers_is (answer_joined v cs fit limit x y)

  -- Truth: every assignment that satisfies all clauses gives each net its lead's value.
  pub closing_true : (value : ℕ → Bool) → Assignment value → Satisfies value cs → (i : ℕ) → i < v → value (2 * suc i) ≡ value (get_or a.leads i 0)
  closing_true value asg sat i k = subst⁻¹ (λ (b : Answer). value (2 * suc i) ≡ value (get_or b.leads i 0)) answers_is (answer_true v cs fit limit value asg sat i k)

  -- and there is a contradiction only if no assignment satisfies the list.
  pub closing_contradiction : a.verdict ≡ Contradiction → (value : ℕ → Bool) → Assignment value → ¬ Satisfies value cs
  closing_contradiction e = contradiction_true v cs fit limit (ap (λ (b : Answer). b.verdict) (sym answers_is) ∙ e)

  -- Completeness on copies: where the list holds a design without loops and its copy, every literal is joined to its copy if the limit allows
  -- as many rounds as its net's level,
  pub closing_copied : {gs : List Gate} {ρ level : ℕ → ℕ} → Copied cs gs ρ level → (x : ℕ) → Allows v limit (level (net x)) → Joined a x (ρ x)
  closing_copied {ρ = ρ} copied x k = subst⁻¹ (λ (b : Answer). Joined b x (ρ x)) answers_is (answer_copied v cs fit limit copied x k)

  -- and if it says that some output differs from its copy, there is a contradiction, in no more rounds than the comparison is deep.
  pub closing_compared : {gs : List Gate} {ρ level : ℕ → ℕ} → Copied cs gs ρ level → (n : ℕ) → Miter cs ρ level n → Allows v limit n
      → (a.verdict ≡ Contradiction) × (a.rounds ≤ n)
  closing_compared copied n miter k = subst⁻¹ (λ (b : Answer). (b.verdict ≡ Contradiction) × (b.rounds ≤ n)) answers_is (answer_compared v cs fit limit copied n miter k)

  -- Bounds: a settled list takes at most V rounds, a contradiction at most V + 1.
  pub closing_settled : a.verdict ≡ Settled → a.rounds ≤ v
  closing_settled e = subst⁻¹ (λ (b : Answer). b.rounds ≤ v) answers_is (settled_bound v cs fit limit (ap (λ (b : Answer). b.verdict) (sym answers_is) ∙ e))

  pub closing_bound : a.rounds ≤ suc v
  closing_bound = subst⁻¹ (λ (b : Answer). b.rounds ≤ suc v) answers_is (rounds_bound v cs fit limit)

  -- and so are the counts: no list has more ANDs or XORs than entries, nor more ITEs than 2^30.
  pub closing_counts : (a.ands ≤ max_entries) × (a.xors ≤ max_entries) × (a.ites ≤ 1073741824)
  closing_counts =
      let p = accepted_passed v c row limit leads work (summary a) h.accepts in
      let findable = passed_findable v row leads work p in
      counts_few row p.entries findable.0 findable.1 (record { and-count = closing_exact.ands; xor-count = closing_exact.xors; ite-count = closing_exact.ites })

-- Every round limit from V + 1 up has the same answer, whatever the rows held.
pub closing_beyond : (v c : ℕ) (row : List ℤ) (limit more : ℕ) (leads work leads' work' : List ℕ) (a b : Answer)
    → v < limit → limit ≤ more → Answers v c row limit leads work a → Answers v c row more leads' work' b → a ≡ b
closing_beyond v c row limit more leads work leads' work' a b h k p q =
    answers_is v c row limit leads work a p ∙ answer_beyond v (clauses_of row) (fit v c row limit leads work a p) limit more h k
    ∙ sym (answers_is v c row more leads' work' b q)

-- Demand 3: two lists that closing accepts, the clauses of one being the images of the other's under one renaming, have answers that differ by
-- the renaming alone.
pub closing_renamed : (v c d limit : ℕ) (row sow : List ℤ) (leads work leads' work' : List ℕ) (a b : Answer) (ρ : ℕ → ℕ)
    → Answers v c row limit leads work a → Answers v d sow limit leads' work' b → Renames v ρ → Images ρ (clauses_of row) (clauses_of sow)
    → Renamed v ρ a b
closing_renamed v c d limit row sow leads work leads' work' a b ρ h k ren images =
    rw (answers_is v c row limit leads work a h, answers_is v d sow limit leads' work' b k)
    (demand_three v limit (clauses_of row) (clauses_of sow) ρ (fit v c row limit leads work a h) (fit v d sow limit leads' work' b k) ren images)

-- More clauses never part two nets: two lists of one V that closing accepts under one round limit, the second holding every clause of the first.
module _
    (v c d limit : ℕ) (row sow : List ℤ) (leads work leads' work' : List ℕ) (a b : Answer)
    (h : Answers v c row limit leads work a) (k : Answers v d sow limit leads' work' b) (more : Included (clauses_of row) (clauses_of sow)) where
  pub closing_monotone : Monotone (clauses_of row) (clauses_of sow) a b
  closing_monotone = answers_monotone v limit (clauses_of row) (clauses_of sow) a b (closing_exact v c row limit leads work a h) (closing_exact v d sow limit leads' work' b k) more

  -- So what is joined in the first answer is joined in the second.
  pub closing_stays_joined : (x y : ℕ) → Joined a x y → Joined b x y
  closing_stays_joined x y j =
      (closing_joined v d sow limit leads' work' b k x y).1 (closing_monotone.joined x y ((closing_joined v c row limit leads work a h x y).0 j))

-- A limit over V is enough: the list is settled, or there is a contradiction.
pub closing_finished : (v c : ℕ) (row : List ℤ) (limit : ℕ) (leads work : List ℕ) (a : Answer) → v < limit → Answers v c row limit leads work a → a.verdict ≢ Unfinished
closing_finished v c row limit leads work a h p e =
    never_unfinished v row limit leads work (fit v c row limit leads work a p) h (ap (λ (b : Answer). b.verdict) (sym (answers_is v c row limit leads work a p)) ∙ e)

-- what `check_list` tests, 5 to 12: document 01's numbers and places, in its order
pub list_numbered : (v c : ℕ) (row : List ℤ) (leads work : ℕ)
    → numbered (list_tests v c row leads work) ≡ (5, 0) ∷ (6, 0) ∷ (7, 0) ∷ (8, 0) ∷ (9, 0) ∷ (10, first_over v row) ∷ (11, 0) ∷ (12, 0) ∷ []
unfolding numbered
list_numbered v c row leads work = refl

-- 'closing 5 to 12 and 14': document 01's numbers and places, in its order.
pub closing_numbered : (v c : ℕ) (row : List ℤ) (limit : ℕ) (leads work : List ℕ)
    → numbered (closing_tests v c row limit leads work)
    ≡ (5, 0) ∷ (6, 0) ∷ (7, 0) ∷ (8, 0) ∷ (9, 0) ∷ (10, first_over v row) ∷ (11, 0) ∷ (12, 0) ∷ (14, 0) ∷ []
unfolding numbered closing_tests
closing_numbered v c row limit leads work = refl

-- Refusal 14 is never given.
pub never_fourteen : (v c : ℕ) (row : List ℤ) (limit : ℕ) (leads work : List ℕ) → (closing v c row limit leads work).result ≢ Err TooManyRounds
unfolding refused accepted all any mem is_among
never_fourteen v c row limit leads work =
    rw (closing_parts v c row limit leads work)
    (decide_among (refused leads work) (close_rounds v row limit leads work) Other (5 ∷ 6 ∷ 7 ∷ 8 ∷ 9 ∷ 10 ∷ 11 ∷ 12 ∷ []) early (list_tests v c row (length leads) (length work)) refl late)
  where
    Other : Outcome → Type 0
    Other o = o.result ≢ Err TooManyRounds

    early : (r : Refusal) → mem (number_of r) (5 ∷ 6 ∷ 7 ∷ 8 ∷ 9 ∷ 10 ∷ 11 ∷ 12 ∷ []) ≡ true → ◌≡◌ {A = Result Summary Refusal} (Err r) (Err TooManyRounds) → ⊥
    early r h e = let same : r ≡ TooManyRounds = cc in false≢true (rw same at h)

    late : NoneHolds (list_tests v c row (length leads) (length work)) → Other (close_rounds v row limit leads work)
    late n = rw (rounds_accepted v row limit leads work (none_holds_fits v c row (length leads) (length work) n)) (λ e. let z : ◌≡◌ {A = ℕ} 0 1 = cc in omega arith)
