-- The theorems about the answer to a list of nets 1 to V under any round limit.
-- Assumes nothing.
use mathlib.Core.Path.{◌≡◌, sym, ◌∙◌, subst}
use mathlib.Core.Logic.{inl, ◌↔◌, ◌≢◌}
use mathlib.Core.Bool.{Bool}
use mathlib.Core.List.{List, Memᴰ}
use Prim.Native.Nat.{ℕ, suc, ◌*◌, ◌≤◌, ◌<◌}
use native.Mathlib.Omega.{arith}
use lib.ListN.{get_or}
use Rattle.rules.specs.declared.Verdict.TheVariants.{Contradiction, Settled, Unfinished}
use Rattle.clauses.specs.Code.{net}
use Rattle.clauses.specs.Clause.{Included}
use Rattle.clauses.specs.Listing.{Fits}
use Rattle.clauses.specs.Renaming.{Renames, Images}
use Rattle.clauses.proofs.Extended.{extension}
use Rattle.rules.specs.Grouping.{After}
use Rattle.rules.specs.Ending.{Allows}
use Rattle.rules.specs.Answer.{Answer, IsAnswer, Joined}
use Rattle.rules.specs.Compute.{closed, tally, answer}
use Rattle.clauses.specs.Assignment.{Assignment, Satisfies}
use Rattle.rules.specs.Renaming.{Renamed}
use Rattle.rules.specs.Monotone.{Monotone}
use Rattle.rules.specs.Design.{Gate}
use Rattle.rules.specs.Copy.{Copied, Miter}
use Rattle.rules.specs.Starred.{Starred, starred}
use Rattle.rules.proofs.Groupings.{after_more}
use Rattle.rules.proofs.Endings.{ends_within, ends_joined, ends_first, ends_clash}
use Rattle.rules.proofs.Closing.{Ran, settled≢contradiction, closed_ran}
use Rattle.rules.proofs.Answers.{ran_answer, is_answer_once, ran_joined}
use Rattle.rules.proofs.Truth.{satisfied_apart, ran_true}
use Rattle.rules.proofs.Bounds.{settled_bounded, ends_bounded, ends_finished, ends_beyond, ends_allowed}
use Rattle.rules.proofs.Copies.{copy_joined}
use Rattle.rules.proofs.Miters.{miter_clash}
use Rattle.rules.proofs.RenamedAnswers.{ran_renamed, renamed_agrees}
use Rattle.rules.proofs.Starred.{starred_computed, starred_fits}

module _ (v : ℕ) (cs : List (List ℕ)) (fit : Fits v cs) (limit : ℕ) where
  ran : Ran v cs limit (closed v cs limit)
  ran = closed_ran v cs fit limit

  -- Exactness: verdict, rounds, counts, groups and leads are what the gates and the groupings of the rules leave, and no other answer is.
  pub answer_exact : IsAnswer v cs limit (answer v cs limit)
  unfolding answer
  answer_exact = ran_answer v cs fit limit (closed v cs limit) ran

  pub answer_unique : (a : Answer) → IsAnswer v cs limit a → a ≡ answer v cs limit
  answer_unique a h = is_answer_once v cs limit a (answer v cs limit) h answer_exact

  -- The leads join two literals or constants exactly when the grouping after the answer's rounds does: none missing, none added.
  pub answer_joined : (x y : ℕ) → Joined (answer v cs limit) x y ↔ After cs (answer v cs limit).rounds x y
  unfolding answer tally
  answer_joined x y = ran_joined v cs limit (closed v cs limit) ran x y

  -- Truth: every assignment that satisfies all clauses gives each net its lead's value.
  pub answer_true : (value : ℕ → Bool) → Assignment value → Satisfies value cs → (i : ℕ) → i < v → value (2 * suc i) ≡ value (get_or (answer v cs limit).leads i 0)
  unfolding answer tally
  answer_true value asg sat i h = ran_true value asg sat ran i h

  -- and there is a contradiction only if no assignment satisfies the list.
  pub contradiction_true : (answer v cs limit).verdict ≡ Contradiction → (value : ℕ → Bool) → Assignment value → ¬ Satisfies value cs
  contradiction_true e value asg sat = satisfied_apart value asg cs sat (answer v cs limit).rounds ((answer_joined 1 0).0 (inl e))

  -- Completeness on copies: where the list holds a design without loops and its copy, every literal is joined to its copy if the limit allows
  -- as many rounds as its net's level,
  pub answer_copied : {gs : List Gate} {ρ level : ℕ → ℕ} → Copied cs gs ρ level → (x : ℕ) → Allows v limit (level (net x)) → Joined (answer v cs limit) x (ρ x)
  answer_copied {ρ = ρ} {level = level} copied x h =
      let e = ends_allowed v cs fit h answer_exact.ends in
      (answer_joined x (ρ x)).1 (ends_joined cs e.0 e.2 (level (net x)) x (ρ x) e.1 (copy_joined copied (level (net x)) x (omega arith)))

  -- and if it says that some output differs from its copy, there is a contradiction, in no more rounds than the comparison is deep.
  pub answer_compared : {gs : List Gate} {ρ level : ℕ → ℕ} → Copied cs gs ρ level → (n : ℕ) → Miter cs ρ level n → Allows v limit n
      → ((answer v cs limit).verdict ≡ Contradiction) × ((answer v cs limit).rounds ≤ n)
  answer_compared copied n miter h = let e = ends_allowed v cs fit h answer_exact.ends in ends_first cs e.0 e.2 n e.1 (miter_clash copied miter)

  -- Bounds: a settled list takes at most V rounds,
  pub settled_bound : (answer v cs limit).verdict ≡ Settled → (answer v cs limit).rounds ≤ v
  settled_bound e = settled_bounded v cs fit (λ d. settled≢contradiction (sym e ∙ d)) answer_exact.ends

  -- a contradiction at most V + 1, and nothing takes more.
  pub rounds_bound : (answer v cs limit).rounds ≤ suc v
  rounds_bound = ends_bounded v cs fit answer_exact.ends

-- A limit over V is enough: the list is settled, or there is a contradiction.
pub answer_finished : (v : ℕ) (cs : List (List ℕ)) → Fits v cs → (limit : ℕ) → v < limit → (answer v cs limit).verdict ≢ Unfinished
answer_finished v cs fit limit h e = ends_finished v cs fit h (rw e at (answer_exact v cs fit limit).ends)

-- Every limit over V has the same answer.
pub answer_beyond : (v : ℕ) (cs : List (List ℕ)) → Fits v cs → (limit more : ℕ) → v < limit → limit ≤ more → answer v cs limit ≡ answer v cs more
answer_beyond v cs fit limit more h k =
    let a = answer_exact v cs fit limit in
    answer_unique v cs fit more (answer v cs limit)
    (record { ends = ends_beyond v cs fit h k a.ends; leads = a.leads; ands = a.ands; xors = a.xors; ites = a.ites })

-- Demand 3: the answers to a list and to its image under a renaming differ by the renaming alone.
pub demand_three : (v limit : ℕ) (cs ds : List (List ℕ)) (ρ : ℕ → ℕ) → Fits v cs → Fits v ds → Renames v ρ → Images ρ cs ds
    → Renamed v ρ (answer v cs limit) (answer v ds limit)
unfolding answer
demand_three v limit cs ds ρ p q ren images =
    let e = extension p ren images in
    renamed_agrees e.agrees
    (ran_renamed v e.there e.back cs ds e.image e.there_inside e.back_inside limit p q
    (closed v cs limit) (closed v ds limit) (closed_ran v cs p limit) (closed_ran v ds q limit))

-- More clauses never part two nets: the answers to a list and to one that holds every clause of it, under one round limit.
pub answers_monotone : (v limit : ℕ) (cs ds : List (List ℕ)) (a b : Answer) → IsAnswer v cs limit a → IsAnswer v ds limit b → Included cs ds → Monotone cs ds a b
answers_monotone v limit cs ds a b p q more =
    record {
      joined = λ x y h. ends_joined ds limit q.ends a.rounds x y within (after_more more a.rounds x y h);
      contradictions = λ e. ends_first ds limit q.ends a.rounds within (after_more more a.rounds 1 0 (ends_clash (rw e at p.ends) 1 0));
    }
  where
    within : a.rounds ≤ limit
    within = ends_within cs limit p.ends

-- The starred lists, as facts about the rules.
pub starred_answers : (s : Starred) → Memᴰ s starred → IsAnswer s.nets s.clauses (suc s.nets) s.result
starred_answers s k =
    subst (IsAnswer s.nets s.clauses (suc s.nets)) (starred_computed s k)
    (answer_exact s.nets s.clauses (starred_fits s k) (suc s.nets))
