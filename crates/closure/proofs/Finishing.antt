-- What the finder and the rounds leave is the answer, and closing accepts.
-- Assumes nothing.
use mathlib.Core.Path.{◌≡◌, sym, ◌∙◌, ap, subst, subst⁻¹}
use mathlib.Core.Logic.{◌↔◌, eq-Equivalence}
use mathlib.Core.List.{List, ◌++◌, map}
use Prim.Native.Nat.{ℕ, ◌+◌, ◌-◌, ◌≤◌}
use lib.IntN.{ℤ}
use lib.ListN.{length, get_or, take, drop, replicate}
use Rattle.std.specs.Prelude.{Ok}
use Rattle.clauses.specs.Code.{code_of}
use Rattle.clauses.specs.Clause.{clauses_in, clauses_of, Present}
use Rattle.clauses.proofs.Fitting.{entries_fit}
use Rattle.clauses.specs.Listing.{Fits}
use Rattle.gates.specs.Counted.{AreCounts}
use Rattle.gates.specs.Found.{Found}
use Rattle.gates.specs.Normal.{normal_row}
use Rattle.clauses.specs.Row.{SmallEntries}
use Rattle.clauses.proofs.Clauses.{literals_same}
use Rattle.clauses.proofs.Entries.{entries_small, entries_ended}
use Rattle.gates.proofs.Found.{found_same}
use Rattle.gates.proofs.NormalForm.{normal_has, normal_clauses, normal_present, normal_length}
use Rattle.gates.proofs.Counting.{same_with, counted_once}
use Rattle.gates.proofs.Counted.{ands_counted, xors_counted, ites_counted}
use Rattle.rules.specs.declared.Verdict.{Verdict}
use Rattle.rules.specs.Answer.{Answer, own}
use Rattle.rules.specs.Compute.{ended, closed, tally, answer}
use Rattle.closure.specs.Closing.{max_work, summary, accepted}
use Rattle.closure.specs.Passed.{Passed, ClosedTo, close_rounds}
use Rattle.rules.proofs.SameLists.{closed_same}
use Rattle.closure.proofs.ClosingTests.{never_too_many, rounds_accepted}

module _ (v : ℕ) (row : List ℤ) (limit : ℕ) (leads work : List ℕ) (fit : Fits v (clauses_of row)) (ds : List (List ℕ)) (fit' : Fits v ds)
    (same : (c : List ℕ) → Present ds c ↔ Present (clauses_of row) c) (a x i : ℕ) (counts : AreCounts (clauses_of row) a x i)
    (w : Verdict) (n g : ℕ) (l : List ℕ) (done : ended w n l ≡ closed v ds limit) (left : g ≡ length (own v l)) where
  abbrev cs : List (List ℕ)
  cs = clauses_of row

  abbrev found : Answer
  found = record { verdict = w; rounds = n; ands = a; xors = x; ites = i; groups = g; leads = l }

  found_answer : found ≡ answer v cs limit
  unfolding answer tally
  found_answer = counted ∙ ap (tally v cs) (done ∙ closed_same v ds cs same fit' fit limit)
    where
      counted : found ≡ tally v cs (ended w n l)
      counted =
          λ k. record {
            verdict = w;
            rounds = n;
            ands = counted_once same_with counts.and-count (ands_counted cs) k;
            xors = counted_once same_with counts.xor-count (xors_counted v cs fit) k;
            ites = counted_once eq-Equivalence counts.ite-count (ites_counted v cs fit) k;
            groups = left k;
            leads = l;
          }

  -- test 14 does not hold
  found_bound : n ≤ v + 1
  found_bound = subst (λ (b : Answer). b.rounds ≤ v + 1) (sym found_answer) (never_too_many v row limit leads work fit)

  found_accepted : (leads' work' : List ℕ) → leads' ≡ l ++ drop v leads → work' ≡ replicate max_work 0 ++ drop max_work work
      → record { result = Ok (summary found); leads = leads'; work = work' } ≡ close_rounds v row limit leads work
  unfolding accepted
  found_accepted leads' work' p q =
      rows ∙ ap (accepted v leads work) found_answer ∙ sym (rounds_accepted v row limit leads work fit)
    where
      rows : record { result = Ok (summary found); leads = leads'; work = work' } ≡ accepted v leads work found
      rows = rw (p, q)

-- By the steps of closing

-- what the finder asks of a row
pub passed_findable : (v : ℕ) (row : List ℤ) (leads work : List ℕ) → Passed v row leads work
    → SmallEntries row × (get_or (map code_of row) (length row - 1) 0 ≡ 0)
passed_findable v row leads work p = (entries_small v row p.nets p.within, entries_ended row p.ended)

-- what the finder has left at the start of two rows
pub record Left (v : ℕ) (row : List ℤ) (codes marks : List ℕ) (n : ℕ) : Type 0 where
  pub few : n ≤ length row
  pub found : Found (clauses_in (take n codes)) (take n codes) (take n marks)
  pub same : (c : List ℕ) → Present (clauses_in (take n codes)) c ↔ Present (clauses_of row) c
  pub fits : Fits v (clauses_in (take n codes))

pub finder_left : (v : ℕ) (row : List ℤ) (leads work : List ℕ) → Passed v row leads work → (codes marks : List ℕ) (n : ℕ)
    → n ≡ length (normal_row row) → take (length (normal_row row)) codes ≡ normal_row row → Found (clauses_of row) (normal_row row) (take (length (normal_row row)) marks)
    → Left v row codes marks n
finder_left v row leads work p codes marks n en ec f =
    record {
      few = subst⁻¹ (λ (k : ℕ). k ≤ length row) en (normal_length row ends);
      found =
          subst⁻¹ (λ (r : List ℕ). Found (clauses_in r) r (take n marks)) part
          (found_same (normal_present row) (subst⁻¹ (λ (k : ℕ). Found (clauses_of row) N (take k marks)) en f));
      same = subst⁻¹ (λ (r : List ℕ). (c : List ℕ) → Present (clauses_in r) c ↔ Present (clauses_of row) c) part (λ c. ((normal_present row c).1, (normal_present row c).0));
      fits = subst⁻¹ (λ (r : List ℕ). Fits v (clauses_in r)) part fits;
    }
  where
    N : List ℕ
    N = normal_row row

    ends : get_or (map code_of row) (length row - 1) 0 ≡ 0
    ends = entries_ended row p.ended

    part : take n codes ≡ N
    part = ap (λ (k : ℕ). take k codes) en ∙ ec

    fits : Fits v (clauses_in N)
    fits c k x m =
        let o = normal_has (clauses_of row) c (rw (normal_clauses row) at k) in
        entries_fit v row p.within o.of o.listed x ((literals_same o.of).left x (rw o.is at m))

module _ (v : ℕ) (row : List ℤ) (limit : ℕ) (leads work : List ℕ) (p : Passed v row leads work)
    (codes marks : List ℕ) (m a x i : ℕ) (q : Left v row codes marks m) (counts : AreCounts (clauses_of row) a x i)
    (leads' : List ℕ) (w : Verdict) (n g : ℕ) (r : ClosedTo v (clauses_in (take m codes)) limit leads leads' w n g) where
  pub steps_bound : n ≤ v + 1
  steps_bound =
      found_bound v row limit leads work (entries_fit v row p.within) (clauses_in (take m codes)) q.fits q.same a x i counts w n g r.last r.ends r.left

  pub steps_accepted : (zeros : List ℕ) → zeros ≡ replicate max_work 0
      → record { result = Ok (record { verdict = w; rounds = n; ands = a; xors = x; ites = i; groups = g }); leads = leads'; work = zeros ++ drop max_work work }
      ≡ close_rounds v row limit leads work
  steps_accepted zeros e =
      found_accepted v row limit leads work (entries_fit v row p.within) (clauses_in (take m codes)) q.fits q.same a x i counts w n g r.last r.ends r.left
      leads' (zeros ++ drop max_work work) r.row (ap (λ (l : List ℕ). l ++ drop max_work work) e)
