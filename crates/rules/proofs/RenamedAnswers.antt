-- Closings of two lists whose clauses are each other's images under a renaming: they give the same, up to that renaming.
-- Assumes nothing.
use mathlib.Core.Path.{◌≡◌, refl, sym, subst, subst⁻¹}
use mathlib.Core.List.{List}
use Prim.Native.Nat.{ℕ, ◌≤◌}
use native.Mathlib.Omega.{arith}
use native.Mathlib.Nat.{le_antisymm}
use lib.ListN.{length}
use Rattle.clauses.specs.Code.{net}
use Rattle.clauses.specs.Listing.{Fits}
use Rattle.clauses.proofs.Renaming.{Image, image_back, Inside}
use Rattle.gates.proofs.Renamed.{and_count_renamed, xor_count_renamed, ite_count_renamed}
use Rattle.rules.specs.Grouping.{After}
use Rattle.rules.specs.Answer.{Answer, own, Joined}
use Rattle.rules.specs.Compute.{Closed, tally}
use Rattle.rules.specs.Renaming.{Renamed}
use Rattle.rules.proofs.Endings.{Agree, ends_once, after_forth, after_from, ends_renamed}
use Rattle.rules.proofs.Rounds.{Row}
use Rattle.rules.proofs.Closing.{Ran, with_row, with_none, ran_ends}
use Rattle.rules.proofs.Groups.{groups_le}
use Rattle.rules.proofs.Answers.{ran_joined}

module _ (v : ℕ) (ρ σ : ℕ → ℕ) (cs ds : List (List ℕ)) (im : Image ρ σ cs ds) (out : Inside v ρ) (back : Inside v σ) (limit : ℕ) where
  ran_groups : {r s : Closed} → Ran v cs limit r → Ran v ds limit s → Agree r.verdict s.verdict r.rounds s.rounds
      → length (own v r.leads) ≡ length (own v s.leads)
  ran_groups (with_row {n = n} {l = l} d e row) (with_row {n = m} {l = k} f g col) a =
      le_antisymm (groups_le v ρ σ cs ds im out n l k row col') (groups_le v σ ρ ds cs (image_back im) back n k l col' row)
    where
      col' : Row v k (After ds n)
      col' = subst⁻¹ (λ (i : ℕ). Row v k (After ds i)) a.rounds col
  ran_groups (with_row d e row) (with_none g) a = absurd (d a.verdicts)
  ran_groups (with_none e) (with_row f g col) a = absurd (f (sym a.verdicts))
  ran_groups (with_none e) (with_none g) a = refl

  pub ran_renamed : Fits v cs → Fits v ds → (r s : Closed) → Ran v cs limit r → Ran v ds limit s → Renamed v ρ (tally v cs r) (tally v ds s)
  unfolding tally
  ran_renamed p q r s x y =
      record {
        verdicts = same.verdicts;
        rounds = same.rounds;
        ands = and_count_renamed v ρ σ cs ds im;
        xors = xor_count_renamed v ρ σ cs ds im p q;
        ites = ite_count_renamed v ρ σ cs ds im p q;
        groups = ran_groups x y same;
        joined = λ a b _ _. (forth a b, from_image a b);
      }
    where
      same : Agree r.verdict s.verdict r.rounds s.rounds
      same = ends_once ds limit (ends_renamed ρ σ cs ds im limit (ran_ends x)) (ran_ends y)

      forth : (a b : ℕ) → Joined (tally v cs r) a b → Joined (tally v ds s) (ρ a) (ρ b)
      forth a b h =
          (ran_joined v ds limit s y (ρ a) (ρ b)).1
          (subst (λ (k : ℕ). After ds k (ρ a) (ρ b)) same.rounds (after_forth ρ σ cs ds im r.rounds a b ((ran_joined v cs limit r x a b).0 h)))

      from_image : (a b : ℕ) → Joined (tally v ds s) (ρ a) (ρ b) → Joined (tally v cs r) a b
      from_image a b h =
          (ran_joined v cs limit r x a b).1
          (after_from ρ σ cs ds im r.rounds a b (subst⁻¹ (λ (k : ℕ). After ds k (ρ a) (ρ b)) same.rounds ((ran_joined v ds limit s y (ρ a) (ρ b)).0 h)))

-- what agrees with ρ on the codes up to 2V + 1 may stand for it
pub renamed_agrees : {v : ℕ} {ρ ρ' : ℕ → ℕ} {a b : Answer} → ((x : ℕ) → net x ≤ v → ρ' x ≡ ρ x) → Renamed v ρ' a b → Renamed v ρ a b
renamed_agrees {v} {ρ} {ρ'} {a} {b} agrees r =
    record {
      verdicts = r.verdicts;
      rounds = r.rounds;
      ands = r.ands;
      xors = r.xors;
      ites = r.ites;
      groups = r.groups;
      joined = λ x y p q. rw (← agrees x (omega arith), ← agrees y (omega arith)) (r.joined x y p q);
    }
