-- How many rounds closing takes: each that changes the grouping leaves fewer groups.
-- Assumes nothing.
use mathlib.Core.Path.{refl}
use mathlib.Core.Logic.{◌≢◌, inl, inr}
use mathlib.Core.List.{List}
use Prim.Native.Nat.{ℕ, zero, suc, ◌+◌, ◌≤◌, ◌<◌, suc-le-suc}
use native.Mathlib.Nat.{le_trans}
use native.Mathlib.Omega.{arith}
use lib.ListN.{length}
use Rattle.rules.specs.declared.Verdict.{Verdict}
use Rattle.rules.specs.declared.Verdict.TheVariants.{Contradiction, Unfinished}
use Rattle.clauses.specs.Listing.{Fits}
use Rattle.clauses.specs.Code.{nets_of}
use Rattle.rules.specs.Grouping.{After}
use Rattle.rules.specs.Ending.{Still, Clash, Ends, contradiction, settled, unfinished, Allows}
use Rattle.rules.specs.Answer.{own}
use Rattle.rules.specs.Compute.{gates_of, Grouping, by_leads, everything, round}
use Rattle.rules.proofs.Groupings.{after_grows, still_joined}
use Rattle.rules.proofs.Endings.{settled_at}
use Rattle.rules.proofs.Rounds.{Row, Made, round_made}
use Rattle.rules.proofs.Closing.{first_is}
use Rattle.rules.proofs.Groups.{own_length, groups_fall}

module _ (v : ℕ) (cs : List (List ℕ)) (fit : Fits v cs) where
  -- the leads after n rounds, and how many groups can be left
  record Reached (n : ℕ) : Type 0 where
    leads : List ℕ
    row : Row v leads (After cs n)
    left : n + length (own v leads) ≤ v

  reached : (n : ℕ) → ¬ Clash cs n → ((i : ℕ) → i < n → ¬ Still cs i) → Reached n
  unfolding After
  reached zero p h = record { leads = nets_of v; row = first_is v cs; left = omega (arith, own_length v (nets_of v)) }
  reached (suc n) p h = go (reached n (λ k. p (after_grows cs n 1 0 k)) (λ i q. h i (omega arith)))
    where
      go : Reached n → Reached (suc n)
      go t = made (round cs (gates_of v cs) t.leads) (round_made v cs fit t.leads (After cs n) t.row)
        where
          made : (g : Grouping) → Made v cs (After cs n) g → Reached (suc n)
          made everything k = absurd (p k)
          made (by_leads next) row =
              let q = groups_fall v cs n t.leads next t.row row (h n (omega arith)) in
              let u = t.left in
              record { leads = next; row = row; left = omega arith }

  -- at most V rounds change something without joining T to F
  pub changes_bound : (n : ℕ) → ¬ Clash cs n → ((i : ℕ) → i < n → ¬ Still cs i) → n ≤ v
  changes_bound n p h = let q = (reached n p h).left in omega arith

  pub settled_bounded : {limit n : ℕ} {w : Verdict} → w ≢ Contradiction → Ends cs limit w n → n ≤ v
  settled_bounded d (contradiction a h f) = absurd (d refl)
  settled_bounded d (settled {n = n} p a s e) = changes_bound n (p n a) e
  settled_bounded {limit} d (unfinished p e) = changes_bound limit (p limit (omega arith)) (λ i q. e i (omega arith))

  pub ends_bounded : {limit n : ℕ} {w : Verdict} → Ends cs limit w n → n ≤ suc v
  ends_bounded (contradiction {n = zero} a h f) = omega arith
  ends_bounded (contradiction {n = suc m} a h f) =
      suc-le-suc (changes_bound m (f m (omega arith)) (λ i q s. f i (omega arith) (still_joined cs i (suc m) 1 0 s h)))
  ends_bounded (settled {n = n} p a s e) = let q = changes_bound n (p n a) e in omega arith
  ends_bounded {limit} (unfinished p e) = let q = changes_bound limit (p limit (omega arith)) (λ i q. e i (omega arith)) in omega arith

  -- a limit over V is enough
  pub ends_finished : {limit n : ℕ} → v < limit → Ends cs limit Unfinished n → ⊥
  ends_finished {limit} h (unfinished p e) = let q = changes_bound limit (p limit (omega arith)) (λ i q. e i (omega arith)) in omega arith

  -- and all of them end alike
  pub ends_beyond : {limit more n : ℕ} {w : Verdict} → v < limit → limit ≤ more → Ends cs limit w n → Ends cs more w n
  ends_beyond h k (contradiction a c f) = contradiction (le_trans a k) c f
  ends_beyond {more = more} h k (settled {n = n} p a s e) = settled_at cs more (le_trans a k) (p n a) s e
  ends_beyond h k (unfinished p e) = absurd (ends_finished h (unfinished p e))

  -- under a limit that allows i rounds closing ends as under some limit of i or more
  pub ends_allowed : {limit i n : ℕ} {w : Verdict} → Allows v limit i → Ends cs limit w n → (more : ℕ) × (i ≤ more) × Ends cs more w n
  ends_allowed {limit} (inl h) e = (limit, h, e)
  ends_allowed {limit} {i} (inr h) e = (limit + i, omega arith, ends_beyond h (omega arith) e)
