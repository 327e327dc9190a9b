-- How closing ends: in one way only, shown at one round, with all that a round within the limit joins, and in the same way under a renaming.
-- Assumes nothing.
use mathlib.Core.Path.{◌≡◌, refl, sym, subst₂}
use mathlib.Core.Logic.{◌≢◌}
use mathlib.Core.List.{List}
use Prim.Native.Nat.{ℕ, suc, ◌≤◌, ◌<◌}
use native.Mathlib.Omega.{arith}
use native.Mathlib.Decide.{dec_le, dec_lt}
use native.Mathlib.Nat.{le_of_suc-le-suc}
use Rattle.rules.specs.declared.Verdict.{Verdict}
use Rattle.rules.specs.declared.Verdict.TheVariants.{Contradiction, Settled, Unfinished}
use Rattle.clauses.proofs.Renaming.{Renaming, one_stays, renaming_back, Image, image_back}
use Rattle.rules.specs.Grouping.{After}
use Rattle.rules.specs.Ending.{Still, Clash, Ends, contradiction, settled, unfinished}
use Rattle.rules.proofs.RenamedRules.{after_renamed}
use Rattle.rules.proofs.Groupings.{after_all, after_later, still_joined}

pub record Agree (w u : Verdict) (n m : ℕ) : Type 0 where
  pub verdicts : w ≡ u
  pub rounds : n ≡ m

module _ (cs : List (List ℕ)) (limit : ℕ) where
  -- the first round that joins T to F
  pub contradiction_at : {n : ℕ} → n < limit → ¬ Clash cs n → Clash cs (suc n) → Ends cs limit Contradiction (suc n)
  contradiction_at {n} a p h = contradiction a h (λ i q k. p (after_later cs i n 1 0 (le_of_suc-le-suc q) k))

  no_clash_to : {n : ℕ} → ¬ Clash cs n → (i : ℕ) → i ≤ n → ¬ Clash cs i
  no_clash_to {n} p i q h = p (after_later cs i n 1 0 q h)

  -- the first number of rounds after which the next changes nothing, T and F not being joined then
  pub settled_at : {n : ℕ} → n ≤ limit → ¬ Clash cs n → Still cs n → ((i : ℕ) → i < n → ¬ Still cs i) → Ends cs limit Settled n
  settled_at {n} a p s e = settled (λ i q h. p (still_joined cs n i 1 0 s h)) a s e

  pub unfinished_at : ¬ Clash cs limit → ((i : ℕ) → i ≤ limit → ¬ Still cs i) → Ends cs limit Unfinished limit
  unfinished_at p e = unfinished (no_clash_to p) e

  -- two least numbers with a property are one
  least_once : (P : ℕ → Type 0) (n m : ℕ) → P n → P m → ((i : ℕ) → i < n → ¬ P i) → ((i : ℕ) → i < m → ¬ P i) → n ≡ m
  least_once P n m p q f g = go (dec_lt n m) (dec_lt m n)
    where
      go : Dec (n < m) → Dec (m < n) → n ≡ m
      go (yes x) d = absurd (g n x p)
      go (no x) (yes y) = absurd (f m y q)
      go (no x) (no y) = omega arith

  pub ends_once : {w u : Verdict} {n m : ℕ} → Ends cs limit w n → Ends cs limit u m → Agree w u n m
  ends_once (contradiction {n = n} a h f) (contradiction {n = m} b k g) = record { verdicts = refl; rounds = least_once (Clash cs) n m h k f g }
  ends_once (contradiction {n = n} a h f) (settled q b t g) = absurd (q n a h)
  ends_once (contradiction {n = n} a h f) (unfinished q g) = absurd (q n a h)
  ends_once (settled p a s e) (contradiction {n = m} b k g) = absurd (p m b k)
  ends_once (settled {n = n} p a s e) (settled {n = m} q b t g) = record { verdicts = refl; rounds = least_once (Still cs) n m s t e g }
  ends_once (settled {n = n} p a s e) (unfinished q g) = absurd (g n a s)
  ends_once (unfinished p e) (contradiction {n = m} b k g) = absurd (p m b k)
  ends_once (unfinished p e) (settled {n = m} q b t g) = absurd (e m b t)
  ends_once (unfinished p e) (unfinished q g) = record { verdicts = refl; rounds = refl }

  -- Rounds within the limit

  pub ends_within : {w : Verdict} {n : ℕ} → Ends cs limit w n → n ≤ limit
  ends_within (contradiction q h f) = q
  ends_within (settled p q s e) = q
  ends_within (unfinished p e) = omega arith

  -- what one of them joins is joined at the end
  pub ends_joined : {w : Verdict} {n : ℕ} → Ends cs limit w n → (i a b : ℕ) → i ≤ limit → After cs i a b → After cs n a b
  ends_joined (contradiction {n = n} q h f) i a b r k = after_all cs n a b h
  ends_joined (settled {n = n} p q s e) i a b r k = still_joined cs n i a b s k
  ends_joined (unfinished p e) i a b r k = after_later cs i limit a b r k

  -- and if one of them joins T to F, there is a contradiction, in no later round
  pub ends_first : {w : Verdict} {n : ℕ} → Ends cs limit w n → (i : ℕ) → i ≤ limit → Clash cs i → (w ≡ Contradiction) × (n ≤ i)
  ends_first (contradiction {n = n} q h f) i r k = (refl, go (dec_le n i))
    where
      go : Dec (n ≤ i) → n ≤ i
      go (yes t) = t
      go (no t) = absurd (f i (omega arith) k)
  ends_first (settled p q s e) i r k = absurd (p i r k)
  ends_first (unfinished p e) i r k = absurd (p i r k)

-- after a contradiction everything is joined, and else T is not joined to F
pub ends_clash : {cs : List (List ℕ)} {limit n : ℕ} → Ends cs limit Contradiction n → (a b : ℕ) → After cs n a b
ends_clash {cs} {limit} {n} e = go (e)
  where
    go : Ends cs limit Contradiction n → (a b : ℕ) → After cs n a b
    go (contradiction q h f) a b = after_all cs n a b h

pub ends_apart : {cs : List (List ℕ)} {limit n : ℕ} {w : Verdict} → w ≢ Contradiction → Ends cs limit w n → ¬ Clash cs n
ends_apart d (contradiction a h f) = absurd (d refl)
ends_apart d (settled {n = n} p a s e) = p n a
ends_apart {limit = limit} d (unfinished p e) = p limit (omega arith)

-- Under a renaming

module _ (ρ σ : ℕ → ℕ) (cs ds : List (List ℕ)) (im : Image ρ σ cs ds) where
  abbrev ren : Renaming ρ σ
  ren = im.ren

  pub after_forth : (n a b : ℕ) → After cs n a b → After ds n (ρ a) (ρ b)
  after_forth n a b h = after_renamed ρ σ ren cs ds im.forth n a b h

  after_undone : (n a b : ℕ) → After ds n a b → After cs n (σ a) (σ b)
  after_undone n a b h = after_renamed σ ρ (renaming_back ρ σ ren) ds cs (image_back im).forth n a b h

  pub after_from : (n a b : ℕ) → After ds n (ρ a) (ρ b) → After cs n a b
  after_from n a b h = subst₂ (After cs n) (ren.undo a) (ren.undo b) (after_undone n (ρ a) (ρ b) h)

  clash_from : (n : ℕ) → Clash ds n → Clash cs n
  clash_from n h = after_from n 1 0 (subst₂ (After ds n) (sym (one_stays ρ σ ren)) (sym ren.zero_stays) h)

  clash_forth : (n : ℕ) → Clash cs n → Clash ds n
  clash_forth n h = subst₂ (After ds n) (one_stays ρ σ ren) ren.zero_stays (after_forth n 1 0 h)

  still_forth : (n : ℕ) → Still cs n → Still ds n
  still_forth n s a b h =
      subst₂ (After ds n) (ren.redo a) (ren.redo b) (after_forth n (σ a) (σ b) (s (σ a) (σ b) (after_undone (suc n) a b h)))

  still_from : (n : ℕ) → Still ds n → Still cs n
  still_from n s a b h = after_from n a b (s (ρ a) (ρ b) (after_forth (suc n) a b h))

  pub ends_renamed : (limit : ℕ) {w : Verdict} {n : ℕ} → Ends cs limit w n → Ends ds limit w n
  ends_renamed limit (contradiction {n = n} a h f) = contradiction a (clash_forth n h) (λ i q k. f i q (clash_from i k))
  ends_renamed limit (settled {n = n} p a s e) = settled (λ i q k. p i q (clash_from i k)) a (still_forth n s) (λ i q k. e i q (still_from i k))
  ends_renamed limit (unfinished p e) = unfinished (λ i q k. p i q (clash_from i k)) (λ i q k. e i q (still_from i k))
