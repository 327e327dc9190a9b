-- Chains of the numbers in the same bucket: how they are built, and a walk along one.
-- Assumes nothing.
use mathlib.Core.Path.{◌≡◌, subst, subst⁻¹}
use mathlib.Core.List.{List}
use Prim.Native.Nat.{ℕ, ◌+◌, ◌-◌, ◌≤◌, ◌<◌}
use native.Mathlib.Omega.{arith}
use native.Mathlib.Decide.{dec_lt, ℕ_discrete}
use lib.ListN.{length, get_or, set, replicate, length-set}
use lib.Seq.{get_or-set_same, get_or-set_other}
use Rattle.clauses.specs.Chains.{Last, ChainedIn}
use Rattle.clauses.proofs.Fills.{zero_at}

module _ (In : ℕ → ℕ → Type 0) where
  pub chain_none : (n : ℕ) (heads next : List ℕ) → heads ≡ replicate n 0 → ChainedIn In 0 heads next
  chain_none n heads next e =
      record {
        head = λ b h. rw (e, zero_at n b) (record { low = omega arith; at = λ l. absurd (omega arith); none = λ i l. absurd (omega arith) });
        link = λ i b l. absurd (omega arith);
      }

  module _ (m : ℕ) (heads next : List ℕ) (c : ChainedIn In m heads next) where
    -- m is not in bucket b
    last_passed : (b k : ℕ) → Last In b m k → ¬ In m b → Last In b (m + 1) k
    last_passed b k o n = record { low = omega (arith, o.low); at = o.at; none = λ i l d. none i l d (ℕ_discrete i m) }
      where
        none : (i : ℕ) → i < m + 1 → In i b → Dec (i ≡ m) → i < k
        none i l d (yes e) = absurd (n (subst (λ (x : ℕ). In x b) e d))
        none i l d (no e) = o.none i (omega arith) d

    -- m is in no bucket
    pub chain_passed : ((b : ℕ) → ¬ In m b) → ChainedIn In (m + 1) heads next
    chain_passed n = record { head = λ b h. last_passed b (get_or heads b 0) (c.head b h) (n b); link = λ i b l d. link i b l d (ℕ_discrete i m) }
      where
        link : (i b : ℕ) → i < m + 1 → In i b → Dec (i ≡ m) → Last In b i (get_or next i 0)
        link i b l d (yes e) = absurd (n b (subst (λ (x : ℕ). In x b) e d))
        link i b l d (no e) = c.link i b (omega arith) d

    -- m is in bucket b alone
    pub chain_linked : (b : ℕ) → In m b → ((x : ℕ) → In m x → x ≡ b) → b < length heads → m < length next
        → (heads' next' : List ℕ) → heads' ≡ set heads b (m + 1) → next' ≡ set next m (get_or heads b 0) → ChainedIn In (m + 1) heads' next'
    chain_linked b here alone inside room heads' next' p q =
        rw (p, q)
        (record { head = λ x h. head x (rw length-set at h) (ℕ_discrete x b); link = λ i x l d. link i x l d (ℕ_discrete i m) })
      where
        head : (x : ℕ) → x < length heads → Dec (x ≡ b) → Last In x (m + 1) (get_or (set heads b (m + 1)) x 0)
        head x h (yes e) =
            let z : m + 1 - 1 ≡ m = omega arith in
            rw (e, get_or-set_same heads b (m + 1) 0 inside) (record { low = omega arith; at = λ l. subst⁻¹ (λ (i : ℕ). In i b) z here; none = λ i l d. l })
        head x h (no n) = rw (get_or-set_other heads b x (m + 1) 0 n) (last_passed x (get_or heads x 0) (c.head x h) (λ d. n (alone x d)))

        link : (i x : ℕ) → i < m + 1 → In i x → Dec (i ≡ m) → Last In x i (get_or (set next m (get_or heads b 0)) i 0)
        link i x l d (yes e) =
            let z : x ≡ b = alone x (subst (λ (j : ℕ). In j x) e d) in
            rw (e, get_or-set_same next m (get_or heads b 0) 0 room, z) (c.head b inside)
        link i x l d (no n) = rw (get_or-set_other next m i (get_or heads b 0) 0 n) (c.link i x (omega arith) d)

-- what the numbers from m on are in does not matter
module _ {In On : ℕ → ℕ → Type 0} where
  last_moved : {b m k : ℕ} → ((i : ℕ) → i < m → In i b → On i b) → ((i : ℕ) → i < m → On i b → In i b) → Last In b m k → Last On b m k
  last_moved f g o = record { low = o.low; at = λ l. f _ (omega (arith, o.low)) (o.at l); none = λ i l d. o.none i l (g i l d) }

  pub chain_moved : {m : ℕ} {heads next : List ℕ} → ((i b : ℕ) → i < m → In i b → On i b) → ((i b : ℕ) → i < m → On i b → In i b)
      → ChainedIn In m heads next → ChainedIn On m heads next
  chain_moved f g c =
      record {
        head = λ b h. last_moved (λ i. f i b) (λ i. g i b) (c.head b h);
        link = λ i b l d. last_moved (λ j u. f j b (omega arith)) (λ j u. g j b (omega arith)) (c.link i b l (g i b l d));
      }

-- a walk along the chain of bucket b has come to k, counted from 1: the numbers from there on are visited
pub record WalkIn (In : ℕ → ℕ → Type 0) (m b : ℕ) (Visited : ℕ → Type 0) (k : ℕ) : Type 0 where
  pub low : k ≤ m
  pub at : 0 < k → In (k - 1) b
  pub seen : (i : ℕ) → i < m → k ≤ i → In i b → Visited i

abbrev pub Walk : (ℕ → ℕ) → ℕ → ℕ → (ℕ → Type 0) → ℕ → Type 0
Walk key = WalkIn (λ i b. key i ≡ b)

module _ (In : ℕ → ℕ → Type 0) (m b : ℕ) where
  pub walk_map : {P Q : ℕ → Type 0} {k : ℕ} → ((i : ℕ) → P i → Q i) → WalkIn In m b P k → WalkIn In m b Q k
  walk_map f w = record { low = w.low; at = w.at; seen = λ i l h d. f i (w.seen i l h d) }

  pub walk_end : {P : ℕ → Type 0} {k : ℕ} → WalkIn In m b P k → k ≤ 0 → (i : ℕ) → i < m → In i b → P i
  walk_end w h i l d = w.seen i l (omega arith) d

  module _ (heads next : List ℕ) (c : ChainedIn In m heads next) where
    pub walk_begin : (P : ℕ → Type 0) → b < length heads → WalkIn In m b P (get_or heads b 0)
    walk_begin P h = let o = c.head b h in record { low = o.low; at = o.at; seen = λ i l k d. absurd (omega (arith, o.none i l d)) }

    module _ {P : ℕ → Type 0} {k : ℕ} (w : WalkIn In m b P k) (h : 0 < k) where
      linked : Last In b (k - 1) (get_or next (k - 1) 0)
      linked = c.link (k - 1) b (omega (arith, w.low)) (w.at h)

      pub walk_next : P (k - 1) → WalkIn In m b P (get_or next (k - 1) 0)
      walk_next v = record { low = omega (arith, linked.low, w.low); at = linked.at; seen = λ i l g d. seen i l g d (dec_lt i k) (ℕ_discrete i (k - 1)) }
        where
          seen : (i : ℕ) → i < m → get_or next (k - 1) 0 ≤ i → In i b → Dec (i < k) → Dec (i ≡ k - 1) → P i
          seen i l g d (no n) e = w.seen i l (omega arith) d
          seen i l g d (yes n) (yes e) = subst⁻¹ P e v
          seen i l g d (yes n) (no e) = absurd (omega (arith, linked.none i (omega arith) d))

      pub walk_falls : get_or next (k - 1) 0 < k
      walk_falls = omega (arith, linked.low)
