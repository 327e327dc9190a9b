-- Laws of a table of keys: the slots with one key, along the chain of its bucket, and entering a key.
-- Assumes nothing.
use mathlib.Core.Path.{◌≡◌, refl, sym, ◌∙◌, ap, subst, subst⁻¹}
use mathlib.Core.Logic.{◌≢◌}
use mathlib.Core.List.{List}
use Rattle.std.specs.Prelude.{Option, Some, None}
use Prim.Native.Nat.{ℕ, suc, ◌+◌, ◌-◌, ◌≤◌, ◌<◌, ◌%◌}
use native.Mathlib.Omega.{arith}
use native.Mathlib.Nat.{mod-lt}
use native.Mathlib.Decide.{dec_lt, ℕ_discrete}
use lib.ListN.{length, get_or, set, length-set}
use lib.Seq.{get_or-set_same, get_or-set_other}
use Rattle.clauses.specs.Chains.{Last, Chained}
use Rattle.clauses.proofs.Chains.{chain_moved, chain_linked}
use Rattle.closure.specs.Entered.{Keeps}
use Rattle.closure.specs.declared.table.KeyTable.{KeyTable}
use Rattle.closure.specs.Table.{bucket_of, Table, LastSlot, ChainFrom}

-- a slot counted from 1, 0 where there is none
abbrev pub counted : Option ℕ → ℕ
counted None = 0
counted (Some k) = suc k

pub last_low : (keys : List ℕ) (key : ℕ) {m : ℕ} (o : Option ℕ) → LastSlot keys key m o → counted o ≤ m
last_low keys key None h = omega arith
last_low keys key (Some k) h = omega (arith, h.0)

pub last_none : (keys : List ℕ) (key : ℕ) {m : ℕ} (o : Option ℕ) → LastSlot keys key m o → (i : ℕ) → i < m → get_or keys i 0 ≡ key → i < counted o
last_none keys key None h i l e = absurd (h i l e)
last_none keys key (Some k) h i l e = omega (arith, h.2 i l e)

-- the slot, if there is one, has the key
abbrev pub HasKey : List ℕ → ℕ → Option ℕ → Type 0
HasKey keys key None = Unit {0}
HasKey keys key (Some k) = get_or keys k 0 ≡ key

pub last_key : (keys : List ℕ) (key m : ℕ) (o : Option ℕ) → LastSlot keys key m o → HasKey keys key o
last_key keys key m None h = tt
last_key keys key m (Some k) h = h.1

-- Slots with one key

-- along the chain only other keys have been met
pub record Seeking {keys next : List ℕ} {key bound from : ℕ} (h : ChainFrom keys next key bound from) (k : ℕ) : Type 0 where
  pub low : k ≤ bound
  pub at : 0 < k → bucket_of (length h.heads) keys (k - 1) ≡ key % length h.heads
  pub none : (i : ℕ) → i < bound → k ≤ i → get_or keys i 0 ≢ key

module _ {keys next : List ℕ} {key bound from : ℕ} (h : ChainFrom keys next key bound from) where
  bucket-of : (i : ℕ) → get_or keys i 0 ≡ key → bucket_of (length h.heads) keys i ≡ key % length h.heads
  unfolding bucket_of
  bucket-of i e = ap (λ (x : ℕ). x % length h.heads) e

  pub seek_begins : Seeking h from
  seek_begins = record { low = h.last.low; at = h.last.at; none = λ i l g e. omega (arith, g, h.last.none i l (bucket-of i e)) }

  module _ {k : ℕ} (s : Seeking h k) where
    pub seek_room : 0 < k → (k ≤ length keys) × (k ≤ length next)
    seek_room l = (omega (arith, s.low, h.low, h.table.low), omega (arith, s.low, h.low, h.table.low, h.table.room))

    pub seek_found : 0 < k → get_or keys (k - 1) 0 ≡ key → LastSlot keys key bound (Some (k - 1))
    seek_found l e = (omega (arith, l, s.low), e, λ i g d. below i g d (dec_lt i k))
      where
        below : (i : ℕ) → i < bound → get_or keys i 0 ≡ key → Dec (i < k) → i ≤ k - 1
        below i g d (yes n) = omega arith
        below i g d (no n) = absurd (s.none i g (omega arith) d)

    pub seek_ends : k ≤ 0 → LastSlot keys key bound None
    seek_ends l i g d = s.none i g (omega arith) d

    module _ (l : 0 < k) where
      linked : Last (λ i b. bucket_of (length h.heads) keys i ≡ b) (key % length h.heads) (k - 1) (get_or next (k - 1) 0)
      linked = h.table.chains.link (k - 1) (key % length h.heads) (omega (arith, s.low, h.low, l)) (s.at l)

      pub seek_falls : get_or next (k - 1) 0 < k
      seek_falls = omega (arith, linked.low, l)

      pub seek_on : get_or keys (k - 1) 0 ≢ key → Seeking h (get_or next (k - 1) 0)
      seek_on n = record { low = omega (arith, linked.low, s.low); at = linked.at; none = λ i g d e. rest i g d e (dec_lt i k) (ℕ_discrete i (k - 1)) }
        where
          rest : (i : ℕ) → i < bound → get_or next (k - 1) 0 ≤ i → get_or keys i 0 ≡ key → Dec (i < k) → Dec (i ≡ k - 1) → ⊥
          rest i g d e (no m) q = s.none i g (omega arith) e
          rest i g d e (yes m) (yes q) = n (ap (λ (j : ℕ). get_or keys j 0) (sym q) ∙ e)
          rest i g d e (yes m) (no q) = omega (arith, d, linked.none i (omega arith) (bucket-of i e))

-- the chain of a key from its head, and behind a slot with the key
module _ {count : ℕ} {keys next heads : List ℕ} (t : Table count keys next heads) where
  pub chain_head : (key : ℕ) {m : ℕ} → length heads ≡ m → ChainFrom keys next key count (get_or heads (key % m) 0)
  chain_head key e =
      subst (λ (m : ℕ). ChainFrom keys next key count (get_or heads (key % m) 0)) e
      (record { count = count; heads = heads; table = t; low = omega arith; last = t.chains.head (key % length heads) (mod-lt key t.some) })

  pub chain_behind : (k : ℕ) → k < count → ChainFrom keys next (get_or keys k 0) k (get_or next k 0)
  unfolding bucket_of
  chain_behind k h = record { count = count; heads = heads; table = t; low = omega arith; last = t.chains.link k (get_or keys k 0 % length heads) (omega arith) refl }

-- Entering

module _ {count : ℕ} {keys next heads : List ℕ} (t : Table count keys next heads) (key : ℕ) (room : count < length keys) where
  bucket_kept : (m j : ℕ) → j < count → bucket_of m keys j ≡ bucket_of m (set keys count key) j
  unfolding bucket_of
  bucket_kept m j l = rw (get_or-set_other keys count j key 0 (omega arith))

  bucket_new : (m : ℕ) → bucket_of m (set keys count key) count ≡ key % m
  unfolding bucket_of
  bucket_new m = rw (get_or-set_same keys count key 0 room)

  pub entered : (heads' next' : List ℕ) → heads' ≡ set heads (key % length heads) (count + 1) → next' ≡ set next count (get_or heads (key % length heads) 0)
      → Table (count + 1) (set keys count key) next' heads'
  entered heads' next' p q =
      record {
        some = rw size t.some;
        low = rw length-set (omega arith);
        room = rw (length-set keys count key, q, length-set next count (get_or heads (key % length heads) 0)) t.room;
        chains = rw size chains;
      }
    where
      size : length heads' ≡ length heads
      size = rw (p, length-set heads (key % length heads) (count + 1))

      chains : Chained (bucket_of (length heads) (set keys count key)) (count + 1) heads' next'
      chains =
          chain_linked _ count heads next
          (chain_moved (λ i b l d. sym (bucket_kept (length heads) i l) ∙ d) (λ i b l d. bucket_kept (length heads) i l ∙ d) t.chains)
          (key % length heads) (bucket_new (length heads)) (λ x d. sym d ∙ bucket_new (length heads)) (mod-lt key t.some) (omega (arith, t.room)) heads' next' p q

-- What entering keeps

pub keeps_none : {S B : ℕ} (table : KeyTable S B) → Keeps table table
keeps_none table = record { more = omega arith; key = λ i l. refl; value = λ i l. refl }

pub keeps_then : {S B : ℕ} {table table' table'' : KeyTable S B} → Keeps table table' → Keeps table' table'' → Keeps table table''
keeps_then x y =
    record {
      more = omega (arith, x.more, y.more);
      key = λ i h. y.key i (omega (arith, x.more)) ∙ x.key i h;
      value = λ i h. y.value i (omega (arith, x.more)) ∙ x.value i h;
    }

-- A walk along the slots with one key, from the last one down

-- the slots behind `at` have been visited, and at the end all
pub record KeyWalk {S B : ℕ} (table : KeyTable S B) (key : ℕ) (Visited : ℕ → Type 0) (at : Option ℕ) : Type 0 where
  pub low : counted at ≤ table.count
  pub key_is : HasKey table.keys key at
  pub seen : (i : ℕ) → i < table.count → counted at ≤ i → get_or table.keys i 0 ≡ key → Visited i

module _ {S B : ℕ} (table : KeyTable S B) (key : ℕ) (Visited : ℕ → Type 0) where
  pub walk_begins : (o : Option ℕ) → LastSlot table.keys key table.count o → KeyWalk table key Visited o
  walk_begins o h =
      record { low = last_low table.keys key o h; key_is = last_key table.keys key _ o h; seen = λ i l b e. absurd (omega (arith, b, last_none table.keys key o h i l e)) }

  pub walk_inside : {k : ℕ} → KeyWalk table key Visited (Some k) → k < table.count
  walk_inside w = omega (arith, w.low)

  pub walk_next : {k : ℕ} → KeyWalk table key Visited (Some k) → (r : Option ℕ) → LastSlot table.keys (get_or table.keys k 0) k r → Visited k → KeyWalk table key Visited r
  walk_next {k} w r o v =
      record {
        low = omega (arith, last_low table.keys key r before, w.low);
        key_is = last_key table.keys key _ r before;
        seen = λ i l b e. seen i l b e (dec_lt i k) (ℕ_discrete i k);
      }
    where
      before : LastSlot table.keys key k r
      before = subst (λ (x : ℕ). LastSlot table.keys x k r) w.key_is o

      seen : (i : ℕ) → i < table.count → counted r ≤ i → get_or table.keys i 0 ≡ key → Dec (i < k) → Dec (i ≡ k) → Visited i
      seen i l b e (yes n) d = absurd (omega (arith, b, last_none table.keys key r before i n e))
      seen i l b e (no n) (yes d) = subst⁻¹ Visited d v
      seen i l b e (no n) (no d) = w.seen i l (omega arith) e

  pub walk_ends : KeyWalk table key Visited None → (i : ℕ) → i < table.count → get_or table.keys i 0 ≡ key → Visited i
  walk_ends w i l = w.seen i l (omega arith)

pub walk_map : {S B : ℕ} {table : KeyTable S B} {key : ℕ} {P Q : ℕ → Type 0} {at : Option ℕ} → ((i : ℕ) → i < table.count → get_or table.keys i 0 ≡ key → P i → Q i)
    → KeyWalk table key P at → KeyWalk table key Q at
walk_map f w = record { low = w.low; key_is = w.key_is; seen = λ i l b e. f i l e (w.seen i l b e) }
