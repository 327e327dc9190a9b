-- The chains of the clause index: how they are made, and a search along one.
-- Assumes nothing.
use mathlib.Core.Path.{◌≡◌, sym, ◌∙◌, ap, subst}
use mathlib.Core.Logic.{◌≢◌, ◌⊎◌, inl, inr}
use mathlib.Core.Bool.{true, false, true≢false}
use mathlib.Core.List.{List}
use Prim.Native.Nat.{ℕ, ◌+◌, ◌-◌, ◌≤◌, ◌<◌}
use native.Mathlib.Omega.{arith}
use native.Mathlib.Decide.{dec_lt, ℕ_discrete}
use lib.Dec.{eqb}
use lib.ListN.{length, get_or, set, replicate, length-set, get_or-replicate}
use lib.Seq.{get_or-set_same, get_or-set_other}
use borrow.Author.Tests.{eq-eqb, eqb-true}
use borrow.Table.Steps.{cases}
use Rattle.clauses.specs.Clause.{Same}
use Rattle.clauses.specs.Listing.{same_set}
use Rattle.clauses.specs.Row.{clause_at, Starts}
use Rattle.clauses.proofs.Lists.{or_cases, or_left, or_right}
use Rattle.clauses.proofs.Clauses.{is_same}
use Rattle.gates.specs.Index.{buckets, bucket_of, is_start, NextIn, Indexed}
use Rattle.gates.proofs.Places.{Passed}
use Rattle.gates.proofs.Buckets.{same_bucket, bucket_small}

-- Where clauses start

pub start_true : (row : List ℕ) (b : ℕ) → b < length row → is_start row b ≡ true → Starts row b
unfolding is_start
start_true row b h e = record { inside = h; behind = go (or_cases (eqb b 0) (eqb (get_or row (b - 1) 0) 0) e) }
  where
    go : (eqb b 0 ≡ true) ⊎ (eqb (get_or row (b - 1) 0) 0 ≡ true) → (b ≡ 0) ⊎ (get_or row (b - 1) 0 ≡ 0)
    go (inl t) = inl (eqb-true b 0 t)
    go (inr t) = inr (eqb-true (get_or row (b - 1) 0) 0 t)

pub start_false : (row : List ℕ) (b : ℕ) → is_start row b ≡ false → ¬ Starts row b
unfolding is_start
start_false row b e s = go s.behind
  where
    go : (b ≡ 0) ⊎ (get_or row (b - 1) 0 ≡ 0) → ⊥
    go (inl z) = true≢false (sym (or_left (eqb (get_or row (b - 1) 0) 0) (eq-eqb b 0 z)) ∙ e)
    go (inr z) = true≢false (sym (or_right (eqb b 0) (eq-eqb (get_or row (b - 1) 0) 0 z)) ∙ e)

pub start_is : (row : List ℕ) (b : ℕ) → Starts row b → is_start row b ≡ true
start_is row b s = cases (is_start row b) (λ t. t) (λ f. absurd (start_false row b f s))

-- The chains are made from the last clause to the first

-- the clauses from place b on are chained
pub record Chained (row : List ℕ) (size b : ℕ) (index : List ℕ) : Type 0 where
  pub inside : b ≤ length row
  pub room : length index ≡ size
  pub head : (h : ℕ) → h < buckets → NextIn row h b (get_or index h 0)
  pub next : (p : ℕ) → b ≤ p → Starts row p → NextIn row (bucket_of (clause_at row p)) (p + 1) (get_or index (buckets + p) 0)

module _ {row : List ℕ} {size : ℕ} where
  pub chained_none : {index : List ℕ} (n : ℕ) → index ≡ replicate n (length row) → buckets ≤ n → length index ≡ size → Chained row size (length row) index
  chained_none n e r l =
      record {
        inside = omega arith;
        room = l;
        head = λ h k. rw (e, get_or-replicate n h (length row) 0 (omega arith)) (record { low = omega arith; high = omega arith; here = λ m. absurd (omega arith); none = λ p m o s. absurd (omega arith) });
        next = λ p m s. absurd (omega (arith, s.inside));
      }

  -- a step down to place b
  module _ {b : ℕ} {index : List ℕ} (k : Chained row size (b + 1) index) where
    -- no clause of bucket h starts at b
    lower : (h j : ℕ) → NextIn row h (b + 1) j → (Starts row b → bucket_of (clause_at row b) ≢ h) → NextIn row h b j
    lower h j n d = record { low = omega (arith, n.low); high = n.high; here = n.here; none = λ p l m s. go p l m s (ℕ_discrete p b) }
      where
        go : (p : ℕ) → b ≤ p → p < j → Starts row p → Dec (p ≡ b) → bucket_of (clause_at row p) ≢ h
        go p l m s (yes e) q = d (subst (Starts row) e s) (sym (ap (λ (i : ℕ). bucket_of (clause_at row i)) e) ∙ q)
        go p l m s (no o) q = n.none p (omega arith) m s q

    pub chained_past : ¬ Starts row b → Chained row size b index
    chained_past d =
        record {
          inside = omega (arith, k.inside);
          room = k.room;
          head = λ h l. lower h (get_or index h 0) (k.head h l) (λ s. absurd (d s));
          next = λ p l s. go p l s (ℕ_discrete p b);
        }
      where
        go : (p : ℕ) → b ≤ p → Starts row p → Dec (p ≡ b) → NextIn row (bucket_of (clause_at row p)) (p + 1) (get_or index (buckets + p) 0)
        go p l s (yes e) = absurd (d (subst (Starts row) e s))
        go p l s (no n) = k.next p (omega arith) s

    -- the clause at b is put before the others of its bucket
    pub chained_put : Starts row b → buckets + length row ≤ size → {h : ℕ} → h ≡ bucket_of (clause_at row b) → Chained row size b (set (set index (buckets + b) (get_or index h 0)) h b)
    chained_put s r {h} i =
        record {
          inside = omega (arith, k.inside);
          room = length-set (set index (buckets + b) (get_or index h 0)) h b ∙ length-set index (buckets + b) (get_or index h 0) ∙ k.room;
          head = λ g l. head g l (ℕ_discrete g h);
          next = λ p l u. next p l u (ℕ_discrete p b);
        }
      where
        small : h < buckets
        small = omega (arith, i, bucket_small (clause_at row b))

        size_of : length (set index (buckets + b) (get_or index h 0)) ≡ size
        size_of = length-set index (buckets + b) (get_or index h 0) ∙ k.room

        head : (g : ℕ) → g < buckets → Dec (g ≡ h) → NextIn row g b (get_or (set (set index (buckets + b) (get_or index h 0)) h b) g 0)
        head g l (yes e) =
            rw (e, get_or-set_same (set index (buckets + b) (get_or index h 0)) h b 0 (omega (arith, small, size_of)))
            (record { low = omega arith; high = omega (arith, k.inside); here = λ m. (start_is row b s, sym i); none = λ p m o u. absurd (omega arith) })
        head g l (no n) =
            rw (get_or-set_other (set index (buckets + b) (get_or index h 0)) h g b 0 n, get_or-set_other index (buckets + b) g (get_or index h 0) 0 (omega arith))
            (lower g (get_or index g 0) (k.head g l) (λ u e. n (sym e ∙ sym i)))

        next : (p : ℕ) → b ≤ p → Starts row p → Dec (p ≡ b) → NextIn row (bucket_of (clause_at row p)) (p + 1) (get_or (set (set index (buckets + b) (get_or index h 0)) h b) (buckets + p) 0)
        next p l u (yes e) =
            rw (e, get_or-set_other (set index (buckets + b) (get_or index h 0)) h (buckets + b) b 0 (omega (arith, small)), get_or-set_same index (buckets + b) (get_or index h 0) 0 (omega (arith, k.inside, k.room, r)), ← i)
            (k.head h small)
        next p l u (no n) =
            rw (get_or-set_other (set index (buckets + b) (get_or index h 0)) h (buckets + p) b 0 (omega (arith, small)), get_or-set_other index (buckets + b) (buckets + p) (get_or index h 0) 0 (omega arith))
            (k.next p (omega arith) u)

  pub chained_all : {index : List ℕ} → Chained row size 0 index → buckets + length row ≤ size → Indexed row index
  chained_all k r = record { room = omega (arith, k.room); head = k.head; next = λ b s. k.next b (omega arith) s }

-- A search along a chain

-- it has come to place b, where a clause of the bucket starts or the row ends
pub record Searching (row q : List ℕ) (b : ℕ) : Type 0 where
  pub passed : Passed row q b
  pub bucket : b < length row → bucket_of (clause_at row b) ≡ bucket_of q

module _ {row q : List ℕ} where
  pub searching_first : {h j : ℕ} → NextIn row h 0 j → h ≡ bucket_of q → Searching row q j
  searching_first n e =
      record {
        passed = record { start = λ l. start_true row _ l (n.here l).0; none = λ p l s t. n.none p (omega arith) l s (sym (same_bucket q (clause_at row p) t) ∙ sym e) };
        bucket = λ l. (n.here l).1 ∙ e;
      }

  module _ {b j : ℕ} (n : NextIn row (bucket_of (clause_at row b)) (b + 1) j) (k : Searching row q b) (l : b < length row) where
    pub searching_next : same_set q (clause_at row b) ≡ false → Searching row q j
    searching_next e =
        record {
          passed = record { start = λ m. start_true row j m (n.here m).0; none = λ p m s. go p m s (dec_lt p b) (ℕ_discrete p b) };
          bucket = λ m. (n.here m).1 ∙ k.bucket l;
        }
      where
        go : (p : ℕ) → p < j → Starts row p → Dec (p < b) → Dec (p ≡ b) → ¬ Same q (clause_at row p)
        go p m s (yes o) d t = k.passed.none p o s t
        go p m s (no o) (yes i) t = true≢false (sym (is_same q (clause_at row b) (subst (λ (i : ℕ). Same q (clause_at row i)) i t)) ∙ e)
        go p m s (no o) (no i) t = n.none p (omega arith) m s (sym (same_bucket q (clause_at row p) t) ∙ sym (k.bucket l))
