-- Buckets of clauses: equal sets have the same one.
-- Assumes nothing.
use mathlib.Core.Path.{◌≡◌, refl, sym, ◌∙◌, ap}
use mathlib.Core.List.{List}
use Prim.Native.Nat.{ℕ, ◌+◌, ◌*◌, ◌/◌, ◌%◌, ◌≤◌, ◌<◌}
use native.Mathlib.Nat.{mul-le-mul}
use native.Mathlib.Omega.{arith}
use lib.ListN.{length, get_or, drop}
use Rattle.clauses.specs.Lists.{Pick, first, later}
use Rattle.clauses.specs.Clause.{Same}
use Rattle.clauses.specs.Listing.{literals}
use Rattle.clauses.specs.Sign.{flip, is_inverse}
use Rattle.clauses.specs.Row.{clause_at}
use Rattle.clauses.proofs.Distinct.{Distinct}
use Rattle.clauses.proofs.Picks.{Perm, perm_of_same}
use Rattle.clauses.proofs.Clauses.{same_sym, same_trans, literals_same, literals_distinct, literals_once}
use Rattle.clauses.proofs.Rows.{clause_stops, clause_goes_on}
use Rattle.gates.specs.Index.{share, sum, buckets, bucket_of}
use Rattle.gates.specs.Mask.{masked}
use Rattle.gates.proofs.Masks.{masked_end, masked_on}

sum_pick : {x : ℕ} {xs ys : List ℕ} → Pick x xs ys → sum xs ≡ share x + sum ys
unfolding sum
sum_pick first = refl
sum_pick (later h) = omega (arith, sum_pick h)

sum_perm : {xs ys : List ℕ} → Perm xs ys → sum xs ≡ sum ys
unfolding sum
sum_perm Perm.none = refl
sum_perm (Perm.one {x = x} h p) = ap (λ (s : ℕ). share x + s) (sum_perm p) ∙ sym (sum_pick h)

pub same_bucket : (c d : List ℕ) → Same c d → bucket_of c ≡ bucket_of d
unfolding bucket_of
same_bucket c d s =
    let p = perm_of_same (literals c) (literals d) (literals_distinct c) (literals_distinct d) (same_trans (literals_same c) (same_trans s (same_sym (literals_same d)))) in
    ap (λ (n : ℕ). n % buckets) (sum_perm p)

pub bucket_small : (c : List ℕ) → bucket_of c < buckets
unfolding bucket_of
bucket_small c = omega arith

pub bucket_below : {h : ℕ} (c : List ℕ) → h ≡ bucket_of c → h < buckets
bucket_below {h} c e = omega (arith, e, bucket_small c)

-- The sum so far, and that of the rest

pub share_small : (x : ℕ) → share x ≤ 65535 * 131071
unfolding share
share_small x = mul-le-mul {n₂ = 65535} {m₂ = 131071} (omega arith) (omega arith)

module _ (q : List ℕ) (i m : ℕ) where
  pub rest_end : length q ≤ i → sum (masked m (drop i q)) ≡ 0
  unfolding sum
  rest_end h = ap sum (masked_end q i m h)

  pub rest_on : i < length q → sum (masked m (drop i q)) ≡ share (flip (is_inverse m) (get_or q i 0)) + sum (masked (m / 2) (drop (i + 1) q))
  unfolding sum
  rest_on h = ap sum (masked_on q i m h)

module _ (row : List ℕ) (i : ℕ) where
  pub clause_sum_stop : get_or row i 0 ≡ 0 → sum (clause_at row i) ≡ 0
  unfolding sum
  clause_sum_stop e = ap sum (clause_stops row i e)

  pub clause_sum_on : (get_or row i 0 ≡ 0 → ⊥) → sum (clause_at row i) ≡ share (get_or row i 0) + sum (clause_at row (i + 1))
  unfolding sum
  clause_sum_on n = ap sum (clause_goes_on row i n)

pub bucket_sum : (c : List ℕ) (s : ℕ) → s < buckets → (s + 0) % buckets ≡ sum (literals c) % buckets → s ≡ bucket_of c
unfolding bucket_of
bucket_sum c s h e = omega arith

pub clause_bucket : (c : List ℕ) → Distinct c → (s : ℕ) → s < buckets → (s + 0) % buckets ≡ sum c % buckets → s ≡ bucket_of c
clause_bucket c d s h e = bucket_sum c s h (rw (literals_once d) e)
