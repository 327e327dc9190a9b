-- How many gates a list can have: each count fits 32 bits.
-- Assumes nothing.
use mathlib.Core.Path.{◌≡◌}
use mathlib.Core.Logic.{◌↔◌, eq-Equivalence}
use mathlib.Core.Bool.{Bool}
use mathlib.Core.List.{List, [], ◌∷◌, map}
use Prim.Native.Nat.{ℕ, ◌-◌, ◌*◌, ◌≤◌}
use native.Mathlib.Omega.{arith}
use lib.IntN.{ℤ}
use lib.ListN.{length, get_or, length-map}
use Rattle.clauses.specs.Limit.{max_entries}
use Rattle.clauses.specs.Code.{code_of, negate}
use Rattle.clauses.specs.Lists.{keep, each}
use Rattle.clauses.specs.Clause.{Present, clauses_in, clauses_of}
use Rattle.clauses.specs.Row.{SmallEntries}
use Rattle.clauses.proofs.Lists.{keep_length, each_length}
use Rattle.gates.specs.Counted.{AreCounts}
use Rattle.gates.specs.Mark.{and_at, xor_at}
use Rattle.gates.specs.Normal.{Normal, normal_row}
use Rattle.gates.specs.Ites.{Half, all_halves, output, side, is_mate, is_plain_half, mates, pairs_of}
use Rattle.gates.proofs.Counting.{counted_once, same_with}
use Rattle.gates.proofs.HowMany.{many_le}
use Rattle.gates.proofs.Halves.{halves_length}
use Rattle.gates.proofs.AndMarks.{ands_many}
use Rattle.gates.proofs.XorMarks.{xors_many}
use Rattle.gates.proofs.IteMarks.{ites_many}
use Rattle.gates.proofs.NormalForm.{normal-row, normal_present, normal_length}

-- one list of at most 32,768 elements for each element
each_few : {A B : Type 0} (l : List A) (f : A → List B) → ((x : A) → length (f x) ≤ 32768) → length (each l f) ≤ 32768 * length l
unfolding each
each_few [] f h = omega arith
each_few (x ∷ l) f h = omega (arith, each_length x l f, h x, each_few l f h)

module _ (row : List ℕ) (short : length row ≤ max_entries) where
  all_few : length (all_halves row) ≤ 32768
  unfolding all_halves
  all_few = omega (arith, short, halves_length (2 * length row))

  with_mates : Half → List (Half × Half)
  with_mates h = map (λ m. (h, m)) (mates row h)

  mates_few : (h : Half) → length (with_mates h) ≤ 32768
  unfolding mates with_mates
  mates_few h = omega (arith, length-map (mates row h) (mate h), keep_length (is_mate row (negate (get_or row h.place 0)) (output row h) (side row h)) (all_halves row), all_few)
    where
      mate : Half → Half → Half × Half
      mate h m = (h, m)

  few_pairs : (hs : List Half) → length hs ≤ 32768 → length (pairs_of row hs) ≤ 1073741824
  unfolding pairs_of with_mates
  few_pairs hs l = omega (arith, each_few (keep (is_plain_half row) hs) with_mates mates_few, keep_length (is_plain_half row) hs)

  pub kept_pairs_few : (test : Half → Bool) → length (pairs_of row (keep test (all_halves row))) ≤ 1073741824
  kept_pairs_few test = few_pairs (keep test (all_halves row)) (omega (arith, keep_length test (all_halves row), all_few))

-- the counts of a list that the finder takes
pub counts_few : (row : List ℤ) → length row ≤ max_entries → SmallEntries row → get_or (map code_of row) (length row - 1) 0 ≡ 0
    → {a x i : ℕ} → AreCounts (clauses_of row) a x i → (a ≤ max_entries) × (x ≤ max_entries) × (i ≤ 1073741824)
counts_few row short small ended k = (
  rw (counted_once same_with k.and-count (ands_many normal same)) (omega (arith, many_le (and_at N) (length N), few)),
  rw (counted_once same_with k.xor-count (xors_many normal same)) (omega (arith, many_le (xor_at N) (length N), few)),
  rw (counted_once eq-Equivalence k.ite-count (ites_many normal same)) (few_pairs N few (all_halves N) (all_few N few)),
)
  where
    N : List ℕ
    N = normal_row row

    normal : Normal N
    normal = normal-row row short small ended

    same : (c : List ℕ) → Present (clauses_of row) c ↔ Present (clauses_in N) c
    same = normal_present row

    few : length N ≤ max_entries
    few = omega (arith, short, normal_length row ended)
