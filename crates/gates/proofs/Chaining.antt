-- The places of a clause in the chains of the paired places.
-- Assumes nothing.
use mathlib.Core.Path.{◌≡◌}
use mathlib.Core.Logic.{◌≢◌}
use mathlib.Core.Bool.{true, false}
use mathlib.Core.List.{List}
use Prim.Native.Nat.{ℕ, zero, suc, ◌+◌, ◌≤◌}
use native.Mathlib.Omega.{arith}
use borrow.Table.Steps.{cases}
use lib.ListN.{length}
use Rattle.clauses.specs.Row.{clause_at, Starts, start_of}
use Rattle.clauses.proofs.StartOf.{start_only}
use Rattle.gates.specs.declared.kind.Kind.TheVariants.{Three}
use Rattle.gates.specs.Normal.{Normal}
use Rattle.gates.specs.Mark.{kind_of}
use Rattle.gates.specs.Ites.{is_paired, PlacesChained}
use Rattle.gates.proofs.Threes.{InThree, in_three_is}
use Rattle.gates.proofs.ClauseKinds.{other_place}
use Rattle.gates.proofs.Halves.{paired_in_three, unpaired}
use Rattle.gates.proofs.Sizes.{place_passed}

module _ {row : List ℕ} (normal : Normal row) (b : ℕ) (s : Starts row b) where
  started : (p : ℕ) → b ≤ p → p ≤ b + length (clause_at row b) → start_of row p ≡ b
  started p l h = start_only row b p s l h (omega (arith, normal.ended b s))

  -- the 0 that ends it
  pub end_unpaired : is_paired row (b + length (clause_at row b)) ≡ false
  end_unpaired = cases (is_paired row (b + length (clause_at row b))) (λ t. absurd (never t)) (λ f. f)
    where
      never : is_paired row (b + length (clause_at row b)) ≡ true → ⊥
      never t =
          let i : InThree row (b + length (clause_at row b)) = in_three_is row _ (paired_in_three row _ t) in
          let e : start_of row (b + length (clause_at row b)) ≡ b = started (b + length (clause_at row b)) (omega arith) (omega arith) in
          omega (arith, rw e at i.high, rw e at i.clause.size)

  module _ (n : kind_of row b ≢ Three) where
    other_unpaired : (p : ℕ) → b ≤ p → p ≤ b + length (clause_at row b) → is_paired row p ≡ false
    other_unpaired p l h = unpaired row p (other_place normal p (omega (arith, normal.ended b s)) (λ e. n (rw (started p l h) at e)))

    pub clause_passed : {heads chain : List ℕ} → PlacesChained row b heads chain → PlacesChained row (b + length (clause_at row b) + 1) heads chain
    clause_passed {heads} {chain} c =
        let z : b + length (clause_at row b) + 1 ≡ b + suc (length (clause_at row b)) = omega arith in
        rw z (go (suc (length (clause_at row b))) (omega arith))
      where
        go : (k : ℕ) → k ≤ length (clause_at row b) + 1 → PlacesChained row (b + k) heads chain
        go zero l = let z : b + 0 ≡ b = omega arith in rw z c
        go (suc k) l =
            let z : b + suc k ≡ b + k + 1 = omega arith in
            rw z (place_passed row (b + k) heads chain (go k (omega arith)) (other_unpaired (b + k) (omega arith) (omega arith)))
