-- What the tests of a row's entries say of it.
-- Assumes nothing.
use mathlib.Core.Path.{◌≡◌, refl}
use mathlib.Core.Bool.{Bool, true, false}
use mathlib.Core.List.{List, [], ◌∷◌, map}
use Prim.Native.Nat.{ℕ, zero, suc, ◌-◌, ◌≤◌}
use native.Mathlib.Omega.{arith}
use lib.Dec.{ltb}
use lib.IntN.{ℤ, pos, negsuc, nat_abs}
use lib.ListN.{length, get_or}
use borrow.Author.Tests.{eqb-true, ltb-false}
use Rattle.clauses.specs.Limit.{max_nets}
use Rattle.clauses.specs.Code.{code_of}
use Rattle.clauses.specs.Refusal.{first_over, is_ended}
use Rattle.clauses.specs.Row.{SmallEntries}

pub zero_code : (z : ℤ) → nat_abs z ≡ 0 → code_of z ≡ 0
unfolding code_of
zero_code (pos n) e = omega arith
zero_code (negsuc n) e = absurd (omega arith)

-- test 10
pub entries_small : (v : ℕ) (row : List ℤ) → v ≤ max_nets → length row ≤ first_over v row → SmallEntries row
unfolding first_over
entries_small v [] m h i = omega arith
entries_small v (z ∷ row) m h i = go (ltb v (nat_abs z)) refl (entries_small v row m) i
  where
    go : (b : Bool) → ltb v (nat_abs z) ≡ b → (length row ≤ first_over v row → SmallEntries row) → SmallEntries (z ∷ row)
    go true e ih i = absurd (omega (arith, rw (e, first_over) at h))
    go false e ih zero = omega (arith, ltb-false v (nat_abs z) e)
    go false e ih (suc i) = ih (omega (arith, rw (e, first_over) at h)) i

-- test 11
pub entries_ended : (row : List ℤ) → is_ended row ≡ true → get_or (map code_of row) (length row - 1) 0 ≡ 0
unfolding is_ended
entries_ended [] e = refl
entries_ended (z ∷ []) e = zero_code z (eqb-true (nat_abs z) 0 e)
entries_ended (z ∷ y ∷ row) e =
    let s : suc (length row) - 1 ≡ length row = omega arith in
    let u : suc (suc (length row)) - 1 ≡ suc (length row) = omega arith in
    rw u (rw s at (entries_ended (y ∷ row) e))
