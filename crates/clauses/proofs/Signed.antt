-- Signed entries in 32 bits: their magnitudes, signs and codes.
-- Assumes nothing.
use mathlib.Core.Path.{◌≡◌, refl, ap, sym, ◌∙◌}
use mathlib.Core.Bool.{Bool, false}
use mathlib.Core.List.{List, map}
use Prim.Native.Nat.{ℕ, ◌+◌, ◌*◌, ◌≤◌, ◌<◌, ◌^◌}
use native.Mathlib.Omega.{arith}
use lib.IntN.{ℤ, pos, negsuc, nat_abs}
use lib.ListN.{get_or, get_or-map}
use lib.Signed.{mag}
use borrow.Author.Tests.{le-ltb}
use mir.Syntax.{w32}
use mir.Val.{to_z, of_z, bool_byte}
use mir.ValLaws.{to_z-of_z}
use Rattle.std.specs.Int.{is_negative}
use Rattle.clauses.specs.Code.{code_of}

-- an entry is read back from its bits
pub read_back : (z : ℤ) → mag z < 2 ^ 31 → to_z w32 (of_z w32 z) ≡ z
read_back z h = to_z-of_z w32 z (record { sfits = h })

-- what is read of an entry's bits is of the entry
module _ (z : ℤ) (h : mag z < 2 ^ 31) where
  pub magnitude_back : {m : ℕ} → m ≡ nat_abs (to_z w32 (of_z w32 z)) → m ≡ nat_abs z
  magnitude_back e = e ∙ ap nat_abs (read_back z h)

  pub zero_back : of_z w32 z ≡ 0 → z ≡ pos 0
  zero_back e = sym (read_back z h) ∙ ap (to_z w32) e

  pub sign_back : {b : Bool} → b ≡ is_negative (to_z w32 (of_z w32 z)) → b ≡ is_negative z
  sign_back e = e ∙ ap is_negative (read_back z h)

-- a number without a minus
pub not_negative : (n : ℕ) → is_negative (pos n) ≡ false
not_negative n = le-ltb n 0 (omega arith)

-- Literal codes

pub code_parts : (z : ℤ) → 2 * nat_abs z + bool_byte (is_negative z) ≡ code_of z
unfolding code_of
code_parts (pos n) = rw (not_negative n) (omega arith)
code_parts (negsuc n) = refl

pub code_small : (z : ℤ) (v : ℕ) → nat_abs z ≤ v → code_of z ≤ 2 * v + 1
unfolding code_of
code_small (pos n) v h = omega arith
code_small (negsuc n) v h = omega arith

pub code_entry : (row : List ℤ) (i : ℕ) → get_or (map code_of row) i 0 ≡ code_of (get_or row i (pos 0))
unfolding code_of
code_entry row i = get_or-map code_of row i (pos 0)

-- a code from magnitude and sign
pub ruleset codes = (code_parts, magnitude_back, sign_back)
