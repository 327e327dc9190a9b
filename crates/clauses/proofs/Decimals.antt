-- Laws of decimal digits.
-- Assumes nothing.
use mathlib.Core.Path.{◌≡◌, ap, sym}
use mathlib.Core.Bool.{Bool, true, false, cond}
use mathlib.Core.List.{List, [], ◌∷◌, ◌++◌}
use Prim.Native.Nat.{ℕ, zero, suc, ◌+◌, ◌*◌, ◌/◌, ◌%◌, ◌≤◌, ◌<◌}
use native.Mathlib.Omega.{arith}
use lib.Dec.{ltb}
use lib.ListN.{length, length-append}
use borrow.Author.Tests.{lt-ltb, le-ltb}
use Rattle.clauses.specs.Bytes.{nought}
use Rattle.clauses.specs.Number.{digits, decimal}

-- 10 to the power of k + 1
power : ℕ → ℕ
power zero = 10
power (suc k) = 10 * power k

-- the last digit
abbrev last : ℕ → List ℕ
last n = (nought + n % 10) ∷ []

-- room for one digit more changes nothing where the digits suffice
digits_suffice : (k n : ℕ) → n < power k → digits (suc k) n ≡ digits k n
unfolding digits power
digits_suffice zero n h = rw (lt-ltb n 10 h)
digits_suffice (suc k) n h =
    let rest : n / 10 < power k = omega arith in
    ap (λ (ds : List ℕ). cond (ltb n 10) (last n) (ds ++ last n)) (digits_suffice k (n / 10) rest)

digits_length : (k n : ℕ) → length (digits k n) ≤ k + 1
unfolding digits
digits_length zero n = omega arith
digits_length (suc k) n = more (ltb n 10) (digits_length k (n / 10))
  where
    more : (b : Bool) → length (digits k (n / 10)) ≤ k + 1 → length (cond b (last n) (digits k (n / 10) ++ last n)) ≤ suc k + 1
    more true h = omega arith
    more false h = simp length-append (omega arith)

pub decimal_length : (n : ℕ) → length (decimal n) ≤ 20
unfolding decimal
decimal_length n = digits_length 19 n

pub decimal_digit : (n : ℕ) → n < 10 → decimal n ≡ (nought + n % 10) ∷ []
unfolding decimal digits
decimal_digit n h = rw (lt-ltb n 10 h)

pub decimal_more : (n : ℕ) → 10 ≤ n → n < 18446744073709551616 → decimal n ≡ decimal (n / 10) ++ ((nought + n % 10) ∷ [])
unfolding decimal digits power
decimal_more n h k =
    let rest : n / 10 < power 18 = omega arith in
    rw (le-ltb n 10 h) (ap (λ (ds : List ℕ). ds ++ last n) (sym (digits_suffice 18 (n / 10) rest)))

-- the same of the number of digits
pub length_digit : (n : ℕ) → n < 10 → length (decimal n) ≡ 1
length_digit n h = rw (decimal_digit n h)

pub length_more : (n : ℕ) → 10 ≤ n → n < 18446744073709551616 → length (decimal n) ≡ length (decimal (n / 10)) + 1
length_more n h k = rw (decimal_more n h k) (length-append (decimal (n / 10)) (last n))

-- the length in decimal
pub ruleset lengths = (length_digit, length_more, decimal_length)
