-- Numbers of at most nine digits are small.
-- Assumes nothing.
use mathlib.Core.Path.{◌≡◌, refl, sym}
use mathlib.Core.Bool.{Bool, true, false, cond, not, ◌&&◌, ◌||◌, and-eq-true_iff}
use mathlib.Core.List.{List, [], ◌∷◌}
use Rattle.std.specs.Prelude.{None, Some}
use Prim.Native.Nat.{ℕ, zero, suc, ◌+◌, ◌-◌, ◌*◌, ◌^◌, ◌≤◌, ◌<◌}
use native.Mathlib.Nat.{mul-le-mul_right, mul_assoc, pow-le-pow_right}
use native.Mathlib.Omega.{arith, pow_step}
use borrow.Author.Tests.{leb-true}
use borrow.Table.Steps.{cases}
use lib.Dec.{eqb, leb}
use lib.IntN.{ℤ, nat_abs}
use lib.ListN.{length, get_or}
use Rattle.clauses.specs.Bytes.{nought, is_digit, every, front}
use Rattle.clauses.specs.Number.{value, is_positive, is_zero, signed, unsigned, number}
use Rattle.clauses.specs.Scanning.{is_in_word, number_at}
use Rattle.clauses.specs.declared.number.Number.{Number}
use Rattle.clauses.proofs.Digits.{digit_byte}
use Rattle.clauses.proofs.Splitting.{every_head, every_tail}
use Rattle.clauses.proofs.Words.{word_number, zero_value}

value_bound : (w : List ℕ) (n : ℕ) → every is_digit w ≡ true → value n w + 1 ≤ (n + 1) * 10 ^ length w
unfolding value
value_bound [] n e = omega arith
value_bound (d ∷ w) n e =
    let digit = digit_byte d (every_head is_digit d w e) in
    let rest : value (10 * n + (d - nought)) w + 1 ≤ (10 * n + (d - nought) + 1) * 10 ^ length w = value_bound w (10 * n + (d - nought)) (every_tail is_digit d w e) in
    let grown : (10 * n + (d - nought) + 1) * 10 ^ length w ≤ (n + 1) * 10 * 10 ^ length w = mul-le-mul_right (10 ^ length w) (omega (arith, digit.high)) in
    let same : (n + 1) * 10 ^ suc (length w) ≡ (n + 1) * 10 * 10 ^ length w = rw (pow_step 10 (length w)) (sym (mul_assoc (n + 1) 10 (10 ^ length w))) in
    omega (arith, rest, grown, same)

value_small : (w : List ℕ) → every is_digit w ≡ true → length w ≤ 9 → value 0 w < 1000000000
value_small w e h =
    omega (arith, value_bound w 0 e, pow-le-pow_right {n = 10} (omega arith) {i = length w} {j = 9} h)

positive_small : (w : List ℕ) → is_positive w ≡ true → value 0 w < 1000000000
unfolding is_positive
positive_small w e =
    let parts = (and-eq-true_iff (every is_digit w) (leb 1 (length w) && (leb (length w) 9 && not (eqb (get_or w 0 0) nought)))).0 e in
    let sizes = (and-eq-true_iff (leb 1 (length w)) (leb (length w) 9 && not (eqb (get_or w 0 0) nought))).0 parts.1 in
    value_small w parts.0 (leb-true _ _ ((and-eq-true_iff (leb (length w) 9) (not (eqb (get_or w 0 0) nought))).0 sizes.1).0)

unsigned_value_small : (w : List ℕ) → (is_zero w || is_positive w) ≡ true → value 0 w < 1000000000
unsigned_value_small w h = cases (is_zero w) (λ t. omega (arith, zero_value w t)) (λ t. positive_small w (rw t at h))

-- a number that carries no minus
pub unsigned_small : (w : List ℕ) (n : ℕ) → unsigned w ≡ Some n → n < 1000000000
unfolding unsigned
unsigned_small w n e = cases (is_zero w || is_positive w) (λ t. read t) (λ t. let z = rw t at e in let q : ◌≡◌ {A = ℕ} 0 1 = cc in absurd (omega arith))
  where
    read : (is_zero w || is_positive w) ≡ true → n < 1000000000
    read t = let z = rw t at e in let same : value 0 w ≡ n = cc in rw (← same) (unsigned_value_small w t)

-- the magnitude of a word
small_of : (b : Bool) (minus : Bool) (n : ℕ) (z : ℤ) → (b ≡ true → n < 1000000000) → cond b (Some (signed minus n)) None ≡ Some z → nat_abs z < 1000000000
small_of true minus n z h e = let s : signed minus n ≡ z = cc in rw (← s) (sign minus n (h refl))
  where
    sign : (minus : Bool) (n : ℕ) → n < 1000000000 → nat_abs (signed minus n) < 1000000000
    sign false n k = k
    sign true zero k = k
    sign true (suc n) k = k
small_of false minus n z h e = let q : ◌≡◌ {A = ℕ} 0 1 = cc in absurd (omega arith)

number_small : (w : List ℕ) (z : ℤ) → number w ≡ Some z → nat_abs z < 1000000000
unfolding number
number_small [] z e = let q : ◌≡◌ {A = ℕ} 0 1 = cc in absurd (omega arith)
number_small (b ∷ w) z e =
    cases (eqb b 45)
    (λ t. small_of (is_positive w) true (value 0 w) z (positive_small w) (rw t at e))
    (λ t. small_of (is_zero (b ∷ w) || is_positive (b ∷ w)) false (value 0 (b ∷ w)) z (unsigned_value_small (b ∷ w)) (rw t at e))

-- the magnitude that is read at a place
pub magnitude_small : (l : List ℕ) (p : ℕ) (n : Number) → number_at l p ≡ Some n → n.magnitude < 1000000000
magnitude_small l p n e =
    let read = word_number l p n e in
    rw read.magnitude at (number_small (front is_in_word l) (signed n.minus n.magnitude) read.number_is)
