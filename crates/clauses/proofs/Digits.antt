-- Digits read one by one.
-- Assumes nothing.
use mathlib.Core.Path.{◌≡◌, refl, sym, ◌∙◌, ap}
use mathlib.Core.Bool.{Bool, true, false, false≢true}
use mathlib.Core.List.{List}
use Prim.Native.Nat.{ℕ, ◌+◌, ◌-◌, ◌*◌, ◌^◌, ◌≤◌, ◌<◌}
use native.Mathlib.Nat.{pow-le-pow_right}
use native.Mathlib.Numerals.{add-one}
use native.Mathlib.Omega.{arith}
use borrow.Author.Tests.{leb-true, ne_eqb}
use lib.Dec.{leb}
use lib.ListN.{length, get_or, drop, drop_of_length-le}
use lib.Seq.{drop-cons}
use Rattle.clauses.specs.Bytes.{nought, is_blank, is_digit, every}
use Rattle.clauses.specs.Number.{value}
use Rattle.clauses.specs.Scanning.{is_in_word}
use Rattle.clauses.proofs.Splitting.{every_at}

-- a digit's byte
pub record Digit (b : ℕ) : Type 0 where
  pub low : nought ≤ b
  pub high : b ≤ 57

pub digit_byte : (b : ℕ) → is_digit b ≡ true → Digit b
unfolding is_digit
digit_byte b e = go (leb nought b) (leb b 57) refl refl e
  where
    go : (x y : Bool) → leb nought b ≡ x → leb b 57 ≡ y → is_digit b ≡ true → Digit b
    go true true p q r = record { low = leb-true _ _ p; high = leb-true _ _ q }
    go true false p q r = absurd (false≢true (rw (p, q) at r))
    go false y p q r = absurd (false≢true (rw p at r))

pub digit_in_word : (b : ℕ) → is_digit b ≡ true → is_in_word b ≡ true
unfolding is_blank
digit_in_word b e =
    let d = digit_byte b e in
    rw (ne_eqb b 32 (λ q. omega (arith, d.low)), ne_eqb b 9 (λ q. omega (arith, d.low)), ne_eqb b 13 (λ q. omega (arith, d.low)), ne_eqb b 10 (λ q. omega (arith, d.low)))

-- the first i of at most nine digits make n
pub record DigitsTo (digits : List ℕ) (n i : ℕ) : Type 0 where
  value_is : value 0 digits ≡ value n (drop i digits)
  pub small : n < 10 ^ i

module _ (digits : List ℕ) where
  pub digits_start : DigitsTo digits 0 0
  digits_start = record { value_is = refl; small = omega arith }

  pub digits_end : (n i : ℕ) → DigitsTo digits n i → length digits ≤ i → n ≡ value 0 digits
  unfolding value
  digits_end n i made h = sym (made.value_is ∙ ap (value n) (drop_of_length-le digits h))

  module _ (all : every is_digit digits ≡ true) (few : length digits ≤ 9) (n i : ℕ) (made : DigitsTo digits n i) (h : i < length digits) where
    pub digit_at : Digit (get_or digits i 0)
    digit_at = digit_byte _ (every_at is_digit digits i all h)

    pub digits_room : n < 100000000
    digits_room = omega (arith, made.small, pow-le-pow_right {n = 10} (omega arith) {i = i} {j = 8} (omega arith))

    pub digits_step : DigitsTo digits (10 * n + (get_or digits i 0 - nought)) (i + 1)
    unfolding value
    digits_step =
        record {
          value_is = made.value_is ∙ rw (drop-cons digits i 0 h, add-one);
          small = rw add-one (omega (arith, made.small, digit_at.high, digit_at.low));
        }
