-- A number in decimal reads as that number.
-- Assumes nothing.
use mathlib.Core.Path.{◌≡◌, refl, sym, ◌∙◌}
use mathlib.Core.Bool.{Bool, true, false, cond, ◌||◌, and-eq-true_iff, or-true}
use mathlib.Core.List.{List, [], ◌∷◌, ◌++◌}
use Rattle.std.specs.Prelude.{None, Some}
use Prim.Native.Nat.{ℕ, zero, suc, ◌+◌, ◌-◌, ◌*◌, ◌/◌, ◌%◌, ◌^◌, ◌≤◌, ◌<◌}
use native.Mathlib.Nat.{pow-suc}
use native.Mathlib.Omega.{arith}
use borrow.Author.Tests.{ltb-true, ltb-false, le-leb, ne_eqb}
use borrow.Table.Steps.{cases}
use lib.Dec.{leb, ltb}
use lib.IntN.{ℤ, pos, negsuc, nat_abs}
use lib.ListN.{length, get_or, length-append, get_or-append}
use Rattle.clauses.specs.Bytes.{minus, nought, is_digit, every}
use Rattle.clauses.specs.Number.{value, is_positive, is_zero, unsigned, number, digits, decimal, signed_decimal}
use Rattle.clauses.proofs.Digits.{digit_byte}
use Rattle.clauses.proofs.Splitting.{every_cons, every_head, every_append}

value_append : (n : ℕ) (l : List ℕ) (d : ℕ) → value n (l ++ (d ∷ [])) ≡ 10 * value n l + (d - nought)
unfolding value
value_append n [] d = refl
value_append n (x ∷ l) d = value_append (10 * n + (x - nought)) l d

digit_is : (d : ℕ) → d < 10 → is_digit (nought + d) ≡ true
unfolding is_digit
digit_is d h = (and-eq-true_iff (leb nought (nought + d)) (leb (nought + d) 57)).1 (le-leb nought (nought + d) (omega arith), le-leb (nought + d) 57 (omega arith))

-- the word w is the number n in decimal
pub record Numeral (n : ℕ) (w : List ℕ) : Type 0 where
  pub figures : every is_digit w ≡ true
  pub some_figure : 1 ≤ length w
  pub few_figures : (m : ℕ) → n < 10 ^ suc m → length w ≤ suc m
  pub worth : value 0 w ≡ n
  no_leading_zero : 1 ≤ n → get_or w 0 0 ≡ nought → ⊥

one_figure : (n : ℕ) → n < 10 → Numeral n ((nought + n % 10) ∷ [])
unfolding every value
one_figure n h =
    record {
      figures = every_cons is_digit (nought + n % 10) [] (digit_is (n % 10) (omega arith)) refl;
      some_figure = omega arith;
      few_figures = λ m k. omega arith;
      worth = omega arith;
      no_leading_zero = λ p e. omega arith;
    }

more_figures : (n : ℕ) (w : List ℕ) → 10 ≤ n → Numeral (n / 10) w → Numeral n (w ++ ((nought + n % 10) ∷ []))
unfolding every
more_figures n w h r =
    record {
      figures = every_append is_digit w _ r.figures (every_cons is_digit (nought + n % 10) [] (digit_is (n % 10) (omega arith)) refl);
      some_figure = simp length-append (omega arith);
      few_figures = few;
      worth = value_append 0 w (nought + n % 10) ∙ rw r.worth (omega arith);
      no_leading_zero = λ p e. r.no_leading_zero (omega arith) (sym (get_or-append w _ 0 0 r.some_figure) ∙ e);
    }
  where
    few : (m : ℕ) → n < 10 ^ suc m → length (w ++ ((nought + n % 10) ∷ [])) ≤ suc m
    few zero k = absurd (omega arith)
    few (suc m) k = simp length-append (omega (arith, r.few_figures m (omega (arith, pow-suc 10 (suc m)))))

digits_numeral : (k n : ℕ) → n < 10 ^ suc k → Numeral n (digits k n)
unfolding digits
digits_numeral zero n h = one_figure n h
digits_numeral (suc k) n h =
    cases (ltb n 10) (λ t. rw t (one_figure n (ltb-true n 10 t)))
    (λ t. rw t (more_figures n (digits k (n / 10)) (ltb-false n 10 t) (digits_numeral k (n / 10) (omega (arith, pow-suc 10 (suc k))))))

pub decimal_numeral : (n : ℕ) → n < 10 ^ 20 → Numeral n (decimal n)
unfolding decimal
decimal_numeral n h = digits_numeral 19 n h

numeral_positive : (n : ℕ) (w : List ℕ) → Numeral n w → 1 ≤ n → n < 10 ^ 9 → is_positive w ≡ true
unfolding is_positive
numeral_positive n w r p h =
    simp (r.figures, le-leb 1 (length w) r.some_figure, le-leb (length w) 9 (r.few_figures 8 h), ne_eqb (get_or w 0 0) nought (r.no_leading_zero p))

pub unsigned_decimal : (n : ℕ) → n < 10 ^ 9 → unsigned (decimal n) ≡ Some n
unfolding unsigned decimal digits value is_zero is_positive
unsigned_decimal zero h = refl
unsigned_decimal (suc n) h =
    let r : Numeral (suc n) (decimal (suc n)) = decimal_numeral (suc n) (omega arith) in
    simp (numeral_positive (suc n) (decimal (suc n)) r (omega arith) h, or-true, r.worth)

same : (t : Bool) (m n : ℕ) → cond t (Some m) None ≡ Some n → cond t (Some (pos m)) None ≡ Some (pos n)
same true m n e = cc
same false m n e = cc

pub number_unsigned : (w : List ℕ) (n : ℕ) → every is_digit w ≡ true → unsigned w ≡ Some n → number w ≡ Some (pos n)
unfolding unsigned number is_zero is_positive every
number_unsigned [] n d e = same false 0 n e
number_unsigned (b ∷ w) n d e = rw (ne_eqb b minus (λ q. omega (arith, (digit_byte b (every_head is_digit b w d)).low))) (same (is_zero (b ∷ w) || is_positive (b ∷ w)) (value 0 (b ∷ w)) n e)

pub number_decimal : (z : ℤ) → nat_abs z < 10 ^ 9 → number (signed_decimal z) ≡ Some z
unfolding signed_decimal number
number_decimal (pos n) h = number_unsigned (decimal n) n (decimal_numeral n (omega arith)).figures (unsigned_decimal n h)
number_decimal (negsuc n) h =
    let r : Numeral (suc n) (decimal (suc n)) = decimal_numeral (suc n) (omega arith) in
    simp (numeral_positive (suc n) (decimal (suc n)) r (omega arith) h, r.worth)
