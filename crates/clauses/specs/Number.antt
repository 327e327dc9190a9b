-- Numbers in a text.
-- Assumes nothing.
use Rattle.std.specs.Prelude.{Bool, true, false, cond, not, ◌&&◌, ◌||◌, List, [], ◌∷◌, ◌++◌, ℕ, zero, suc, ◌+◌, ◌-◌, ◌*◌, ◌/◌, ◌%◌, eqb, leb, ltb, ℤ, pos, negsuc, neg_ℤ, length, get_or, Option, Some, None}
use Rattle.clauses.specs.Bytes.{minus, nought, is_digit, every}

-- the value of digits, after those that make n
unfoldable pub value : ℕ → List ℕ → ℕ
value n [] = n
value n (d ∷ ds) = value (10 * n + (d - nought)) ds

-- '1 to 9 digits of which the first is not 0'
unfoldable pub is_positive : List ℕ → Bool
is_positive w = every is_digit w && (leb 1 (length w) && (leb (length w) 9 && not (eqb (get_or w 0 0) nought)))

-- the word is `0`
unfoldable pub is_zero : List ℕ → Bool
is_zero w = eqb (length w) 1 && eqb (get_or w 0 0) nought

-- a number that carries no minus
unfoldable pub unsigned : List ℕ → Option ℕ
unsigned w = cond (is_zero w || is_positive w) (Some (value 0 w)) None

-- a sign and a magnitude as one number
abbrev pub signed : Bool → ℕ → ℤ
signed true m = neg_ℤ (pos m)
signed false m = pos m

-- 'A number is `0`, or an optional minus and 1 to 9 digits of which the first is not 0'
unfoldable pub number : List ℕ → Option ℤ
number [] = None
number (b ∷ w) =
    cond (eqb b minus) (cond (is_positive w) (Some (signed true (value 0 w))) None)
    (cond (is_zero (b ∷ w) || is_positive (b ∷ w)) (Some (signed false (value 0 (b ∷ w)))) None)

-- a number below 10^(k + 1) in decimal
unfoldable pub digits : ℕ → ℕ → List ℕ
digits zero n = (nought + n % 10) ∷ []
digits (suc k) n = cond (ltb n 10) ((nought + n % 10) ∷ []) (digits k (n / 10) ++ ((nought + n % 10) ∷ []))

-- a 64-bit number in decimal: it has at most twenty digits
unfoldable pub decimal : ℕ → List ℕ
decimal n = digits 19 n

-- a number in decimal and the byte after it
abbrev pub field : ℕ → ℕ → List ℕ
field n end = decimal n ++ (end ∷ [])

-- a signed number in decimal
unfoldable pub signed_decimal : ℤ → List ℕ
signed_decimal (pos n) = decimal n
signed_decimal (negsuc n) = minus ∷ decimal (suc n)
