-- Words as numbers.
-- Assumes nothing.
use mathlib.Core.Path.{◌≡◌, refl, sym, ◌∙◌, ap}
use mathlib.Core.Logic.{◌≢◌}
use mathlib.Core.Bool.{Bool, true, false, not, cond, ◌&&◌, ◌||◌, and-eq-true_iff, true≢false, false≢true}
use mathlib.Core.List.{List, [], ◌∷◌}
use Rattle.std.specs.Prelude.{Option, None, Some}
use Prim.Native.Nat.{ℕ, zero, suc, ◌+◌, ◌-◌, ◌*◌, ◌≤◌, ◌<◌}
use native.Mathlib.Decide.{dec_lt}
use native.Mathlib.Nat.{add-zero}
use native.Mathlib.Numerals.{add-one}
use native.Mathlib.Omega.{arith}
use borrow.Author.Tests.{eq-eqb, ne_eqb, eqb-true, le-leb, lt-leb}
use lib.Dec.{eqb, leb}
use lib.IntN.{ℤ, nat_abs, pos, negsuc}
use lib.ListN.{length, get_or, take, drop}
use lib.Seq.{drop-drop, drop-cons, get_or-drop}
use Rattle.clauses.specs.Bytes.{minus, nought, is_blank, is_digit, every, front}
use Rattle.clauses.specs.Number.{value, is_positive, is_zero, unsigned, signed, number}
use Rattle.std.specs.Int.{is_negative}
use Rattle.clauses.specs.Scanning.{is_in_word, as_unsigned, digits_at, unsigned_at, as_number, number_at}
use Rattle.clauses.specs.declared.number.Unsigned.{Unsigned}
use Rattle.clauses.specs.declared.number.Number.{Number}
use Rattle.clauses.proofs.Signed.{not_negative}
use Rattle.clauses.proofs.Runs.{run_none, run_stops, run_goes_on, run_part, run_within}
use Rattle.clauses.proofs.Splitting.{every_front}
use Rattle.clauses.proofs.Digits.{digit_byte, digit_in_word}

-- Numbers that carry no minus

module _ (w : List ℕ) where
  none_of : is_zero w ≡ false → is_positive w ≡ false → unsigned w ≡ None
  unfolding unsigned
  none_of p q = rw (p, q)

  zero_digits : is_zero w ≡ true → every is_digit w ≡ true
  unfolding is_zero every is_digit
  zero_digits h = go w h
    where
      go : (l : List ℕ) → is_zero l ≡ true → every is_digit l ≡ true
      go [] e = refl
      go (b ∷ []) e = rw (eqb-true b nought e)
      go (b ∷ d ∷ l) e = absurd (false≢true (rw (ne_eqb (length (b ∷ d ∷ l)) 1 (omega arith)) at e))

  not_zero : length w ≢ 1 → is_zero w ≡ false
  unfolding is_zero
  not_zero h = rw (ne_eqb _ _ h)

  pub unsigned_empty : length w ≡ 0 → unsigned w ≡ None
  unfolding is_positive
  unsigned_empty h = none_of (not_zero (λ e. omega arith)) (go (every is_digit w))
    where
      go : (x : Bool) → (x && (leb 1 (length w) && (leb (length w) 9 && not (eqb (get_or w 0 0) nought)))) ≡ false
      go true = rw h
      go false = refl

  unsigned_long : 9 < length w → unsigned w ≡ None
  unfolding is_positive
  unsigned_long h = none_of (not_zero (λ e. omega arith)) (go (every is_digit w))
    where
      go : (x : Bool) → (x && (leb 1 (length w) && (leb (length w) 9 && not (eqb (get_or w 0 0) nought)))) ≡ false
      go true = rw (le-leb 1 (length w) (omega arith), lt-leb (length w) 9 h)
      go false = refl

  unsigned_led_by_zero : 1 < length w → get_or w 0 0 ≡ nought → unsigned w ≡ None
  unfolding is_positive
  unsigned_led_by_zero h e = none_of (not_zero (λ q. omega arith)) (go (every is_digit w) (leb (length w) 9))
    where
      go : (x y : Bool) → (x && (leb 1 (length w) && (y && not (eqb (get_or w 0 0) nought)))) ≡ false
      go true true = rw (le-leb 1 (length w) (omega arith), e)
      go true false = rw (le-leb 1 (length w) (omega arith))
      go false y = refl

  unsigned_other : every is_digit w ≡ false → unsigned w ≡ None
  unfolding is_positive
  unsigned_other e = none_of (go (is_zero w) refl) (rw e)
    where
      go : (x : Bool) → is_zero w ≡ x → is_zero w ≡ false
      go true q = absurd (true≢false (sym (zero_digits q) ∙ e))
      go false q = q

  unsigned_digits : every is_digit w ≡ true → 0 < length w → length w ≤ 9 → (get_or w 0 0 ≡ nought → length w ≤ 1) → unsigned w ≡ Some (value 0 w)
  unfolding unsigned is_zero is_positive
  unsigned_digits e h k z = go (eqb (get_or w 0 0) nought) refl
    where
      go : (x : Bool) → eqb (get_or w 0 0) nought ≡ x → unsigned w ≡ Some (value 0 w)
      go true q = rw (q, eq-eqb (length w) 1 (omega (arith, z (eqb-true _ _ q))))
      go false q = rw (q, e, le-leb 1 (length w) h, le-leb (length w) 9 k) (shut (eqb (length w) 1))
        where
          shut : (y : Bool) → cond (y && false || true) (Some (value 0 w)) None ≡ Some (value 0 w)
          shut true = refl
          shut false = refl

-- Words

-- where no byte of the word follows its digits, the digits are the word
word_digits : (l : List ℕ) → front is_in_word (drop (length (front is_digit l)) l) ≡ [] → front is_in_word l ≡ front is_digit l
unfolding front
word_digits [] e = refl
word_digits (b ∷ l) e = go (is_digit b) refl (word_digits l) e
  where
    go : (x : Bool) → is_digit b ≡ x → (front is_in_word (drop (length (front is_digit l)) l) ≡ [] → front is_in_word l ≡ front is_digit l)
        → front is_in_word (drop (length (front is_digit (b ∷ l))) (b ∷ l)) ≡ [] → front is_in_word (b ∷ l) ≡ front is_digit (b ∷ l)
    go true q ih h = rw (q, digit_in_word b q) (ap (λ (t : List ℕ). b ∷ t) (ih (rw q at h)))
    go false q ih h = rw q (rw q at h)

-- where one does, the word has a byte that is no digit
word_other : (l : List ℕ) → 0 < length (front is_in_word (drop (length (front is_digit l)) l)) → every is_digit (front is_in_word l) ≡ false
unfolding front every
word_other [] h = absurd (omega arith)
word_other (b ∷ l) h = go (is_digit b) refl (word_other l) h
  where
    go : (x : Bool) → is_digit b ≡ x → (0 < length (front is_in_word (drop (length (front is_digit l)) l)) → every is_digit (front is_in_word l) ≡ false)
        → 0 < length (front is_in_word (drop (length (front is_digit (b ∷ l))) (b ∷ l))) → every is_digit (front is_in_word (b ∷ l)) ≡ false
    go true q ih k = rw (digit_in_word b q, q) (ih (rw q at k))
    go false q ih k = shut (is_in_word b) refl (rw q at k)
      where
        shut : (x : Bool) → is_in_word b ≡ x → 0 < length (front is_in_word (b ∷ l)) → every is_digit (front is_in_word (b ∷ l)) ≡ false
        shut true p m = rw (p, q)
        shut false p m = absurd (omega (arith, rw p at m))

module _ (l : List ℕ) (p : ℕ) where
  -- the word goes on behind the digits at its front
  abbrev Rest : List ℕ
  Rest = front is_in_word (drop (length (front is_digit l)) l)

  unsigned_word : length Rest ≡ 0 → unsigned_at l p ≡ digits_at l p
  unsigned_word h = ap (λ (w : List ℕ). as_unsigned w p) (word_digits l (go Rest h))
    where
      go : (t : List ℕ) → length t ≡ 0 → t ≡ []
      go [] e = refl
      go (b ∷ t) e = absurd (omega arith)

  unsigned_broken : 0 < length Rest → unsigned_at l p ≡ None
  unfolding as_unsigned
  unsigned_broken h = rw (unsigned_other (front is_in_word l) (word_other l h))

  pub unsigned_malformed : digits_at l p ≡ None → unsigned_at l p ≡ None
  unsigned_malformed e = go (dec_lt 0 (length Rest))
    where
      go : Dec (0 < length Rest) → unsigned_at l p ≡ None
      go (yes h) = unsigned_broken h
      go (no h) = unsigned_word (omega arith) ∙ e

-- Numbers with a sign

-- a value does not fall below what the digits before it make
value_grows : (w : List ℕ) (n : ℕ) → n ≤ value n w
unfolding value
value_grows [] n = omega arith
value_grows (d ∷ w) n = omega (arith, value_grows w (10 * n + (d - nought)))

module _ (w : List ℕ) (p : ℕ) where
  -- what a word is that reads as a number without a minus
  pub read_value : (u : Unsigned) → as_unsigned w p ≡ Some u → (value 0 w ≡ u.value) × ((p + length w ≡ u.end) × ((is_zero w || is_positive w) ≡ true))
  unfolding as_unsigned unsigned
  read_value u = go (is_zero w || is_positive w) refl
    where
      go : (x : Bool) → (is_zero w || is_positive w) ≡ x → as_unsigned w p ≡ Some u → (value 0 w ≡ u.value) × ((p + length w ≡ u.end) × ((is_zero w || is_positive w) ≡ true))
      go true e h = let k = rw e at h in let same : record { value = value 0 w; end = p + length w } ≡ u = cc in rw (← same) (refl, (refl, e))
      go false e h = let k = rw e at h in let z : ◌≡◌ {A = ℕ} 0 1 = cc in absurd (omega arith)

  pub no_unsigned : as_unsigned w p ≡ None → (is_zero w || is_positive w) ≡ false
  unfolding as_unsigned unsigned
  no_unsigned = go (is_zero w || is_positive w) refl
    where
      go : (x : Bool) → (is_zero w || is_positive w) ≡ x → as_unsigned w p ≡ None → (is_zero w || is_positive w) ≡ false
      go true e h = let k = rw e at h in let z : ◌≡◌ {A = ℕ} 0 1 = cc in absurd (omega arith)
      go false e h = e

positive_value : (w : List ℕ) → is_positive w ≡ true → 0 < value 0 w
unfolding is_positive every value
positive_value [] e = absurd (false≢true e)
positive_value (d ∷ w) e =
    let parts = (and-eq-true_iff _ _).0 e in
    let low = digit_byte d ((and-eq-true_iff _ _).0 parts.0).0 in
    let sizes = (and-eq-true_iff (leb 1 (length (d ∷ w))) (leb (length (d ∷ w)) 9 && not (eqb d nought))).0 parts.1 in
    let first = ((and-eq-true_iff (leb (length (d ∷ w)) 9) (not (eqb d nought))).0 sizes.1).1 in
    omega (arith, low.low, value_grows w (10 * 0 + (d - nought)), not_nought (eqb d nought) refl first)
  where
    not_nought : (x : Bool) → eqb d nought ≡ x → not (eqb d nought) ≡ true → d ≢ nought
    not_nought true q h = absurd (false≢true (rw q at h))
    not_nought false q h = λ k. true≢false (sym (eq-eqb d nought k) ∙ q)

pub zero_value : (w : List ℕ) → is_zero w ≡ true → value 0 w ≡ 0
unfolding is_zero value
zero_value [] e = refl
zero_value (d ∷ []) e = let k = eqb-true d nought e in omega arith
zero_value (b ∷ d ∷ l) e = absurd (false≢true (rw (ne_eqb (length (b ∷ d ∷ l)) 1 (omega arith)) at e))

number_plain : (w : List ℕ) → get_or w 0 0 ≢ minus → number w ≡ cond (is_zero w || is_positive w) (Some (signed false (value 0 w))) None
unfolding number is_zero is_positive every
number_plain [] h = refl
number_plain (b ∷ w) h = rw (ne_eqb _ _ h)

front_head : (f : ℕ → Bool) (l : List ℕ) (x : ℕ) → 0 ≢ x → get_or l 0 0 ≢ x → get_or (front f l) 0 0 ≢ x
unfolding front
front_head f [] x z h = h
front_head f (b ∷ l) x z h = go (f b) refl
  where
    go : (y : Bool) → f b ≡ y → get_or (front f (b ∷ l)) 0 0 ≢ x
    go true e = rw e h
    go false e = rw e z

module _ (l : List ℕ) (p : ℕ) (h : get_or l 0 0 ≢ minus) where
  plain : number (front is_in_word l) ≡ cond (is_zero (front is_in_word l) || is_positive (front is_in_word l)) (Some (signed false (value 0 (front is_in_word l)))) None
  plain = number_plain (front is_in_word l) (front_head is_in_word l minus (omega arith) h)

  pub number_unsigned : (u : Unsigned) → unsigned_at l p ≡ Some u → number_at l p ≡ Some (record { minus = false; magnitude = u.value; next = record { at = u.end } })
  unfolding as_number
  number_unsigned u e = let r = read_value (front is_in_word l) p u e in rw (plain, r.1.1, not_negative (value 0 (front is_in_word l)), r.0, r.1.0)

  pub number_malformed : unsigned_at l p ≡ None → number_at l p ≡ None
  unfolding as_number
  number_malformed e = rw (plain, no_unsigned (front is_in_word l) p e)

-- behind a minus
module _ (l : List ℕ) (p : ℕ) where
  abbrev Magnitude : List ℕ
  Magnitude = front is_in_word l

  -- what a minus and the magnitude read as
  abbrev Negative : Bool → Option Number
  Negative x =
      cond x (Some (record { minus = is_negative (signed true (value 0 Magnitude)); magnitude = nat_abs (signed true (value 0 Magnitude)); next = record { at = p + suc (length Magnitude) } })) None

  minus_number : number_at (minus ∷ l) p ≡ Negative (is_positive Magnitude)
  unfolding as_number front number is_blank
  minus_number = go (is_positive Magnitude) refl
    where
      go : (x : Bool) → is_positive Magnitude ≡ x → number_at (minus ∷ l) p ≡ Negative (is_positive Magnitude)
      go true e = rw e
      go false e = rw e

  pub number_minus_malformed : unsigned_at l (p + 1) ≡ None → number_at (minus ∷ l) p ≡ None
  number_minus_malformed e = minus_number ∙ go (is_zero Magnitude) (is_positive Magnitude) refl (no_unsigned Magnitude (p + 1) e)
    where
      go : (x y : Bool) → is_positive Magnitude ≡ y → (x || y) ≡ false → Negative (is_positive Magnitude) ≡ None
      go true y q k = absurd (true≢false k)
      go false y q k = rw (q, k)

  module _ (u : Unsigned) (e : unsigned_at l (p + 1) ≡ Some u) where
    pub number_minus_zero : u.value ≡ 0 → number_at (minus ∷ l) p ≡ None
    number_minus_zero z = minus_number ∙ go (is_positive Magnitude) refl
      where
        go : (x : Bool) → is_positive Magnitude ≡ x → Negative (is_positive Magnitude) ≡ None
        go true k = absurd (omega (arith, positive_value Magnitude k, (read_value Magnitude (p + 1) u e).0))
        go false k = rw k

    pub number_minus : u.value ≢ 0 → number_at (minus ∷ l) p ≡ Some (record { minus = true; magnitude = u.value; next = record { at = u.end } })
    number_minus z = minus_number ∙ go (is_zero Magnitude) (is_positive Magnitude) refl refl r.1.1
      where
        r : (value 0 Magnitude ≡ u.value) × ((p + 1 + length Magnitude ≡ u.end) × ((is_zero Magnitude || is_positive Magnitude) ≡ true))
        r = read_value Magnitude (p + 1) u e

        negative : (m : ℕ) → m ≢ 0 → ◌≡◌ {A = Option Number} (Some (record { minus = is_negative (signed true m); magnitude = nat_abs (signed true m); next = record { at = u.end } })) (Some (record { minus = true; magnitude = m; next = record { at = u.end } }))
        negative zero k = absurd (k refl)
        negative (suc m) k = refl

        end : p + suc (length Magnitude) ≡ u.end
        end = omega (arith, r.1.0)

        go : (x y : Bool) → is_zero Magnitude ≡ x → is_positive Magnitude ≡ y → (x || y) ≡ true → Negative (is_positive Magnitude) ≡ Some (record { minus = true; magnitude = u.value; next = record { at = u.end } })
        go x true a k t = rw (k, end, r.0) (negative u.value z)
        go true false a k t = absurd (z (sym r.0 ∙ zero_value Magnitude a))
        go false false a k t = absurd (false≢true t)

-- The digits at hand

module _ (text : List ℕ) (at end : ℕ) (e : end ≡ at + length (front is_digit (drop at text))) where
  abbrev Part : List ℕ
  Part = take (end - at) (drop at text)

  part_is : Part ≡ front is_digit (drop at text)
  part_is = run_part is_digit text at end e

  pub digits_all : every is_digit Part ≡ true
  digits_all = rw part_is (every_front is_digit (drop at text))

  pub digits_none : end ≡ at → digits_at (drop at text) at ≡ None
  unfolding as_unsigned
  digits_none h = rw (unsigned_empty (front is_digit (drop at text)) (omega arith))

  pub digits_too_many : 9 < length Part → digits_at (drop at text) at ≡ None
  unfolding as_unsigned
  digits_too_many h = rw (← part_is, unsigned_long Part h)

  pub digits_led_by_zero : 1 < length Part → get_or Part 0 0 ≡ nought → digits_at (drop at text) at ≡ None
  unfolding as_unsigned
  digits_led_by_zero h z = rw (← part_is, unsigned_led_by_zero Part h z)

  pub digits_read : (end ≡ at → ⊥) → length Part ≤ 9 → (get_or Part 0 0 ≡ nought → length Part ≤ 1) → Some (record { value = value 0 Part; end = end }) ≡ digits_at (drop at text) at
  unfolding as_unsigned
  digits_read h k z =
      let some_digit : 0 < length Part = omega (arith, ap length part_is) in
      let ends : at + length Part ≡ end = omega (arith, ap length part_is) in
      rw (← part_is, unsigned_digits Part digits_all some_digit k z, ends)

-- By places of a text

module _ (text : List ℕ) (at : ℕ) where
  abbrev Digits : List ℕ
  Digits = front is_digit (drop at text)

  -- what follows the digits, which end at a place
  module _ (u : Unsigned) (e : digits_at (drop at text) at ≡ Some u) where
    rest_is : front is_in_word (drop (length Digits) (drop at text)) ≡ front is_in_word (drop u.end text)
    rest_is = rw (drop-drop (length Digits) at text, (read_value Digits at u e).1.0)

    pub word_stops : front is_in_word (drop u.end text) ≡ [] → Some u ≡ unsigned_at (drop at text) at
    word_stops h = sym (unsigned_word (drop at text) at (ap length (rest_is ∙ h)) ∙ e)

    pub word_breaks : u.end < length text → is_blank (get_or text u.end 0) ≡ false → None ≡ unsigned_at (drop at text) at
    word_breaks h b = sym (unsigned_broken (drop at text) at (omega (arith, ap length rest_is, ap length (run_goes_on is_in_word text u.end h (rw b)))))

  pub number_past : length text ≤ at → number_at (drop at text) at ≡ None
  unfolding as_number number
  number_past h = rw (run_none is_in_word text at h)

  pub not_minus : get_or text at 0 ≢ minus → get_or (drop at text) 0 0 ≢ minus
  not_minus h = λ e. h (sym (get_or-drop at text 0 0 ∙ ap (λ (i : ℕ). get_or text i 0) (add-zero at)) ∙ e)

  pub minus_first : at < length text → get_or text at 0 ≡ minus → drop at text ≡ minus ∷ drop (at + 1) text
  minus_first h e = rw (drop-cons text at 0 h, e, add-one)

-- What a number read from a text tells of its word

module _ (l : List ℕ) (p : ℕ) where
  abbrev Word : List ℕ
  Word = front is_in_word l

  pub word_no_number : number_at l p ≡ None → number Word ≡ None
  unfolding as_number
  word_no_number = go (number Word) refl
    where
      go : (o : Option ℤ) → number Word ≡ o → number_at l p ≡ None → number Word ≡ None
      go None e h = e
      go (Some z) e h = let k = rw e at h in let q : ◌≡◌ {A = ℕ} 0 1 = cc in absurd (omega arith)

  pub record WordNumber (n : Number) : Type 0 where
    pub number_is : number Word ≡ Some (signed n.minus n.magnitude)
    pub magnitude : nat_abs (signed n.minus n.magnitude) ≡ n.magnitude
    pub ends : n.next.at ≡ p + length Word

  pub word_number : (n : Number) → number_at l p ≡ Some n → WordNumber n
  unfolding as_number
  word_number n = go (number Word) refl
    where
      whole : (z : ℤ) → signed (is_negative z) (nat_abs z) ≡ z
      whole (pos n) = rw (not_negative n)
      whole (negsuc n) = refl

      go : (o : Option ℤ) → number Word ≡ o → number_at l p ≡ Some n → WordNumber n
      go None e h = let k = rw e at h in let q : ◌≡◌ {A = ℕ} 0 1 = cc in absurd (omega arith)
      go (Some z) e h =
          let k = rw e at h in
          let same : record { minus = is_negative z; magnitude = nat_abs z; next = record { at = p + length Word } } ≡ n = cc in
          rw (← same) (record { number_is = e ∙ ap Some (sym (whole z)); magnitude = ap nat_abs (whole z); ends = refl })

-- a run of digits as a number
pub ruleset digit_runs = (digits_all, digits_none, digits_too_many, digits_led_by_zero, digits_read, run_within)

-- where a word that starts with digits ends
pub ruleset word_ends = (unsigned_malformed, word_breaks, word_stops, run_none, run_stops)

-- a word as a number
pub ruleset number_forms = (number_past, number_malformed, number_unsigned, number_minus_malformed, number_minus_zero, number_minus, minus_first, not_minus)
