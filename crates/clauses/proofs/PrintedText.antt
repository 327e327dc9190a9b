-- How the text of a clause list reads: its header, and the words of its body.
-- Assumes nothing.
use mathlib.Core.Path.{◌≡◌, refl, ap, ◌∙◌}
use mathlib.Core.Bool.{true, false, cond}
use mathlib.Core.List.{List, [], ◌∷◌, ◌++◌, append_assoc}
use Rattle.std.specs.Prelude.{Some}
use Prim.Native.Nat.{ℕ, zero, suc, ◌+◌, ◌^◌, ◌≤◌, ◌<◌}
use native.Mathlib.Omega.{arith}
use borrow.Author.Tests.{ltb-false, ne_eqb}
use borrow.Table.Steps.{cases}
use lib.Dec.{eqb, ltb, eqb-suc-zero}
use lib.IntN.{ℤ, pos, negsuc, nat_abs}
use lib.ListN.{length, get_or, get_or-append}
use lib.Seq.{append_snoc}
use Rattle.clauses.specs.Bytes.{lf, minus, letter_c, space, is_blank, is_gap, is_digit, every}
use Rattle.clauses.specs.Number.{digits, decimal, signed_decimal}
use Rattle.clauses.specs.Printing.{header_text, entry_text, row_text, list_text}
use Rattle.clauses.specs.Reading.{lines, is_comment, words_of, after, after_gap, after_format, sizes, header_line, is_passed, as_header, heading, body, prepend}
use Rattle.clauses.specs.Reading.Heading.{sized}
use Rattle.clauses.specs.Reading.Body.{entries}
use Rattle.clauses.specs.Refusal.{first_over}
use Rattle.clauses.proofs.Digits.{digit_byte, digit_in_word}
use Rattle.clauses.proofs.Splitting.{lacks, every_first, every_append, every_weaken, behind_true, behind_none, front_stop, behind_stop, front_all, behind_all}
use Rattle.clauses.proofs.LinesAndWords.{is_lf, word_in_line, lines_at, comment_append, words_in_line, words_of_lines, words_in_line_none, words_in_line_lf, words_in_line_blank, words_in_line_word}
use Rattle.clauses.proofs.Numerals.{Numeral, decimal_numeral, unsigned_decimal, number_decimal}

-- The header

-- the header's line, without its LF
unfoldable pub headline : ℕ → ℕ → List ℕ
headline v c = 112 ∷ space ∷ 99 ∷ 110 ∷ 102 ∷ space ∷ (decimal v ++ (space ∷ decimal c))

text_lines : (v c : ℕ) (row : List ℤ) → list_text v c row ≡ headline v c ++ lf ∷ row_text row
unfolding list_text header_text headline
text_lines v c row = simp append_assoc

-- a number in decimal, and what follows it
module _ (n : ℕ) (h : n < 10 ^ 9) where
  numeral : Numeral n (decimal n)
  numeral = decimal_numeral n (omega arith)

  decimal_word : every (lacks is_blank) (decimal n) ≡ true
  decimal_word = every_weaken (lacks is_blank) is_digit digit_in_word (decimal n) numeral.figures

  decimal_first : is_digit (get_or (decimal n) 0 0) ≡ true
  decimal_first = every_first is_digit (decimal n) 0 numeral.figures numeral.some_figure

  decimal_not_gap : is_gap (get_or (decimal n) 0 0) ≡ false
  unfolding is_gap
  decimal_not_gap =
      let d = digit_byte (get_or (decimal n) 0 0) decimal_first in
      simp (ne_eqb (get_or (decimal n) 0 0) 32 (λ q. omega (arith, d.low)), ne_eqb (get_or (decimal n) 0 0) 9 (λ q. omega (arith, d.low)))

  decimal_then : (r : List ℕ) → get_or (decimal n ++ r) 0 0 ≡ get_or (decimal n) 0 0
  decimal_then r = get_or-append (decimal n) r 0 0 numeral.some_figure

after_space : (l : List ℕ) → is_gap (get_or l 0 0) ≡ false → after_gap (space ∷ l) ≡ Some l
unfolding after_gap is_gap
after_space l e = rw (behind_true is_gap space l refl, behind_none is_gap l e)

module _ (v c : ℕ) (hv : v < 10 ^ 9) (hc : c < 10 ^ 9) where
  headline_reads : header_line (headline v c) ≡ Some (record { nets = v; clauses = c })
  unfolding header_line headline after is_gap is_digit every after_format sizes
  headline_reads =
      rw (
        after_space (99 ∷ 110 ∷ 102 ∷ space ∷ (decimal v ++ (space ∷ decimal c))) refl,
        after_space (decimal v ++ (space ∷ decimal c)) (rw (decimal_then v hv (space ∷ decimal c)) (decimal_not_gap v hv)),
        front_stop is_digit (decimal v) space (decimal c) (numeral v hv).figures refl,
        unsigned_decimal v hv,
        behind_stop is_digit (decimal v) space (decimal c) (numeral v hv).figures refl,
        after_space (decimal c) (decimal_not_gap c hc),
        front_all is_digit (decimal c) (numeral c hc).figures,
        unsigned_decimal c hc,
        behind_all is_digit (decimal c) (numeral c hc).figures,
      )

  headline_one_line : every (lacks is_lf) (headline v c) ≡ true
  unfolding headline every
  headline_one_line =
      every_append (lacks is_lf) (decimal v) (space ∷ decimal c) (word_in_line (decimal v) (decimal_word v hv))
      (word_in_line (decimal c) (decimal_word c hc))

  headline_not_passed : is_passed (headline v c) ≡ false
  unfolding headline is_passed is_comment is_blank every
  headline_not_passed = refl

  pub heading_printed : (n : ℕ) (row : List ℤ) → heading n (lines 0 (list_text v c row)) ≡ sized (record { nets = v; clauses = c }) (lines (0 + length (headline v c) + 1) (row_text row))
  unfolding heading as_header
  heading_printed n row =
      rw (text_lines v c row, lines_at 0 (headline v c) (row_text row) headline_one_line, headline_not_passed, as_header, headline_reads)

-- The body

-- what separates an entry from the next
unfoldable separator : ℤ → ℕ
separator z = cond (eqb (nat_abs z) 0) lf space

separator_blank : (z : ℤ) → is_blank (separator z) ≡ true
unfolding separator is_blank
separator_blank z = cases (eqb (nat_abs z) 0) (λ e. rw e) (λ e. rw e)

after_separator : (p : ℕ) (z : ℤ) (l : List ℕ) → is_comment l ≡ false → words_in_line p (separator z ∷ l) ≡ words_in_line (suc p) l
after_separator p z l e =
    cases (is_lf (separator z)) (λ t. words_in_line_lf p (separator z) l t ∙ words_of_lines (suc p) l e)
    (λ t. words_in_line_blank p (separator z) l t (separator_blank z))

entry_separated : (z : ℤ) (r : List ℕ) → entry_text z ++ r ≡ signed_decimal z ++ separator z ∷ r
unfolding entry_text separator signed_decimal decimal digits
entry_separated (pos zero) r = refl
entry_separated (pos (suc n)) r = rw (eqb-suc-zero n) (append_snoc (decimal (suc n)) space r)
entry_separated (negsuc n) r = rw (eqb-suc-zero n) (ap (λ (l : List ℕ). minus ∷ l) (append_snoc (decimal (suc n)) space r))

signed_word : (z : ℤ) → nat_abs z < 10 ^ 9 → every (lacks is_blank) (signed_decimal z) ≡ true
unfolding signed_decimal every is_blank
signed_word (pos n) h = decimal_word n h
signed_word (negsuc n) h = decimal_word (suc n) h

signed_long : (z : ℤ) → nat_abs z < 10 ^ 9 → 1 ≤ length (signed_decimal z)
unfolding signed_decimal
signed_long (pos n) h = (numeral n h).some_figure
signed_long (negsuc n) h = omega arith

signed_not_comment : (z : ℤ) → nat_abs z < 10 ^ 9 → is_comment (signed_decimal z) ≡ false
unfolding signed_decimal is_comment
signed_not_comment (pos n) h = ne_eqb (get_or (decimal n) 0 0) letter_c (λ q. omega (arith, (digit_byte (get_or (decimal n) 0 0) (decimal_first n h)).high))
signed_not_comment (negsuc n) h = refl

-- no entry's magnitude is over v
module _ (v : ℕ) (z : ℤ) (row : List ℤ) (h : suc (length row) ≤ first_over v (z ∷ row)) where
  pub within_head : nat_abs z ≤ v
  unfolding first_over
  within_head = cases (ltb v (nat_abs z)) (λ e. absurd (omega (arith, rw e at h))) (λ e. ltb-false v (nat_abs z) e)

  pub within_tail : length row ≤ first_over v row
  unfolding first_over
  within_tail = cases (ltb v (nat_abs z)) (λ e. absurd (omega (arith, rw e at h))) (λ e. omega (arith, rw e at h))

module _ (v : ℕ) (limit : v < 10 ^ 9) where
  row_not_comment : (row : List ℤ) → length row ≤ first_over v row → is_comment (row_text row) ≡ false
  unfolding row_text is_comment
  row_not_comment [] h = refl
  row_not_comment (z ∷ row) h =
      let m : nat_abs z < 10 ^ 9 = omega (arith, within_head v z row h) in
      rw (entry_separated z (row_text row)) (comment_append (signed_decimal z) (separator z ∷ row_text row) (signed_long z m) ∙ signed_not_comment z m)

  body_from : (row : List ℤ) → length row ≤ first_over v row → (p : ℕ) → body (words_in_line p (row_text row)) ≡ entries row
  unfolding row_text body prepend
  body_from [] h p = rw (words_in_line_none p)
  body_from (z ∷ row) h p =
      let m : nat_abs z < 10 ^ 9 = omega (arith, within_head v z row h) in
      let rest : length row ≤ first_over v row = within_tail v z row h in
      rw (
        entry_separated z (row_text row),
        words_in_line_word p (signed_decimal z) (separator z ∷ row_text row) (signed_long z m) (signed_word z m) (separator_blank z),
        body,
        number_decimal z m,
        after_separator (p + length (signed_decimal z)) z (row_text row) (row_not_comment row rest),
        body_from row rest (suc (p + length (signed_decimal z))),
      )

  pub body_printed : (row : List ℤ) → length row ≤ first_over v row → (p : ℕ) → body (words_of (lines p (row_text row))) ≡ entries row
  body_printed row h p = rw (words_of_lines p (row_text row) (row_not_comment row h)) (body_from row h p)
