-- The words of a body, by places of the text.
-- Assumes nothing.
use mathlib.Core.Path.{◌≡◌, refl, sym, ◌∙◌, ap}
use mathlib.Core.Bool.{Bool, true, false, true≢false}
use mathlib.Core.List.{List, [], ◌∷◌, ◌++◌, append-nil}
use Rattle.std.specs.Prelude.{None, Some}
use Prim.Native.Nat.{ℕ, zero, suc, ◌+◌, ◌-◌, ◌≤◌, ◌<◌}
use native.Mathlib.Decide.{dec_lt}
use native.Mathlib.Nat.{add-zero}
use native.Mathlib.Numerals.{add-one}
use native.Mathlib.Omega.{arith}
use borrow.Author.Tests.{eq-eqb, eqb-true, not-true, not-false}
use borrow.Table.Steps.{cases}
use lib.Dec.{eqb}
use lib.ListN.{length, get_or, drop, drop_of_length-le, length-drop}
use lib.Seq.{drop-cons, drop-drop, get_or-drop}
use Rattle.clauses.specs.Bytes.{lf, letter_c, is_blank, every, front, behind, Stretch, split}
use Rattle.clauses.specs.Reading.{lines, is_comment, is_passed, Sizes, header_line, as_header, heading, words_of}
use Rattle.clauses.specs.Reading.Heading.{sized, malformed}
use Rattle.clauses.specs.Scanning.{is_in_word, starts_line, words_within, words_from, StartsWord}
use Rattle.clauses.proofs.Runs.{front_length, run_goes_on, run_byte, run_behind, run_low, run_part, run_stopped}
use Rattle.clauses.proofs.Splitting.{following, lacks, every_front, front_behind, behind_head, following_at, following_none}
use Rattle.clauses.proofs.LinesAndWords.{is_lf, lf_blank, lines_first, words_in_line, words_of_comment, words_of_lines, words_in_line_none, words_in_line_lf, words_in_line_blank, words_in_line_word}

pub line_start_first : (text : List ℕ) → starts_line text 0 ≡ true
unfolding starts_line
line_start_first text = refl

pub line_start_behind : (text : List ℕ) (p : ℕ) → 0 < p → starts_line text p ≡ is_lf (get_or text (p - 1) 0)
unfolding starts_line
line_start_behind text zero h = absurd (omega arith)
line_start_behind text (suc p) h = let e : suc p - 1 ≡ p = omega arith in rw e

letter_not_blank : is_blank letter_c ≡ false
unfolding is_blank
letter_not_blank = refl

words_of_nothing : words_of [] ≡ []
unfolding words_of
words_of_nothing = refl

-- an empty last line gives no header
heading_none : (n p : ℕ) → heading n (lines p []) ≡ heading n []
unfolding heading lines split is_passed is_comment every
heading_none n p = refl

module _ (text : List ℕ) (i : ℕ) where
  -- inside a line that is no comment
  pub inside_line : starts_line text i ≡ false → words_from text i ≡ words_in_line i (drop i text)
  unfolding words_from words_within words_in_line
  inside_line e = rw (e, lines_first i (drop i text))

  not_a_comment : is_comment (drop i text) ≡ false → words_from text i ≡ words_in_line i (drop i text)
  unfolding words_from
  not_a_comment e = cases (starts_line text i) (λ t. rw t (words_of_lines i (drop i text) e)) inside_line

  head_is : get_or (drop i text) 0 0 ≡ get_or text i 0
  head_is = get_or-drop i text 0 0 ∙ ap (λ (k : ℕ). get_or text k 0) (omega arith)

  comment_is : is_comment (drop i text) ≡ eqb (get_or text i 0) letter_c
  unfolding is_comment
  comment_is = rw head_is

  pub line_comment : starts_line text i ≡ true → get_or text i 0 ≡ letter_c → words_from text i ≡ words_of (following is_lf i (drop i text))
  unfolding words_from
  line_comment t e = rw t (words_of_comment i (drop i text) (comment_is ∙ eq-eqb _ _ e))

  no_comment : (get_or text i 0 ≡ letter_c → starts_line text i ≡ false) → words_from text i ≡ words_in_line i (drop i text)
  no_comment h = cases (eqb (get_or text i 0) letter_c) (λ t. inside_line (h (eqb-true _ _ t))) (λ t. not_a_comment (comment_is ∙ t))

-- The run of a line's bytes from place i on ends at a place.
module _ (text : List ℕ) (i end : ℕ) (e : end ≡ i + length (front (lacks is_lf) (drop i text))) where
  line_is : drop i text ≡ front (lacks is_lf) (drop i text) ++ drop end text
  line_is = sym (rw (run_behind (lacks is_lf) text i end e) at (front_behind (lacks is_lf) (drop i text)))

  -- the lines behind it
  module _ (k : end < length text) where
    lf_there : is_lf (get_or text end 0) ≡ true
    lf_there = not-false _ (run_stopped (lacks is_lf) text i end e k)

    following_lines : following is_lf i (drop i text) ≡ lines (suc end) (drop (suc end) text)
    unfolding lines
    following_lines =
        ap (following is_lf i) (line_is ∙ ap (λ (l : List ℕ). front (lacks is_lf) (drop i text) ++ l) (drop-cons text end 0 k))
        ∙ following_at is_lf i (front (lacks is_lf) (drop i text)) (get_or text end 0) (drop (suc end) text) (every_front (lacks is_lf) (drop i text)) lf_there
        ∙ ap (λ (p : ℕ). split is_lf p (drop (suc end) text)) (omega arith)

  following_end : length text ≤ end → following is_lf i (drop i text) ≡ []
  following_end k =
      following_none is_lf i (drop i text)
      (rw (← whole) (every_front (lacks is_lf) (drop i text)))
    where
      whole : front (lacks is_lf) (drop i text) ≡ drop i text
      whole = sym (append-nil (front (lacks is_lf) (drop i text))) ∙ sym (rw (drop_of_length-le text k) at line_is)

  -- the header's search goes on behind the line
  pub heading_behind : (n : ℕ) → heading n (following is_lf i (drop i text)) ≡ heading n (lines (end + 1) (drop (end + 1) text))
  heading_behind n = go (dec_lt end (length text))
    where
      go : Dec (end < length text) → heading n (following is_lf i (drop i text)) ≡ heading n (lines (end + 1) (drop (end + 1) text))
      go (yes k) = rw (add-one, following_lines k)
      go (no k) = rw (following_end (omega arith), drop_of_length-le text {i = end + 1} (omega arith)) (sym (heading_none n (end + 1)))

  -- the words go on at the line's end
  pub words_behind_line : i < end → words_of (following is_lf i (drop i text)) ≡ words_from text end
  words_behind_line h = sym (inside_line text end last_byte ∙ go (dec_lt end (length text)))
    where
      last_byte : starts_line text end ≡ false
      last_byte =
          let p : i + (end - 1 - i) ≡ end - 1 = omega arith in
          let b : is_lf (get_or text (end - 1) 0) ≡ false = not-true _ (rw p at (run_byte (lacks is_lf) text (end - 1 - i) i (omega arith))) in
          line_start_behind text end (omega arith) ∙ b

      go : Dec (end < length text) → words_in_line end (drop end text) ≡ words_of (following is_lf i (drop i text))
      go (yes k) = rw (drop-cons text end 0 k, following_lines k) (words_in_line_lf end (get_or text end 0) (drop (suc end) text) (lf_there k))
      go (no k) = rw (drop_of_length-le text {i = end} (omega arith), following_end (omega arith)) (words_in_line_none end ∙ sym words_of_nothing)

-- One byte, or one word

module _ (text : List ℕ) (i : ℕ) (h : i < length text) where
  pub words_from_blank : is_blank (get_or text i 0) ≡ true → words_from text i ≡ words_from text (i + 1)
  unfolding words_from
  words_from_blank b = no_comment text i (λ e. absurd (true≢false (sym b ∙ rw e letter_not_blank))) ∙ rw (drop-cons text i 0 h) (go (is_lf (get_or text i 0)) refl)
    where
      next_start : starts_line text (i + 1) ≡ is_lf (get_or text i 0)
      next_start = let e : i + 1 - 1 ≡ i = omega arith in line_start_behind text (i + 1) (omega arith) ∙ rw e

      go : (x : Bool) → is_lf (get_or text i 0) ≡ x → words_in_line i (get_or text i 0 ∷ drop (suc i) text) ≡ words_from text (i + 1)
      go true e = rw (next_start ∙ e, add-one) (words_in_line_lf i (get_or text i 0) (drop (suc i) text) e)
      go false e = rw add-one (words_in_line_blank i (get_or text i 0) (drop (suc i) text) e b ∙ sym (inside_line text (suc i) (rw add-one at (next_start ∙ e))))

  -- the word that starts here, and the words behind it
  pub words_from_word : StartsWord text i → words_from text i ≡ record { place = i; bytes = front is_in_word (drop i text) } ∷ words_from text (i + length (front is_in_word (drop i text)))
  unfolding behind
  words_from_word s =
      no_comment text i s.not_comment
      ∙ ap (words_in_line i) (sym (front_behind is_in_word (drop i text)))
      ∙ words_in_line_word i w (behind is_in_word (drop i text)) (omega (arith, some_byte)) (every_front is_in_word (drop i text)) stops
      ∙ ap (λ (l : List Stretch). record { place = i; bytes = w } ∷ l) (rw drop-drop (sym (inside_line text (i + length w) last_byte)))
    where
      w : List ℕ
      w = front is_in_word (drop i text)

      some_byte : 0 < length w
      some_byte = omega (arith, ap length (run_goes_on is_in_word text i h (rw s.not_blank)))

      stops : is_blank (get_or (behind is_in_word (drop i text)) 0 lf) ≡ true
      stops = go (behind is_in_word (drop i text)) refl
        where
          go : (l : List ℕ) → behind is_in_word (drop i text) ≡ l → is_blank (get_or l 0 lf) ≡ true
          go [] e = lf_blank lf refl
          go (b ∷ l) e = not-false _ (behind_head is_in_word (drop i text) b l e)

      last_byte : starts_line text (i + length w) ≡ false
      last_byte =
          let p : i + (length w - 1) ≡ i + length w - 1 = omega (arith, some_byte) in
          let b : is_in_word (get_or text (i + length w - 1) 0) ≡ true = rw p at (run_byte is_in_word text (length w - 1) i (omega (arith, some_byte))) in
          line_start_behind text (i + length w) (omega (arith, some_byte)) ∙ cases (is_lf (get_or text (i + length w - 1) 0)) (λ t. absurd (true≢false (sym (lf_blank _ t) ∙ not-true _ b))) (λ t. t)

-- blanks are passed over
pub words_behind_blanks : (text : List ℕ) (i end : ℕ) → end ≡ i + length (front is_blank (drop i text)) → words_from text i ≡ words_from text end
words_behind_blanks text i end e = rw e (go (length (front is_blank (drop i text))) (omega arith))
  where
    go : (k : ℕ) → k ≤ length (front is_blank (drop i text)) → words_from text i ≡ words_from text (i + k)
    go zero h = rw add-zero
    go (suc k) h =
        let inside : i + k < length text = omega (arith, front_length is_blank (drop i text), length-drop i text) in
        let next : i + k + 1 ≡ i + suc k = omega arith in
        go k (omega arith) ∙ words_from_blank text (i + k) inside (run_byte is_blank text k i (omega arith)) ∙ ap (words_from text) next

-- The line from place i on, in the search for the header

module _ (n : ℕ) (text : List ℕ) (i : ℕ) where
  abbrev Line : List ℕ
  Line = front (lacks is_lf) (drop i text)

  pub heading_passed : is_passed Line ≡ true → heading n (lines i (drop i text)) ≡ heading n (following is_lf i (drop i text))
  unfolding heading as_header
  heading_passed e = rw (lines_first i (drop i text), e)

  pub heading_malformed : is_passed Line ≡ false → header_line Line ≡ None → heading n (lines i (drop i text)) ≡ malformed i
  unfolding heading as_header
  heading_malformed e h = rw (lines_first i (drop i text), e, as_header, h)

  pub heading_sized : (s : Sizes) → is_passed Line ≡ false → header_line Line ≡ Some s → heading n (lines i (drop i text)) ≡ sized s (following is_lf i (drop i text))
  unfolding heading as_header
  heading_sized s e h = rw (lines_first i (drop i text), e, as_header, h)

  pub heading_missing : length text ≤ i → heading n (lines i (drop i text)) ≡ malformed n
  unfolding heading as_header
  heading_missing h = rw (drop_of_length-le text h) (heading_none n i)

-- a line that is not passed over is not empty
pub passed_empty : (line : List ℕ) → length line ≡ 0 → is_passed line ≡ true
unfolding is_passed is_comment every
passed_empty [] h = refl
passed_empty (b ∷ l) h = absurd (omega arith)

-- a whole line
pub whole_line : (text : List ℕ) (i : ℕ) → starts_line text i ≡ true → words_from text i ≡ words_of (lines i (drop i text))
unfolding words_from
whole_line text i e = rw e

-- where a line starts
pub ruleset line_starts = (line_start_first, line_start_behind)

-- blanks and comment lines before a word
pub ruleset next_words = (line_comment, words_behind_blanks, words_behind_line, run_goes_on, run_low, run_stopped)

-- the search for the header, line by line
pub ruleset header_lines = (passed_empty, heading_behind, heading_malformed, heading_passed, heading_sized, words_behind_line, heading_missing, front_length, run_part)
