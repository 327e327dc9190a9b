-- Laws of the lines of a text and of their words.
-- Assumes nothing.
use mathlib.Core.Path.{◌≡◌, refl, sym, ap, ◌∙◌}
use mathlib.Core.Bool.{Bool, true, false, not, true≢false}
use mathlib.Core.List.{List, [], ◌∷◌, ◌++◌, append-nil}
use Prim.Native.Nat.{ℕ, suc, ◌+◌, ◌≤◌}
use native.Mathlib.Numerals.{add-one}
use native.Mathlib.Omega.{arith}
use borrow.Author.Tests.{ne_eqb, eqb-true}
use borrow.Table.Steps.{cases}
use lib.Dec.{eqb}
use lib.ListN.{length, get_or, get_or-append}
use Rattle.clauses.specs.Bytes.{lf, is_blank, every, front, Stretch, split}
use Rattle.clauses.specs.Reading.{lines, is_comment, non_empty, words, words_of}
use Rattle.clauses.proofs.Splitting.{following, lacks, every_weaken, front_append, front_true, front_false, split_true, split_first, split_at, split_none, following_append, following_true, following_false}

-- Lines

-- the byte ends a line
abbrev pub is_lf : ℕ → Bool
is_lf b = eqb b lf

pub lines_first : (p : ℕ) (l : List ℕ) → lines p l ≡ record { place = p; bytes = front (lacks is_lf) l } ∷ following is_lf p l
unfolding lines
lines_first p l = split_first is_lf p l

pub lines_at : (p : ℕ) (l r : List ℕ) → every (lacks is_lf) l ≡ true → lines p (l ++ lf ∷ r) ≡ record { place = p; bytes = l } ∷ lines (p + length l + 1) r
unfolding lines
lines_at p l r e = split_at is_lf p l lf r e refl

-- the first byte of a line that a text starts with, LF counted
line_head : (l : List ℕ) → get_or (front (lacks is_lf) l) 0 lf ≡ get_or l 0 lf
unfolding front
line_head [] = refl
line_head (b ∷ l) =
    cases (is_lf b) (λ t. rw (front_false (lacks is_lf) b l (ap not t)) (sym (eqb-true b lf t)))
    (λ t. rw (front_true (lacks is_lf) b l (ap not t)))

-- the first byte decides whether a line is a comment
pub comment_append : (l r : List ℕ) → 1 ≤ length l → is_comment (l ++ r) ≡ is_comment l
unfolding is_comment
comment_append l r h = rw (get_or-append l r 0 0 h)

comment_front : (l : List ℕ) → is_comment (front (lacks is_lf) l) ≡ is_comment l
unfolding is_comment front
comment_front [] = refl
comment_front (b ∷ l) =
    cases (is_lf b) (λ t. rw (front_false (lacks is_lf) b l (ap not t), eqb-true b lf t)) (λ t. rw (front_true (lacks is_lf) b l (ap not t)))

-- Words of a line

pub lf_blank : (b : ℕ) → is_lf b ≡ true → is_blank b ≡ true
unfolding is_blank
lf_blank b e = rw (eqb-true b lf e)

-- a word lies in one line
pub word_in_line : (w : List ℕ) → every (lacks is_blank) w ≡ true → every (lacks is_lf) w ≡ true
word_in_line w e =
    every_weaken (lacks is_lf) (lacks is_blank)
    (λ b t. cases (is_lf b) (λ u. absurd (true≢false (sym t ∙ ap not (lf_blank b u)))) (λ u. ap not u)) w e

words_none : (p : ℕ) → words (record { place = p; bytes = [] }) ≡ []
unfolding split non_empty words
words_none p = refl

words_blank : (p b : ℕ) (l : List ℕ) → is_blank b ≡ true → words (record { place = p; bytes = b ∷ l }) ≡ words (record { place = suc p; bytes = l })
unfolding non_empty words
words_blank p b l e = rw (split_true is_blank p b l e)

-- a word that ends at a blank or with the line
words_word : (p : ℕ) (w l : List ℕ) → 1 ≤ length w → every (lacks is_blank) w ≡ true → is_blank (get_or l 0 lf) ≡ true → words (record { place = p; bytes = w ++ l }) ≡ record { place = p; bytes = w } ∷ words (record { place = p + length w; bytes = l })
unfolding non_empty words
words_word p w [] h e t = rw (words_none (p + length w), append-nil w, split_none is_blank p w e, ne_eqb (length w) 0 (λ z. omega arith))
words_word p w (b ∷ l) h e t =
    rw (words_blank (p + length w) b l t, split_at is_blank p w b l e t, ne_eqb (length w) 0 (λ z. omega arith), add-one)

-- Words of a text

-- the words from place p on: of a line that is no comment, and of the lines after it
unfoldable pub words_in_line : ℕ → List ℕ → List Stretch
words_in_line p l = words (record { place = p; bytes = front (lacks is_lf) l }) ++ words_of (following is_lf p l)

module _ (p : ℕ) where
  pub words_of_comment : (l : List ℕ) → is_comment l ≡ true → words_of (lines p l) ≡ words_of (following is_lf p l)
  unfolding words_of
  words_of_comment l e = rw (lines_first p l, comment_front l, e)

  pub words_of_lines : (l : List ℕ) → is_comment l ≡ false → words_of (lines p l) ≡ words_in_line p l
  unfolding words_of words_in_line
  words_of_lines l e = rw (lines_first p l, comment_front l, e)

  pub words_in_line_none : words_in_line p [] ≡ []
  unfolding front following words_of words_in_line
  words_in_line_none = rw (words_none p)

  pub words_in_line_lf : (b : ℕ) (l : List ℕ) → is_lf b ≡ true → words_in_line p (b ∷ l) ≡ words_of (lines (suc p) l)
  unfolding lines words_in_line
  words_in_line_lf b l e = rw (front_false (lacks is_lf) b l (ap not e), words_none p, following_true is_lf p b l e)

  pub words_in_line_blank : (b : ℕ) (l : List ℕ) → is_lf b ≡ false → is_blank b ≡ true → words_in_line p (b ∷ l) ≡ words_in_line (suc p) l
  unfolding words_in_line
  words_in_line_blank b l e t =
      rw (front_true (lacks is_lf) b l (ap not e), words_blank p b (front (lacks is_lf) l) t, following_false is_lf p b l e)

  -- a word that ends at a blank or with the text
  pub words_in_line_word : (w l : List ℕ) → 1 ≤ length w → every (lacks is_blank) w ≡ true → is_blank (get_or l 0 lf) ≡ true → words_in_line p (w ++ l) ≡ record { place = p; bytes = w } ∷ words_in_line (p + length w) l
  unfolding words_in_line
  words_in_line_word w l h e t =
      rw (
        front_append (lacks is_lf) w l (word_in_line w e),
        following_append is_lf p w l (word_in_line w e),
        words_word p w (front (lacks is_lf) l) h e (rw (line_head l) t),
      )
