-- What a DIMACS text reads as.
-- Assumes nothing.
use Rattle.std.specs.Prelude.{Bool, true, false, cond, ◌||◌, List, [], ◌∷◌, ◌++◌, ℕ, eqb, ℤ, length, get_or, drop, Option, Some, None, option_and_then, Result, Ok, Err}
use Rattle.clauses.specs.Bytes.{lf, letter_c, is_blank, is_gap, is_digit, every, front, behind, Stretch, split}
use Rattle.clauses.specs.Number.{unsigned, number}
use Rattle.clauses.specs.Refusal.{Test, decide, text_too_long, row_too_short, size_tests, entry_tests}
use Rattle.clauses.specs.declared.refusal.Refusal.{Refusal}
use Rattle.clauses.specs.declared.refusal.Refusal.TheVariants.{Header, Word}
use Rattle.clauses.specs.declared.reading.ListSize.{ListSize}
pub use Rattle.clauses.specs.declared.header.Sizes.{Sizes}

-- Lines

-- 'A line ends at LF or the text's end.'
unfoldable pub lines : ℕ → List ℕ → List Stretch
lines p text = split (λ b. eqb b lf) p text

-- 'A line whose first byte is `c` is a comment, anywhere, with any bytes in it.'
unfoldable pub is_comment : List ℕ → Bool
is_comment line = eqb (get_or line 0 0) letter_c

-- a line that is passed over in the search for the header: a comment, or all blanks
unfoldable pub is_passed : List ℕ → Bool
is_passed line = is_comment line || every is_blank line

-- The header

-- what follows the given bytes
unfoldable pub after : List ℕ → List ℕ → Option (List ℕ)
after [] l = Some l
after (x ∷ xs) [] = None
after (x ∷ xs) (b ∷ l) = cond (eqb b x) (after xs l) None

-- what follows one or more spaces or tabs
unfoldable pub after_gap : List ℕ → Option (List ℕ)
after_gap l = cond (is_gap (get_or l 0 0)) (Some (behind is_gap l)) None

-- the second step on what the first one gives
abbrev pub then : {A B : Type 0} → Option A → (A → Option B) → Option B
then o f = option_and_then f o

-- '`p` as first byte, `cnf`, V, C, separated by spaces or tabs, with nothing but blanks after': up to V
unfoldable pub after_format : List ℕ → Option (List ℕ)
after_format line =
    then (after (112 ∷ []) line) (λ a.
    then (after_gap a) (λ b.
    then (after (99 ∷ 110 ∷ 102 ∷ []) b) after_gap))

-- .. and from V on
unfoldable pub sizes : List ℕ → Option Sizes
sizes l =
    then (unsigned (front is_digit l)) (λ v.
    then (after_gap (behind is_digit l)) (λ d.
    then (unsigned (front is_digit d)) (λ c.
    cond (every is_blank (behind is_digit d)) (Some (record { nets = v; clauses = c })) None)))

unfoldable pub header_line : List ℕ → Option Sizes
header_line line = then (after_format line) sizes

-- what is found of the header: the sizes and the lines after it, or the place of refusal 2
pub data Heading : Type 0 where
  sized : Sizes → List Stretch → Heading
  malformed : ℕ → Heading

-- the line at hand as the header
unfoldable pub as_header : Stretch → List Stretch → Heading
as_header l ls = elim (header_line l.bytes) [ None ↦ malformed l.place | Some s ↦ sized s ls ]

-- 'The first line that is not a comment and not all blanks must be the header'; n is the text's length
unfoldable pub heading : ℕ → List Stretch → Heading
heading n [] = malformed n
heading n (l ∷ ls) = cond (is_passed l.bytes) (heading n ls) (as_header l ls)

-- The body

-- the words of a line, each with its place: the stretches between blanks that are not empty
unfoldable pub non_empty : List Stretch → List Stretch
non_empty [] = []
non_empty (s ∷ ss) = cond (eqb (length s.bytes) 0) (non_empty ss) (s ∷ non_empty ss)

unfoldable pub words : Stretch → List Stretch
words l = non_empty (split is_blank l.place l.bytes)

-- 'The rest is numbers separated by blanks': the words of the lines that are not comments
unfoldable pub words_of : List Stretch → List Stretch
words_of [] = []
words_of (l ∷ ls) = cond (is_comment l.bytes) (words_of ls) (words l ++ words_of ls)

-- the entries, or the place of the first word that is not a number
pub data Body : Type 0 where
  entries : List ℤ → Body
  malformed : ℕ → Body

unfoldable pub prepend : ℤ → Body → Body
prepend z (entries row) = entries (z ∷ row)
prepend z (malformed p) = malformed p

-- 'a word that is not a number ends the reading at its first byte'
unfoldable pub body : List Stretch → Body
body [] = entries []
body (w ∷ ws) = elim (number w.bytes) [ None ↦ malformed w.place | Some z ↦ prepend z (body ws) ]

-- Reading

-- what reading answers, and what the lent literal row then holds
pub record Outcome : Type 0 where
  pub result : Result ListSize Refusal
  pub row : List ℤ

-- 'Everything lent keeps its contents.'
unfoldable pub refused : List ℤ → Refusal → Outcome
refused row r = record { result = Err r; row = row }

-- 'reading has put the body's numbers, zeros included, at the start of the literal row and answers V, C and how many they are'
unfoldable pub accepted : List ℤ → Sizes → List ℤ → Outcome
accepted row s numbers =
    record {
      result = Ok (record { nets = s.nets; clauses = s.clauses; entries = length numbers });
      row = numbers ++ drop (length numbers) row;
    }

-- whether the header is missing or malformed, and where
unfoldable pub is_malformed : Heading → Bool
is_malformed (sized s ls) = false
is_malformed (malformed p) = true

unfoldable pub malformed_at : Heading → ℕ
malformed_at (sized s ls) = 0
malformed_at (malformed p) = p

-- 2. 'The header line is missing or malformed (place: first byte of that line, or the text's length if there is none).'
abbrev pub header_malformed : Heading → Test
header_malformed h = record { holds = is_malformed h; refusal = Header (malformed_at h) }

-- whether a word of the body is not a number, and the first byte of the first such word
unfoldable pub has_bad_word : Body → Bool
has_bad_word (entries numbers) = false
has_bad_word (malformed p) = true

unfoldable pub bad_word_at : Body → ℕ
bad_word_at (entries numbers) = 0
bad_word_at (malformed p) = p

-- 3. 'A word of the body is not a number as described; a word that is not a number ends the reading at its first byte, which is the place.'
abbrev pub word_malformed : Body → Test
word_malformed b = record { holds = has_bad_word b; refusal = Word (bad_word_at b) }

-- V and C, the body and its numbers, where no such test holds
unfoldable pub sizes_of : Heading → Sizes
sizes_of (sized s ls) = s
sizes_of (malformed p) = record { nets = 0; clauses = 0 }

unfoldable pub body_of : Heading → Body
body_of (sized s ls) = body (words_of ls)
body_of (malformed p) = entries []

unfoldable pub entries_of : Body → List ℤ
entries_of (entries numbers) = numbers
entries_of (malformed p) = []

-- what is found of the header of a text
abbrev pub heading_of : List ℕ → Heading
heading_of text = heading (length text) (lines 0 text)

-- tests 4 to 7 and 10 to 12, of V, C and the numbers of a body
unfoldable pub numbers_tests : List ℤ → Sizes → List ℤ → List Test
numbers_tests row s numbers =
    row_too_short (length row) numbers ∷ (size_tests s.nets s.clauses numbers ++ entry_tests s.nets s.clauses numbers)

-- test 3 before them
unfoldable pub body_tests : List ℤ → Sizes → Body → List Test
body_tests row s b = word_malformed b ∷ numbers_tests row s (entries_of b)

-- 'Reading tests 1 to 7 and 10 to 12', of a text and a lent literal row
unfoldable pub reading_tests : List ℕ → List ℤ → List Test
reading_tests text row =
    text_too_long text ∷ header_malformed (heading_of text) ∷ body_tests row (sizes_of (heading_of text)) (body_of (heading_of text))

unfoldable pub reading : List ℕ → List ℤ → Outcome
reading text row =
    decide (refused row) (accepted row (sizes_of (heading_of text)) (entries_of (body_of (heading_of text)))) (reading_tests text row)
