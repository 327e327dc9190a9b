-- What the inner functions of reading say of a text; no entry point's contract cites these.
-- Assumes nothing.
use Rattle.std.specs.Prelude.{◌≡◌, Bool, true, false, cond, not, List, [], ◌∷◌, ◌++◌, ℕ, zero, suc, ◌+◌, ◌≤◌, ◌<◌, eqb, ℤ, nat_abs, length, get_or, take, drop, Option, Some, None, option_map, Result, Ok, Err}
use Rattle.std.specs.Int.{is_negative}
use Rattle.clauses.specs.Bytes.{lf, letter_c, is_blank, is_digit, front, Stretch}
use Rattle.clauses.specs.Number.{unsigned, number}
use Rattle.clauses.specs.Refusal.{decide}
use Rattle.clauses.specs.Reading.{Sizes, sized, malformed, lines, words, words_of, Body, entries_of, heading_of, Outcome, refused, accepted, numbers_tests, body_tests}
use Rattle.clauses.specs.declared.number.Unsigned.{Unsigned}
use Rattle.clauses.specs.declared.number.Number.{Number}
use Rattle.clauses.specs.declared.header.Header.{Header}
use Rattle.clauses.specs.Tally.{start, step}
use Rattle.clauses.specs.declared.refusal.Refusal.{Refusal}
use Rattle.clauses.specs.declared.refusal.Refusal.TheVariants.{Header as HeaderRefusal, Word}
use Rattle.clauses.specs.declared.tally.EntryTally.{EntryTally}

-- a test, of which `post` says what each call may answer, computes p
abbrev pub Computes : {A : Type 0} → (A → Bool → Type 0) → (A → Bool) → Type 0
Computes {A} post p = (x : A) (b : Bool) → post x b → b ≡ p x

-- a byte that belongs to a word
abbrev pub is_in_word : ℕ → Bool
is_in_word b = not (is_blank b)

-- the bytes w at place p as a number that carries no minus, and the place behind them
unfoldable pub as_unsigned : List ℕ → ℕ → Option Unsigned
as_unsigned w p = option_map (λ n. record { value = n; end = p + length w }) (unsigned w)

-- the digits at the front of a text from place p on, and its first word, as a number that carries no minus
abbrev pub digits_at : List ℕ → ℕ → Option Unsigned
digits_at l p = as_unsigned (front is_digit l) p

abbrev pub unsigned_at : List ℕ → ℕ → Option Unsigned
unsigned_at l p = as_unsigned (front is_in_word l) p

-- the word w at place p as a number, and the place behind it
unfoldable pub as_number : List ℕ → ℕ → Option Number
as_number w p = option_map (λ z. record { minus = is_negative z; magnitude = nat_abs z; next = record { at = p + length w } }) (number w)

-- the first word of a text from place p on, as a number
abbrev pub number_at : List ℕ → ℕ → Option Number
number_at l p = as_number (front is_in_word l) p

-- a step in a line comes to what follows a part of it, or does not if that part is missing
abbrev pub Reaches : List ℕ → Option (List ℕ) → Option ℕ → Type 0
Reaches line rest None = rest ≡ None
Reaches line rest (Some p) = (rest ≡ Some (drop p line)) × (p ≤ length line)

-- place p is the first byte of a line
unfoldable pub starts_line : List ℕ → ℕ → Bool
starts_line text zero = true
starts_line text (suc p) = eqb (get_or text p 0) lf

-- the words of lines of which the first one is the rest of a line that is no comment
unfoldable pub words_within : List Stretch → List Stretch
words_within [] = []
words_within (l ∷ ls) = words l ++ words_of ls

-- the words of a text from place p on
unfoldable pub words_from : List ℕ → ℕ → List Stretch
words_from text p = cond (starts_line text p) (words_of (lines p (drop p text))) (words_within (lines p (drop p text)))

-- what is found of the header: V, C and a place from which the body's words go on; or that it is missing or malformed, and where
abbrev pub HeaderFound : List ℕ → Result Header Refusal → Type 0
HeaderFound text (Ok h) =
    (ls : List Stretch) × (heading_of text ≡ sized h.sizes ls) × (words_of ls ≡ words_from text h.body) × (h.body ≤ length text)
HeaderFound text (Err r) = (p : ℕ) × (r ≡ HeaderRefusal p) × (heading_of text ≡ malformed p)

-- a word starts at place p
pub record StartsWord (text : List ℕ) (p : ℕ) : Type 0 where
  pub not_blank : is_blank (get_or text p 0) ≡ false
  pub not_comment : (get_or text p 0 ≡ letter_c) → starts_line text p ≡ false

-- r is the place of the next word from place p on, or the text's end
pub record NextWord (text : List ℕ) (p r : ℕ) : Type 0 where
  pub same_words : words_from text p ≡ words_from text r
  pub low : p ≤ r
  pub within : r ≤ length text
  pub word_starts : r < length text → StartsWord text r

-- the tally after the numbers of more words, or refusal 3 at the first one that is not a number
unfoldable pub scanned : ℕ → EntryTally → List Stretch → Result EntryTally Refusal
scanned v t [] = Ok t
scanned v t (w ∷ ws) = elim (number w.bytes) [ None ↦ Err (Word w.place) | Some z ↦ scanned v (step v t (nat_abs z)) ws ]

unfoldable pub scanned_from : List ℕ → ℕ → ℕ → Result EntryTally Refusal
scanned_from text p v = scanned v start (words_from text p)

-- the numbers of words, up to the first one that is not a number
unfoldable pub numbers_of : List Stretch → List ℤ
numbers_of [] = []
numbers_of (w ∷ ws) = elim (number w.bytes) [ None ↦ [] | Some z ↦ z ∷ numbers_of ws ]

-- the numbers from place p on
abbrev pub numbers_from : List ℕ → ℕ → List ℤ
numbers_from text p = numbers_of (words_from text p)

-- a row holds numbers at its start, unless they are more than it has room for
abbrev pub Keeps : List ℤ → List ℤ → Type 0
Keeps row numbers = length numbers ≤ length row → take (length numbers) row ≡ numbers

-- what reading comes to once the header is found, and once all words of the body are numbers
unfoldable pub read_body : List ℤ → Sizes → Body → Outcome
read_body row s b = decide (refused row) (accepted row s (entries_of b)) (body_tests row s b)

unfoldable pub read_numbers : List ℤ → Sizes → List ℤ → Outcome
read_numbers row s numbers = decide (refused row) (accepted row s numbers) (numbers_tests row s numbers)
