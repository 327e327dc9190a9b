-- The numbers of a body, gathered word by word.
-- Assumes nothing.
use mathlib.Core.Path.{◌≡◌, refl, sym, ◌∙◌, ap}
use mathlib.Core.Bool.{Bool, true, false, cond}
use mathlib.Core.List.{List, [], ◌∷◌}
use Prim.Native.Nat.{ℕ, suc, ◌+◌, ◌≤◌, ◌<◌}
use native.Mathlib.Numerals.{add-one}
use native.Mathlib.Omega.{arith}
use borrow.Table.Steps.{cases}
use lib.Dec.{eqb}
use lib.IntN.{ℤ}
use lib.ListN.{length, drop, set, length-set, drop_of_length-le}
use lib.Seq.{sets, length-sets, sets-eq, take-append_seam}
use Rattle.std.specs.Prelude.{None, Some, Ok, Err}
use Rattle.clauses.specs.Bytes.{front, Stretch}
use Rattle.clauses.specs.Number.{signed}
use Rattle.clauses.specs.Reading.{is_comment}
use Rattle.clauses.specs.Tally.{start, step}
use Rattle.clauses.specs.Scanning.{is_in_word, number_at, starts_line, words_from, StartsWord, NextWord, scanned, numbers_of, numbers_from, Keeps}
use Rattle.clauses.specs.declared.refusal.Refusal.TheVariants.{Word}
use Rattle.clauses.specs.declared.tally.EntryTally.{EntryTally}
use Rattle.clauses.specs.declared.number.Number.{Number}
use Rattle.clauses.proofs.Runs.{run_goes_on, run_within}
use Rattle.clauses.proofs.Magnitudes.{magnitude_small}
use Rattle.clauses.proofs.LinesAndWords.{words_of_lines, words_in_line_none}
use Rattle.clauses.proofs.Words.{WordNumber, word_number, word_no_number}
use Rattle.clauses.proofs.Bodies.{whole_line, inside_line, words_from_word}

-- a number at the start of a word
module _ (text : List ℕ) (at : ℕ) (h : at < length text) (w : StartsWord text at) (n : Number) (e : number_at (drop at text) at ≡ Some n) where
  pub number_further : at < n.next.at
  number_further =
      omega (arith, ap length (run_goes_on is_in_word text at h (rw w.not_blank)), (word_number (drop at text) at n e).ends)

  pub number_within : n.next.at ≤ length text
  number_within =
      run_within is_in_word text at n.next.at (word_number (drop at text) at n e).ends (λ q. omega (arith, number_further))

-- nothing follows the text's end
words_end : (text : List ℕ) (p : ℕ) → length text ≤ p → words_from text p ≡ []
unfolding is_comment
words_end text p h = cases (starts_line text p) at_line in_line
  where
    at_line : starts_line text p ≡ true → words_from text p ≡ []
    at_line t = whole_line text p t ∙ rw (drop_of_length-le text h) (words_of_lines p [] refl ∙ words_in_line_none p)

    in_line : starts_line text p ≡ false → words_from text p ≡ []
    in_line t = inside_line text p t ∙ rw (drop_of_length-le text h) (words_in_line_none p)

-- the words from place at on decide what the tally comes to and what is kept; so far the tally counts at most one entry for each byte passed
pub record Scanned (text : List ℕ) (v from : ℕ) (before kept : List ℤ) (t : EntryTally) (at : ℕ) : Type 0 where
  pub rest : scanned v start (words_from text from) ≡ scanned v t (words_from text at)
  pub kept_rest : sets before 0 (numbers_from text from) ≡ sets kept t.entries (numbers_from text at)
  pub size : length kept ≡ length before
  pub within : at ≤ length text
  pub word_starts : at < length text → StartsWord text at
  pub zeros_few : t.zeros ≤ t.entries
  pub entries_few : t.entries ≤ at

module _ (text : List ℕ) (v from : ℕ) (before : List ℤ) where
  pub scan_starts : (r : ℕ) → NextWord text from r → Scanned text v from before before start r
  scan_starts r n =
      record {
        rest = ap (scanned v start) n.same_words;
        kept_rest = ap (λ (ws : List Stretch). sets before 0 (numbers_of ws)) n.same_words;
        size = refl;
        within = n.within;
        word_starts = n.word_starts;
        zeros_few = omega arith;
        entries_few = omega arith;
      }

  module _ (kept : List ℤ) (t : EntryTally) (at : ℕ) (s : Scanned text v from before kept t at) where
    pub scan_ends : length text ≤ at → (Ok t ≡ scanned v start (words_from text from)) × (kept ≡ sets before 0 (numbers_from text from))
    unfolding scanned numbers_of
    scan_ends h = (sym (s.rest ∙ rw (words_end text at h)), sym (s.kept_rest ∙ rw (words_end text at h)))

    module _ (h : at < length text) where
      word : words_from text at ≡ record { place = at; bytes = front is_in_word (drop at text) } ∷ words_from text (at + length (front is_in_word (drop at text)))
      word = words_from_word text at h (s.word_starts h)

      pub scan_breaks : number_at (drop at text) at ≡ None → (Err (Word at) ≡ scanned v start (words_from text from)) × (kept ≡ sets before 0 (numbers_from text from))
      unfolding scanned numbers_of
      scan_breaks e =
          let none_read = word_no_number (drop at text) at e in
          (sym (s.rest ∙ rw (word, scanned, none_read)), sym (s.kept_rest ∙ rw (word, numbers_of, none_read)))

      module _ (n : Number) (e : number_at (drop at text) at ≡ Some n) where
        read : WordNumber (drop at text) at n
        read = word_number (drop at text) at n e

        pub scan_steps : (r : ℕ) → NextWord text n.next.at r → Scanned text v from before (set kept t.entries (signed n.minus n.magnitude)) (step v t n.magnitude) r
        unfolding scanned numbers_of step
        scan_steps r found =
            record {
              rest = s.rest ∙ rw (word, scanned, read.number_is, read.magnitude, ← read.ends) (ap (scanned v (step v t n.magnitude)) found.same_words);
              kept_rest = s.kept_rest ∙ rw (word, numbers_of, read.number_is, ← read.ends, add-one) (ap (λ (ws : List Stretch). sets (set kept t.entries (signed n.minus n.magnitude)) (suc t.entries) (numbers_of ws)) found.same_words);
              size = length-set kept t.entries (signed n.minus n.magnitude) ∙ s.size;
              within = found.within;
              word_starts = found.word_starts;
              zeros_few = few (eqb n.magnitude 0);
              entries_few = omega (arith, s.entries_few, number_further text at h (s.word_starts h) n e, found.low);
            }
          where
            few : (b : Bool) → cond b (t.zeros + 1) t.zeros ≤ t.entries + 1
            few true = omega (arith, s.zeros_few)
            few false = omega (arith, s.zeros_few)

-- a row holds the numbers that are stored in it from its start on
pub sets_keep : (row numbers : List ℤ) → Keeps (sets row 0 numbers) numbers
sets_keep row numbers h =
    let fits : length numbers ≤ length row = omega (arith, h, length-sets row 0 numbers) in
    let zero-add : 0 + length numbers ≡ length numbers = omega arith in
    rw (sets-eq numbers row 0 (rw zero-add fits)) (take-append_seam numbers (drop (0 + length numbers) row))

-- a scan, number by number
pub ruleset scans = (magnitude_small, scan_breaks, scan_ends, scan_starts, scan_steps, number_further, number_within)
