-- The tests of reading: of a body by the tally of its numbers, and of a text by its header.
-- Assumes nothing.
use mathlib.Core.Path.{◌≡◌, refl, sym, ◌∙◌, ap, subst⁻¹}
use mathlib.Core.List.{List, [], ◌∷◌, ◌++◌, map}
use Rattle.std.specs.Prelude.{Option, None, Some, Result, Ok, Err}
use Prim.Native.Nat.{ℕ, ◌≤◌, ◌<◌}
use native.Mathlib.Omega.{arith}
use borrow.Author.Tests.{lt-ltb, le-ltb}
use lib.IntN.{ℤ, nat_abs}
use lib.ListN.{length}
use Rattle.clauses.specs.Bytes.{Stretch}
use Rattle.clauses.specs.Limit.{max_text}
use Rattle.clauses.specs.Number.{number}
use Rattle.clauses.specs.Refusal.{decide, size_tests, entry_tests}
use Rattle.clauses.specs.Tally.{start, step, tallied, tally_of}
use Rattle.clauses.specs.Check.{check_sizes, check_entries}
use Rattle.clauses.specs.Reading.{Sizes, Heading, sized, malformed, header_malformed, words_of, Body, prepend, body, Outcome, refused, accepted, is_malformed, malformed_at, has_bad_word, bad_word_at, sizes_of, body_of, entries_of, heading_of, numbers_tests, body_tests, reading_tests, reading}
use Rattle.clauses.specs.Scanning.{words_from, HeaderFound, scanned, numbers_of, read_body, read_numbers}
use Rattle.clauses.specs.declared.refusal.Refusal.{Refusal}
use Rattle.clauses.specs.declared.header.Header.{Header}
use Rattle.clauses.specs.declared.refusal.Refusal.TheVariants.{TextTooLong, Header as HeaderRefusal, Word, RowTooShort}
use Rattle.clauses.specs.declared.tally.EntryTally.{EntryTally}
use Rattle.clauses.proofs.Tallies.{tally_all}
use Rattle.clauses.proofs.Tests.{sizes_passed, sizes_refused, entries_passed, entries_refused}

-- what the scan of a body gives
scan_of : ℕ → EntryTally → Body → Result EntryTally Refusal
scan_of v t (Body.entries numbers) = Ok (tallied v t (map nat_abs numbers))
scan_of v t (Body.malformed p) = Err (Word p)

scan_prepend : (v : ℕ) (t : EntryTally) (z : ℤ) (b : Body) → scan_of v (step v t (nat_abs z)) b ≡ scan_of v t (prepend z b)
unfolding scan_of prepend tallied
scan_prepend v t z (Body.entries numbers) = refl
scan_prepend v t z (Body.malformed p) = refl

scanned_body : (v : ℕ) (t : EntryTally) (ws : List Stretch) → scanned v t ws ≡ scan_of v t (body ws)
unfolding scanned body scan_of tallied
scanned_body v t [] = refl
scanned_body v t (w ∷ ws) = go (number w.bytes) refl (λ z. scanned_body v (step v t (nat_abs z)) ws)
  where
    go : (o : Option ℤ) → number w.bytes ≡ o → ((z : ℤ) → scanned v (step v t (nat_abs z)) ws ≡ scan_of v (step v t (nat_abs z)) (body ws)) → scanned v t (w ∷ ws) ≡ scan_of v t (body (w ∷ ws))
    go None e ih = rw (scanned, body, e)
    go (Some z) e ih = rw (scanned, body, e) (ih z ∙ scan_prepend v t z (body ws))

-- the numbers of a body that is not malformed
pub body_entries : (ws : List Stretch) (numbers : List ℤ) → body ws ≡ Body.entries numbers → numbers_of ws ≡ numbers
unfolding body numbers_of prepend
body_entries [] numbers h = cc
body_entries (w ∷ ws) numbers h = go (number w.bytes) refl (body ws) refl (body_entries ws)
  where
    go : (o : Option ℤ) → number w.bytes ≡ o → (b : Body) → body ws ≡ b → ((l : List ℤ) → body ws ≡ Body.entries l → numbers_of ws ≡ l) → numbers_of (w ∷ ws) ≡ numbers
    go None e b k ih = let f = rw (body, e) at h in let z : ◌≡◌ {A = ℕ} 0 1 = cc in absurd (omega arith)
    go (Some z) e (Body.entries l) k ih = let f = rw (body, e, k) at h in let same : z ∷ l ≡ numbers = cc in rw (numbers_of, e, ih l k) same
    go (Some z) e (Body.malformed p) k ih = let f = rw (body, e, k) at h in let q : ◌≡◌ {A = ℕ} 0 1 = cc in absurd (omega arith)

module _ (v : ℕ) (ws : List Stretch) where
  scanned_refused : (r : Refusal) → scanned v start ws ≡ Err r → (p : ℕ) × (r ≡ Word p) × (body ws ≡ Body.malformed p)
  unfolding scan_of
  scanned_refused r e = go (body ws) (sym (scanned_body v start ws) ∙ e)
    where
      go : (b : Body) → scan_of v start b ≡ Err r → (p : ℕ) × (r ≡ Word p) × (b ≡ Body.malformed p)
      go (Body.entries numbers) h = let z : ◌≡◌ {A = ℕ} 0 1 = cc in absurd (omega arith)
      go (Body.malformed q) h = let same : Word q ≡ r = cc in (q, sym same, refl)

  pub scanned_numbers : (t : EntryTally) → scanned v start ws ≡ Ok t → (body ws ≡ Body.entries (numbers_of ws)) × (t ≡ tally_of v (numbers_of ws))
  unfolding scan_of
  scanned_numbers t e = go (body ws) refl (sym (scanned_body v start ws) ∙ e)
    where
      go : (b : Body) → body ws ≡ b → scan_of v start b ≡ Ok t → (body ws ≡ Body.entries (numbers_of ws)) × (t ≡ tally_of v (numbers_of ws))
      go (Body.entries numbers) k h = let same : tallied v start (map nat_abs numbers) ≡ t = cc in rw (body_entries ws numbers k) (k, sym same ∙ tally_all v numbers)
      go (Body.malformed q) k h = let z : ◌≡◌ {A = ℕ} 0 1 = cc in absurd (omega arith)

module _ (row : List ℤ) (s : Sizes) (numbers : List ℤ) where
  pub numbers_short : length row < length numbers → read_numbers row s numbers ≡ refused row RowTooShort
  unfolding read_numbers numbers_tests decide
  numbers_short h = rw (lt-ltb _ _ h)

  module _ (h : length numbers ≤ length row) where
    pub behind_room : read_numbers row s numbers
        ≡ decide (refused row) (accepted row s numbers)
        (size_tests s.nets s.clauses numbers ++ entry_tests s.nets s.clauses numbers)
    unfolding read_numbers numbers_tests decide
    behind_room = rw (le-ltb _ _ h)

    pub numbers_sizes : (r : Refusal) → check_sizes s.nets s.clauses (length numbers) ≡ Err r → read_numbers row s numbers ≡ refused row r
    numbers_sizes r e = behind_room ∙ sizes_refused (refused row) (accepted row s numbers) s.nets s.clauses numbers (entry_tests s.nets s.clauses numbers) r e

    module _ (e : check_sizes s.nets s.clauses (length numbers) ≡ Ok tt) where
      behind_sizes : read_numbers row s numbers ≡ decide (refused row) (accepted row s numbers) (entry_tests s.nets s.clauses numbers)
      behind_sizes = behind_room ∙ sizes_passed (refused row) (accepted row s numbers) s.nets s.clauses numbers (entry_tests s.nets s.clauses numbers) e

      pub numbers_entries : (r : Refusal) → check_entries s.clauses (tally_of s.nets numbers) ≡ Err r → read_numbers row s numbers ≡ refused row r
      numbers_entries r k = behind_sizes ∙ entries_refused (refused row) (accepted row s numbers) s.nets s.clauses numbers [] r k

      pub numbers_accepted : check_entries s.clauses (tally_of s.nets numbers) ≡ Ok tt → read_numbers row s numbers ≡ accepted row s numbers
      unfolding decide
      numbers_accepted k = behind_sizes ∙ entries_passed (refused row) (accepted row s numbers) s.nets s.clauses numbers [] k

-- what an outcome that is a refusal holds
pub refused_is : {o : Outcome} (row : List ℤ) (r : Refusal) → o ≡ refused row r → (Err r ≡ o.result) × (row ≡ o.row)
unfolding refused
refused_is row r e = (sym (ap (λ (o : Outcome). o.result) e), sym (ap (λ (o : Outcome). o.row) e))

module _ (row : List ℤ) (s : Sizes) where
  pub body_malformed : (b : Body) (p : ℕ) → b ≡ Body.malformed p → read_body row s b ≡ refused row (Word p)
  unfolding read_body body_tests has_bad_word bad_word_at decide
  body_malformed b p e = rw e

  -- a scan that is refused refuses the body
  pub body_refused : (v : ℕ) (ws : List Stretch) (r : Refusal) → scanned v start ws ≡ Err r → read_body row s (body ws) ≡ refused row r
  body_refused v ws r e = let word = scanned_refused v ws r e in rw word.1 (body_malformed (body ws) word.0 word.2)

  pub body_numbers : (b : Body) (numbers : List ℤ) → b ≡ Body.entries numbers → read_body row s b ≡ read_numbers row s numbers
  unfolding read_body read_numbers body_tests has_bad_word entries_of decide
  body_numbers b numbers e = subst⁻¹ (λ (t : Body). read_body row s t ≡ read_numbers row s numbers) e refl

module _ (text : List ℕ) (row : List ℤ) where
  pub text_long : max_text < length text → reading text row ≡ refused row TextTooLong
  unfolding reading reading_tests decide
  text_long h = rw (lt-ltb _ _ h)

  module _ (h : length text ≤ max_text) where
    pub heading_malformed : (p : ℕ) → heading_of text ≡ malformed p → reading text row ≡ refused row (HeaderRefusal p)
    unfolding reading reading_tests is_malformed malformed_at decide
    heading_malformed p e = rw (le-ltb _ _ h, e)

    sized_heading : (s : Sizes) (ls : List Stretch) (t : Heading) → t ≡ sized s ls
        → decide (refused row) (accepted row (sizes_of t) (entries_of (body_of t))) (header_malformed t ∷ body_tests row (sizes_of t) (body_of t))
        ≡ read_body row s (body (words_of ls))
    unfolding read_body is_malformed sizes_of body_of decide
    sized_heading s ls t e =
        subst⁻¹
        (λ (t : Heading). decide (refused row) (accepted row (sizes_of t) (entries_of (body_of t))) (header_malformed t ∷ body_tests row (sizes_of t) (body_of t))
        ≡ read_body row s (body (words_of ls)))
        e refl

    pub heading_sized : (s : Sizes) (ls : List Stretch) → heading_of text ≡ sized s ls → reading text row ≡ read_body row s (body (words_of ls))
    unfolding reading read_body reading_tests is_malformed sizes_of body_of decide
    heading_sized s ls e = rw (le-ltb _ _ h) (sized_heading s ls (heading_of text) e)

    pub header_sized : (found : Header) → HeaderFound text (Ok found) → reading text row ≡ read_body row found.sizes (body (words_from text found.body))
    header_sized found f = heading_sized _ f.0 f.1 ∙ rw f.2

-- what reading answers, test by test
pub ruleset readings = (header_sized, heading_malformed, refused_is, text_long)
