-- Which refusals reading can give where the row has room for the numbers of any text: never number 4.
-- Assumes nothing.
use mathlib.Core.Path.{◌≡◌, refl, ◌∙◌}
use mathlib.Core.Bool.{true}
use mathlib.Core.List.{List, [], ◌∷◌, ◌++◌}
use Prim.Native.Nat.{ℕ, ◌≤◌}
use native.Mathlib.Omega.{arith}
use borrow.Author.Tests.{ltb-true, ltb-false}
use borrow.Table.Steps.{cases}
use lib.Dec.{ltb}
use lib.IntN.{ℤ}
use lib.ListN.{length}
use Rattle.std.specs.Prelude.{Err}
use Rattle.clauses.specs.Bytes.{Stretch}
use Rattle.clauses.specs.Limit.{max_text}
use Rattle.clauses.specs.Lists.{any, all}
use Rattle.clauses.specs.Listing.{mem}
use Rattle.clauses.specs.Refusal.{number_of, size_tests, entry_tests}
use Rattle.clauses.specs.Reading.{Sizes, Heading, words_of, Body, body, Outcome, refused, accepted, heading_of, reading}
use Rattle.clauses.specs.Scanning.{read_body}
use Rattle.clauses.specs.declared.refusal.Refusal.{Refusal}
use Rattle.clauses.specs.declared.refusal.Refusal.TheVariants.{TextTooLong, Header, Word}
use Rattle.clauses.proofs.Deciding.{is_among, decide_among}
use Rattle.clauses.proofs.ReadingTests.{body_malformed, body_numbers, behind_room, text_long, heading_malformed, heading_sized}
use Rattle.clauses.proofs.WordCounts.{numbers_few}

-- a refusal has one of these numbers
unfoldable pub Among : List ℕ → Outcome → Type 0
Among ns o = (r : Refusal) → o.result ≡ Err r → mem (number_of r) ns ≡ true

module _ (ns : List ℕ) (row : List ℤ) where
  pub refused_among : (r : Refusal) → mem (number_of r) ns ≡ true → Among ns (refused row r)
  unfolding Among refused
  refused_among r h s e = let same : r ≡ s = cc in rw (← same) h

  pub accepted_among : (s : Sizes) (numbers : List ℤ) → Among ns (accepted row s numbers)
  unfolding Among accepted
  accepted_among s numbers r e = let z : ◌≡◌ {A = ℕ} 0 1 = cc in absurd (omega arith)

-- what reading tests, but for the row's room
abbrev pub reading_numbers : List ℕ
reading_numbers = 1 ∷ 2 ∷ 3 ∷ 5 ∷ 6 ∷ 7 ∷ 10 ∷ 11 ∷ 12 ∷ []

module _ (row : List ℤ) (s : Sizes) where
  numbers_among : (numbers : List ℤ) → length numbers ≤ length row → Among reading_numbers (read_body row s (Body.entries numbers))
  unfolding all any mem is_among
  numbers_among numbers h =
      rw (body_numbers row s (Body.entries numbers) numbers refl ∙ behind_room row s numbers h)
      (decide_among (refused row) (accepted row s numbers) (Among reading_numbers) reading_numbers (refused_among reading_numbers row) (size_tests s.nets s.clauses numbers ++ entry_tests s.nets s.clauses numbers) refl
      (λ n. accepted_among reading_numbers row s numbers))

  malformed_among : (p : ℕ) → Among reading_numbers (read_body row s (Body.malformed p))
  unfolding any mem
  malformed_among p = rw (body_malformed row s (Body.malformed p) p refl) (refused_among reading_numbers row (Word p) refl)

pub reading_refusals : (text : List ℕ) (row : List ℤ) → 32763 ≤ length row → (r : Refusal) → (reading text row).result ≡ Err r → mem (number_of r) reading_numbers ≡ true
unfolding Among any mem
reading_refusals text row room =
    cases (ltb max_text (length text)) (λ t. rw (text_long text row (ltb-true max_text (length text) t)) (refused_among reading_numbers row TextTooLong refl))
    (λ t. found (ltb-false max_text (length text) t) (heading_of text) refl)
  where
    entries : (s : Sizes) (ls : List Stretch) → length text ≤ max_text → heading_of text ≡ Heading.sized s ls → (b : Body) → body (words_of ls) ≡ b → Among reading_numbers (read_body row s b)
    entries s ls h e (Body.malformed p) k = malformed_among row s p
    entries s ls h e (Body.entries numbers) k = numbers_among row s numbers (omega (arith, numbers_few text s ls numbers e k))

    found : length text ≤ max_text → (h : Heading) → heading_of text ≡ h → Among reading_numbers (reading text row)
    found h (Heading.malformed p) e = rw (heading_malformed text row h p e) (refused_among reading_numbers row (Header p) refl)
    found h (Heading.sized s ls) e = rw (heading_sized text row h s ls e) (entries s ls h e (body (words_of ls)) refl)
