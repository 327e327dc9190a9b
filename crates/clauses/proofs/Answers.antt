-- What an answer counts lies within what was lent.
-- Assumes nothing.
use mathlib.Core.Path.{◌≡◌}
use mathlib.Core.List.{List}
use Prim.Native.Nat.{ℕ, ◌≤◌}
use native.Mathlib.Omega.{arith}
use lib.IntN.{ℤ}
use borrow.Author.Tests.{ltb-false}
use lib.ListN.{length, drop, length-append}
use Rattle.std.specs.Prelude.{Ok}
use Rattle.clauses.specs.Printing as Printing
use Rattle.clauses.specs.Printing.{list_text, printing_tests, printing, written}
use Rattle.clauses.specs.Reading as Reading
use Rattle.clauses.specs.Reading.{Sizes, numbers_tests, body_tests, reading_tests, reading, accepted}
use Rattle.clauses.specs.Limit.{max_nets}
use Rattle.clauses.specs.declared.refusal.Refusal.{Refusal}
use Rattle.clauses.specs.declared.reading.ListSize.{ListSize}
use Rattle.clauses.proofs.Deciding.{decide_either, decide_has}

-- Reading

-- the entries that reading counts lie within the row, and V within its limit
Within : Reading.Outcome → Type 0
Within o = (s : ListSize) → o.result ≡ Ok s → (s.entries ≤ length o.row) × (s.nets ≤ max_nets)

module _ (row : List ℤ) where
  refused_within : (r : Refusal) → Within (Reading.refused row r)
  unfolding Within Reading.refused
  refused_within r s e = let z : ◌≡◌ {A = ℕ} 0 1 = cc in absurd (omega arith)

  accepted_within : (s : Sizes) (numbers : List ℤ) → s.nets ≤ max_nets → Within (accepted row s numbers)
  unfolding Within accepted
  accepted_within s numbers h t e =
      let same : length numbers ≡ t.entries = cc in
      let nets : s.nets ≡ t.nets = cc in
      (omega (arith, same, length-append numbers (drop (length numbers) row)), omega (arith, nets))

  pub read_within : (text : List ℕ) (s : ListSize) → (reading text row).result ≡ Ok s
      → (s.entries ≤ length (reading text row).row) × (s.nets ≤ max_nets)
  unfolding reading Within reading_tests body_tests numbers_tests
  read_within text =
      decide_has (Reading.refused row) _ Within (reading_tests text row) (λ t k h. refused_within t.refusal)
      (λ n. accepted_within _ _ (ltb-false _ _ n.1.1.1.1.0))

-- Printing

module _ (buffer : List ℕ) (n : ℕ) where
  BytesWithin : Printing.Outcome → Type 0
  BytesWithin o = o.result ≡ Ok n → n ≤ length o.buffer

  refuses_within : (r : Refusal) → BytesWithin (Printing.refused buffer r)
  unfolding BytesWithin Printing.refused
  refuses_within r e = let z : ◌≡◌ {A = ℕ} 0 1 = cc in absurd (omega arith)

  written_within : (text : List ℕ) → BytesWithin (written buffer text)
  unfolding BytesWithin written
  written_within text e =
      let same : length text ≡ n = cc in
      omega (arith, same, length-append text (drop (length text) buffer))

  -- the bytes that printing counts lie within the buffer
  pub print_within : (v c : ℕ) (row : List ℤ) → (printing v c row buffer).result ≡ Ok n → n ≤ length (printing v c row buffer).buffer
  unfolding printing BytesWithin
  print_within v c row =
      decide_either (Printing.refused buffer) (written buffer (list_text v c row)) BytesWithin refuses_within
      (written_within (list_text v c row)) (printing_tests v c row buffer)
