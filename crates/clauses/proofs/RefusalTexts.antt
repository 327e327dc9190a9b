-- How long a refusal's text is.
-- Assumes nothing.
use mathlib.Core.Path.{◌≡◌}
use mathlib.Core.List.{List, [], ◌∷◌, ◌++◌}
use Prim.Native.Nat.{ℕ, ◌≤◌, ◌<◌}
use native.Mathlib.Omega.{arith}
use lib.ListN.{length, drop, length-append}
use Rattle.clauses.specs.Bytes.{comma, lf}
use Rattle.clauses.specs.Number.{decimal, field}
use Rattle.clauses.specs.Refusal.{number_of, place_of, refusal_names, refusal_text}
use Rattle.clauses.specs.Writing.{Wrote}
use Rattle.clauses.specs.declared.refusal.Refusal.{Refusal}
use Rattle.clauses.specs.declared.refusal.Refusal.TheVariants.{TextTooLong, Header, Word, RowTooShort, TooManyNets, TooManyClauses, TooManyEntries, LeadsTooShort, WorkTooShort, EntryTooLarge, NotEnded, ClauseCount, BufferTooShort, TooManyRounds, AigerHeader, LatchesOrOutputs, AigerLine, AndOutput}
use Rattle.clauses.proofs.Decimals.{decimal_length}
use Rattle.clauses.proofs.Numerals.{decimal_numeral}
use Rattle.clauses.proofs.Writes.{wrote_then, wrote_start}

number_small : (r : Refusal) → number_of r < 100
number_small TextTooLong = omega arith
number_small (Header p) = omega arith
number_small (Word p) = omega arith
number_small RowTooShort = omega arith
number_small TooManyNets = omega arith
number_small TooManyClauses = omega arith
number_small TooManyEntries = omega arith
number_small LeadsTooShort = omega arith
number_small WorkTooShort = omega arith
number_small (EntryTooLarge p) = omega arith
number_small NotEnded = omega arith
number_small ClauseCount = omega arith
number_small BufferTooShort = omega arith
number_small TooManyRounds = omega arith
number_small AigerHeader = omega arith
number_small (LatchesOrOutputs p) = omega arith
number_small (AigerLine p) = omega arith
number_small (AndOutput p) = omega arith

pub number_length : (r : Refusal) (end : ℕ) → length (field (number_of r) end) ≤ 3
number_length r end =
    omega (arith, length-append (decimal (number_of r)) (end ∷ []), (decimal_numeral (number_of r) (omega (arith, number_small r))).few_figures 1 (number_small r))

pub place_length : (r : Refusal) (end : ℕ) → length (field (place_of r) end) ≤ 21
place_length r end = omega (arith, length-append (decimal (place_of r)) (end ∷ []), decimal_length (place_of r))

-- the three parts of the text, written one after the other into a buffer that has room for any
module _ (r : Refusal) {text text₁ text₂ text₃ : List ℕ} {at next end : ℕ} (size : length text ≡ 38) where
  pub refusal_written : Wrote text 0 refusal_names text₁ at → Wrote text₁ at (field (number_of r) comma) text₂ next → Wrote text₂ next (field (place_of r) lf) text₃ end
      → (end ≡ length (refusal_text r)) × (text₃ ≡ refusal_text r ++ drop (length (refusal_text r)) text)
  unfolding refusal_text
  refusal_written a b c =
      let w : Wrote text 0 (refusal_text r) text₃ end = wrote_then a (wrote_then b c) in
      (omega (arith, w.end), wrote_start w (omega (arith, length-append refusal_names (field (number_of r) comma ++ field (place_of r) lf), length-append (field (number_of r) comma) (field (place_of r) lf), number_length r comma, place_length r lf)))
