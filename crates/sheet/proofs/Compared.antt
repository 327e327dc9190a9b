-- What a comparison answers, by what reading and writing answer; and that what it counts lies within the buffer.
-- Assumes nothing.
use Rattle.std.specs.Prelude.{Result, Ok, Err, IfOk}
use mathlib.Core.Path.{◌≡◌, ap}
use mathlib.Core.List.{List}
use Prim.Native.Nat.{ℕ, ◌+◌, ◌≤◌}
use native.Mathlib.Omega.{arith}
use lib.IntN.{ℤ}
use lib.ListN.{length, take, drop, replicate, length-append}
use Rattle.clauses.specs.Clause.{clauses_of}
use Rattle.clauses.specs.declared.refusal.Refusal.{Refusal}
use Rattle.clauses.specs.declared.reading.ListSize.{ListSize}
use Rattle.clauses.proofs.Deciding.{decide_either}
use Rattle.rules.specs.Answer.{Answer}
use Rattle.rules.specs.Compute.{answer}
use Rattle.closure.specs.Closing.{max_work}
use Rattle.sheet.specs.Sheet.{sheet_text}
use Rattle.sheet.specs.Writing as Writing
use Rattle.sheet.specs.Writing.{writing_tests, writing}
use Rattle.sheet.specs.Comparing.{sheet_of, comparing, comparing_aiger}

module _ (row : List ℤ) (text : List ℕ) (list : Result ListSize Refusal) where
  pub read_refused : (r : Refusal) → list ≡ Err r → record { result = Err r; text = text } ≡ sheet_of list row text
  unfolding sheet_of
  read_refused r e = rw e

  pub read_written : (s : ListSize) → list ≡ Ok s → (y : Result ℕ Refusal) (L W T : List ℕ)
      → record { result = y; leads = L; work = W; text = T }
      ≡ writing s.nets s.clauses (take s.entries row) (s.nets + 1) (replicate 1024 0) (replicate max_work 0) text
      → record { result = y; text = T } ≡ sheet_of list row text
  unfolding sheet_of
  read_written s e y L W T h = rw e (ap (λ (o : Writing.Outcome). record { result = o.result; text = o.text }) h)

-- The bytes that are counted lie within the buffer

abbrev pub BytesWithin : Result ℕ Refusal → List ℕ → Type 0
BytesWithin y text = IfOk y (λ n. n ≤ length text)

written_within : (v c : ℕ) (row : List ℤ) (limit : ℕ) (leads work text : List ℕ)
    → let o = writing v c row limit leads work text in BytesWithin o.result o.text
unfolding writing Writing.refused Writing.written
written_within v c row limit leads work text =
    decide_either (Writing.refused leads work text) (Writing.written v leads work text a) (λ (o : Writing.Outcome). BytesWithin o.result o.text) (λ r. tt)
    (omega (arith, length-append (sheet_text v a) (drop (length (sheet_text v a)) text)))
    (writing_tests v c row limit leads work text)
  where
    a : Answer
    a = answer v (clauses_of row) limit

sheet_within : (list : Result ListSize Refusal) (row : List ℤ) (text : List ℕ) → BytesWithin (sheet_of list row text).result (sheet_of list row text).text
unfolding sheet_of
sheet_within (Err r) row text = tt
sheet_within (Ok s) row text =
    written_within s.nets s.clauses (take s.entries row) (s.nets + 1) (replicate 1024 0) (replicate max_work 0) text

pub compared_within : (input text : List ℕ) → BytesWithin (comparing input text).result (comparing input text).text
unfolding comparing
compared_within input text = sheet_within _ _ text

pub compared_aiger_within : (input text : List ℕ) → BytesWithin (comparing_aiger input text).result (comparing_aiger input text).text
unfolding comparing_aiger
compared_aiger_within input text = sheet_within _ _ text
