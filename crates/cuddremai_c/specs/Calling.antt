-- What the entry points for C answer: 0 for acceptance, else the refusal's number; and what the lent numbers then hold.
-- Assumes nothing.
use Rattle.std.specs.Prelude.{Result, Ok, Err, List, [], ◌∷◌, ℕ}
use Rattle.clauses.specs.Refusal.{number_of, place_of}
use Rattle.clauses.specs.declared.refusal.Refusal.{Refusal}
use Rattle.clauses.specs.declared.reading.ListSize.{ListSize}
use Rattle.closure.specs.declared.close.Summary.{Summary}
use Rattle.rules.specs.declared.Verdict.{Verdict}
use Rattle.rules.specs.declared.Verdict.TheVariants.{Contradiction, Settled, Unfinished}

-- the result, the place, and the numbers that were lent for the answer
pub record Call (X : Type 0) : Type 0 where
  pub number : ℕ
  pub place : ℕ
  pub values : X

-- on refusal 'everything lent keeps its contents' but for the place
abbrev pub refused_call : {X : Type 0} → Refusal → X → Call X
refused_call r before = record { number = number_of r; place = place_of r; values = before }

abbrev pub accepted_call : {X : Type 0} → X → Call X
accepted_call values = record { number = 0; place = 0; values = values }

-- reading 'answers V, C and how many they are'
abbrev pub read_call : Result ListSize Refusal → ListSize → Call ListSize
read_call (Err r) before = refused_call r before
read_call (Ok s) before = accepted_call s

-- 'printing and the sheet answer the bytes written'
abbrev pub print_call : Result ℕ Refusal → ℕ → Call ℕ
print_call (Err r) before = refused_call r before
print_call (Ok n) before = accepted_call n

abbrev pub sheet_call : Result ℕ Refusal → ℕ → Call ℕ
sheet_call = print_call

-- contradiction, settled, unfinished; 0 is none of them
abbrev pub verdict_number : Verdict → ℕ
verdict_number Contradiction = 1
verdict_number Settled = 2
verdict_number Unfinished = 3

-- the verdict's number, the rounds, the numbers of ANDs, XORs and ITEs, and the groups
abbrev pub numbers : Summary → List ℕ
numbers s = verdict_number s.verdict ∷ s.rounds ∷ s.ands ∷ s.xors ∷ s.ites ∷ s.groups ∷ []

abbrev pub close_call : Result Summary Refusal → List ℕ → Call (List ℕ)
close_call (Err r) before = refused_call r before
close_call (Ok s) before = accepted_call (numbers s)
