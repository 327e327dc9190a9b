-- 'Turned away at the desk': the number and the place of each refusal, document 02's too, and the tests in document 01's order.
-- Assumes nothing.
use Rattle.std.specs.Prelude.{Bool, true, cond, not, ◌||◌, List, [], ◌∷◌, ◌++◌, map, ℕ, suc, eqb, ltb, ℤ, nat_abs, length}
use Rattle.clauses.specs.Bytes.{comma, lf}
use Rattle.clauses.specs.Number.{field}
use Rattle.clauses.specs.Limit.{max_text, max_nets, max_clauses, max_entries}
use Rattle.clauses.specs.declared.refusal.Refusal.{Refusal}
use Rattle.clauses.specs.declared.refusal.Refusal.TheVariants.{TextTooLong, Header, Word, RowTooShort, TooManyNets, TooManyClauses, TooManyEntries, LeadsTooShort, WorkTooShort, EntryTooLarge, NotEnded, ClauseCount, BufferTooShort, TooManyRounds, AigerHeader, LatchesOrOutputs, AigerLine, AndOutput}

abbrev pub number_of : Refusal → ℕ
number_of TextTooLong = 1
number_of (Header p) = 2
number_of (Word p) = 3
number_of RowTooShort = 4
number_of TooManyNets = 5
number_of TooManyClauses = 6
number_of TooManyEntries = 7
number_of LeadsTooShort = 8
number_of WorkTooShort = 9
number_of (EntryTooLarge p) = 10
number_of NotEnded = 11
number_of ClauseCount = 12
number_of BufferTooShort = 13
number_of TooManyRounds = 14
number_of AigerHeader = 15
number_of (LatchesOrOutputs p) = 16
number_of (AigerLine p) = 17
number_of (AndOutput p) = 18

-- 'The place is 0 unless stated.'
abbrev pub place_of : Refusal → ℕ
place_of TextTooLong = 0
place_of (Header p) = p
place_of (Word p) = p
place_of RowTooShort = 0
place_of TooManyNets = 0
place_of TooManyClauses = 0
place_of TooManyEntries = 0
place_of LeadsTooShort = 0
place_of WorkTooShort = 0
place_of (EntryTooLarge p) = p
place_of NotEnded = 0
place_of ClauseCount = 0
place_of BufferTooShort = 0
place_of TooManyRounds = 0
place_of AigerHeader = 0
place_of (LatchesOrOutputs p) = p
place_of (AigerLine p) = p
place_of (AndOutput p) = p

-- a test: whether it holds, and the refusal that it then gives
pub record Test : Type 0 where
  pub holds : Bool
  pub refusal : Refusal

-- 'Checked in this order; the first that holds is given, and none is given that does not hold.'
unfoldable pub decide : {A : Type 0} → (Refusal → A) → A → List Test → A
decide refused accepted [] = accepted
decide refused accepted (t ∷ ts) = cond t.holds (refused t.refusal) (decide refused accepted ts)

-- the number and the place of what each test of a list gives
unfoldable pub numbered : List Test → List (ℕ × ℕ)
numbered ts = map (λ (t : Test). (number_of t.refusal, place_of t.refusal)) ts

-- 1. 'The text is longer than 65,536 bytes.'
abbrev pub text_too_long : List ℕ → Test
text_too_long text = record { holds = ltb max_text (length text); refusal = TextTooLong }

-- 4. 'The lent literal row has fewer entries than the body has numbers.'
abbrev pub row_too_short : ℕ → List ℤ → Test
row_too_short room row = record { holds = ltb room (length row); refusal = RowTooShort }

-- 5. 'V is over 1,024.'
abbrev pub too_many_nets : ℕ → Test
too_many_nets v = record { holds = ltb max_nets v; refusal = TooManyNets }

-- 6. 'C is over 4,096.'
abbrev pub too_many_clauses : ℕ → Test
too_many_clauses c = record { holds = ltb max_clauses c; refusal = TooManyClauses }

-- 7. 'The literal row (in reading: the body, counted in numbers) has more than 16,384 entries.'
abbrev pub too_many_entries : List ℤ → Test
too_many_entries row = record { holds = ltb max_entries (length row); refusal = TooManyEntries }

-- the first index whose entry's magnitude is over v, the length if there is none
unfoldable pub first_over : ℕ → List ℤ → ℕ
first_over v [] = 0
first_over v (z ∷ row) = cond (ltb v (nat_abs z)) 0 (suc (first_over v row))

-- 10. 'An entry's magnitude is over V .. (place: the first such index).'
abbrev pub entry_too_large : ℕ → List ℤ → Test
entry_too_large v row = record { holds = ltb (first_over v row) (length row); refusal = EntryTooLarge (first_over v row) }

-- the last entry is 0, or there is none
unfoldable pub is_ended : List ℤ → Bool
is_ended [] = true
is_ended (z ∷ []) = eqb (nat_abs z) 0
is_ended (z ∷ y ∷ row) = is_ended (y ∷ row)

-- 11. 'The row is not empty and its last entry is not 0.'
abbrev pub not_ended : List ℤ → Test
not_ended row = record { holds = not (is_ended row); refusal = NotEnded }

unfoldable pub zeros : List ℤ → ℕ
zeros [] = 0
zeros (z ∷ row) = cond (eqb (nat_abs z) 0) (suc (zeros row)) (zeros row)

-- 12. 'The number of zeros is not C.'
abbrev pub clause_count : ℕ → List ℤ → Test
clause_count c row = record { holds = not (eqb (zeros row) c); refusal = ClauseCount }

-- tests 5 to 7, of V, C and a literal row
abbrev pub size_tests : ℕ → ℕ → List ℤ → List Test
size_tests v c row = too_many_nets v ∷ too_many_clauses c ∷ too_many_entries row ∷ []

-- tests 10 to 12
abbrev pub entry_tests : ℕ → ℕ → List ℤ → List Test
entry_tests v c row = entry_too_large v row ∷ not_ended row ∷ clause_count c row ∷ []

-- 13. 'The lent text buffer is shorter than the DIMACS text to print, .. or the DIMACS text would pass 65,536 bytes.'
abbrev pub buffer_too_short : ℕ → List ℕ → Test
buffer_too_short room text = record { holds = ltb room (length text) || ltb max_text (length text); refusal = BufferTooShort }

-- the line `refusal,place`
abbrev pub refusal_names : List ℕ
refusal_names = 114 ∷ 101 ∷ 102 ∷ 117 ∷ 115 ∷ 97 ∷ 108 ∷ comma ∷ 112 ∷ 108 ∷ 97 ∷ 99 ∷ 101 ∷ lf ∷ []

-- 'A refusal prints `refusal,place` and a line with the two numbers.'
unfoldable pub refusal_text : Refusal → List ℕ
refusal_text r = refusal_names ++ (field (number_of r) comma ++ field (place_of r) lf)
