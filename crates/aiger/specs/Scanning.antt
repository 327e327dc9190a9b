-- What the inner functions of reading say of a text; no entry point's contract cites these.
-- Assumes nothing.
use Rattle.std.specs.Prelude.{Option, Some, None, Result, Ok, Err, ◌≡◌, true, false, cond, List, [], ◌∷◌, ◌++◌, map, ℕ, ◌+◌, ◌*◌, ◌≤◌, ◌<◌, eqb, ℤ, nat_abs, length}
use Rattle.std.proofs.lemmas.List.Edits.{sets}
use Rattle.clauses.specs.Lists.{each}
use Rattle.clauses.specs.Reading.{Outcome, refused, accepted}
use Rattle.clauses.specs.Refusal.{decide}
use Rattle.clauses.specs.Tally.{tallied}
use Rattle.clauses.specs.declared.refusal.Refusal.{Refusal}
use Rattle.clauses.specs.declared.refusal.Refusal.TheVariants.{AigerLine, AndOutput}
use Rattle.clauses.specs.declared.tally.EntryTally.{EntryTally}
use Rattle.aiger.specs.declared.ands.And.{And}
use Rattle.aiger.specs.declared.clause.MadeEntries.{MadeEntries}
use Rattle.aiger.specs.Circuit.{Circuit, and_clauses, simplified, entry_of, literal_row}
use Rattle.aiger.specs.Line.{Lines, said, faulty, input_lines, is_new, bad_output}
use Rattle.aiger.specs.Reading.{sizes_of, entries_of, line_tests, the_circuit}

-- Input lines

-- the input lines from a place on are as they should be, their literals are listed, and place p lies behind them
pub record InputsListed (m : ℕ) (text : List ℕ) (count from p : ℕ) (listed : List ℕ) : Type 0 where
  pub lines_are : input_lines m text count [] from ≡ said listed p
  pub far : 2 * length listed ≤ p
  pub within : p ≤ length text

-- .. or one is not, and its start is the refusal's place
pub record InputsFaulty (m : ℕ) (text : List ℕ) (count from : ℕ) (r : Refusal) : Type 0 where
  pub at : ℕ
  pub lines_are : input_lines m text count [] from ≡ faulty at
  pub refusal_is : r ≡ AigerLine at

abbrev pub InputsRead : ℕ → List ℕ → ℕ → ℕ → Result ℕ Refusal → List ℕ → Type 0
InputsRead m text count from (Err r) listed = InputsFaulty m text count from r
InputsRead m text count from (Ok p) listed = InputsListed m text count from p listed

-- Entries made

-- the entries that clauses make, simplified
unfoldable pub made : List (List ℕ) → List ℤ
made cs = literal_row (simplified cs)

abbrev pub clause_entries : List ℕ → List ℤ
clause_entries c = made (c ∷ [])

-- the entry of a literal, none of the constant F
unfoldable pub literal_entries : ℕ → List ℤ
literal_entries x = cond (eqb x 0) [] (entry_of x ∷ [])

-- so many entries more can be counted
pub record Room (t : EntryTally) (n : ℕ) : Type 0 where
  pub zeros_few : t.zeros ≤ t.entries
  pub entries_few : t.entries + n < 18446744073709551616

-- entries were put into a row, behind those of the tally t, and counted
pub record Stored (v : ℕ) (t : EntryTally) (kept es : List ℤ) (t' : EntryTally) (kept' : List ℤ) : Type 0 where
  pub tally : t' ≡ tallied v t (map nat_abs es)
  pub content : kept' ≡ sets kept t.entries es

-- .. and put with the entries that are made already
pub record Put (e : MadeEntries) (es : List ℤ) (e' : MadeEntries) : Type 0 where
  pub nets_are : e'.nets ≡ e.nets
  pub stored : Stored e.nets e.tally e.row es e'.tally e'.row

-- AND lines

-- the entries that AND lines make
abbrev pub and_entries : List And → List ℤ
and_entries gs = made (each gs and_clauses)

-- what AND lines come to: the entries made, unless an output is not new
unfoldable pub or_set : Option ℕ → List ℤ → Result (List ℤ) Refusal
or_set None es = Ok es
or_set (Some p) es = Err (AndOutput p)

-- .. or a line is faulty; behind lines that have set the nets before and have made the entries es
unfoldable pub ands_result : List ℕ → List ℤ → Lines (List And) → Result (List ℤ) Refusal
ands_result before es (faulty p) = Err (AigerLine p)
ands_result before es (said gs q) = or_set (bad_output before gs) (es ++ and_entries gs)

-- what the clauses of an AND line ask: its literals have at most nine digits, and there is room for their entries
pub record Ready (g : And) (t : EntryTally) : Type 0 where
  pub output_small : g.output < 1000000000
  pub left_small : g.left < 1000000000
  pub right_small : g.right < 1000000000
  pub room : Room t 10

-- the entries of an AND line's clauses were put, and its output is listed
pub record Making (g : And) (listed : List ℕ) (e : MadeEntries) (listed' : List ℕ) (e' : MadeEntries) : Type 0 where
  pub put : Put e (made (and_clauses g)) e'
  pub listed_are : listed' ≡ listed ++ (g.output ∷ [])

-- what taking an AND line leaves
pub record AndTaken (g : And) (listed : List ℕ) (e : MadeEntries) (taken : Result (Unit {0}) Refusal) (listed' : List ℕ) (e' : MadeEntries) : Type 0 where
  pub new : is_new listed g.output ≡ true → (taken ≡ Ok tt) × Making g listed e listed' e'
  pub not_new : is_new listed g.output ≡ false → taken ≡ Err (AndOutput g.place)

-- what the scan of AND lines answers, and the entries that it makes
abbrev pub AndsRead : Result (List ℤ) Refusal → MadeEntries → Result (Unit {0}) Refusal → MadeEntries → Type 0
AndsRead (Ok es) e scan e' = (scan ≡ Ok tt) × Put e es e'
AndsRead (Err r) e scan e' = scan ≡ Err r

-- what reading comes to once the lines are read
unfoldable pub read_lines : List ℤ → Lines Circuit → Outcome
read_lines row ls = decide (refused row) (accepted row (sizes_of (the_circuit ls)) (entries_of (the_circuit ls))) (line_tests row ls)
