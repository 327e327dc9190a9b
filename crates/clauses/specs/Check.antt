-- The tests that reading, printing and closing share, of what they know of a list.
-- Assumes nothing.
use Rattle.std.specs.Prelude.{not, [], ◌∷◌, ℕ, eqb, ltb, Result, Ok, Err}
use Rattle.clauses.specs.Limit.{max_entries}
use Rattle.clauses.specs.Refusal.{decide, too_many_nets, too_many_clauses}
use Rattle.clauses.specs.declared.refusal.Refusal.TheVariants.{TooManyEntries, EntryTooLarge, NotEnded, ClauseCount}
use Rattle.clauses.specs.declared.refusal.Refusal.{Refusal}
use Rattle.clauses.specs.declared.tally.EntryTally.{EntryTally}

-- tests 5 to 7, of V, C and the number of entries
unfoldable pub check_sizes : ℕ → ℕ → ℕ → Result (Unit {0}) Refusal
check_sizes v c entries =
    decide Err (Ok tt)
    (too_many_nets v ∷ too_many_clauses c ∷ record { holds = ltb max_entries entries; refusal = TooManyEntries } ∷ [])

-- tests 10 to 12, of C and the tally of the entries
unfoldable pub check_entries : ℕ → EntryTally → Result (Unit {0}) Refusal
check_entries c t =
    decide Err (Ok tt)
    (record { holds = ltb t.within t.entries; refusal = EntryTooLarge t.within }
    ∷ record { holds = not t.ended; refusal = NotEnded }
    ∷ record { holds = not (eqb t.zeros c); refusal = ClauseCount } ∷ [])
