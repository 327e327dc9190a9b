use lib.ListN.{take}
use Rattle.clauses.specs.Lists.{each}
use Rattle.aiger.specs.Scanning.{Put, literal_entries}
use Rattle.aiger.proofs.clause.MadeEntries.put_clause.Given as goal

abbrev pub invariant-loop-x : goal.invariant-loop-x
invariant-loop-x l = Put l.initial.self (each (take l.x-index l.clause) literal_entries) l.self
