-- The three tables together, from round to round. Only inner contracts cite these.
-- Assumes nothing.
use Rattle.std.specs.Prelude.{List, ℕ, ◌≤◌, ◌<◌, get_or}
use Rattle.closure.specs.RowJoined.{RowJoined}
use Rattle.closure.specs.Making.{fresh}
use Rattle.closure.specs.Worklist.{HoldsChanged, HoldsAll}
use Rattle.closure.specs.KeptAnds.{AndTable, AndsKnown}
use Rattle.closure.specs.KeptXors.{XorTable, XorsKnown}
use Rattle.closure.specs.SideTable.{SideSlot, SideTable, SidesKnown}
use Rattle.closure.specs.declared.table.KeyTable.{KeyTable}
use Rattle.closure.specs.declared.side_table.KeptSides.{KeptSides}
use Rattle.closure.specs.declared.tally.Tally.{Tally}

-- the tables hold gates of the row, read through the old leads or earlier ones; every gate is known in them but those of the clauses on the list from entry i on
pub record Tables {SLOTS ENTRIES BUCKETS : ℕ} (row marks old new : List ℕ) (t : Tally) (list : List ℕ) (i : ℕ) (ands xors : KeyTable SLOTS BUCKETS) (sides : KeptSides ENTRIES BUCKETS) : Type 0 where
  pub and_table : AndTable row marks ands
  pub xor_table : XorTable row marks old xors
  pub side_table : SideTable row marks old sides
  pub ands_known : AndsKnown row marks old new t list i ands
  pub xors_known : XorsKnown row marks old new t list i xors
  pub sides_known : SidesKnown row marks old new t list i sides.table

-- before a round: it goes over all clauses and the tables are empty, or over those that changed, the round before has joined what all of them draw, and
-- the entries of sides are of that round or an earlier one
pub data Basis {ENTRIES BUCKETS : ℕ} (row marks older old list : List ℕ) (table : KeyTable ENTRIES BUCKETS) : Type 0 where
  anew : HoldsAll row list → table.count ≤ 0 → Basis row marks older old list table
  kept : HoldsChanged row marks older old list → RowJoined row marks older old (fresh 0)
      → ((i : ℕ) → i < table.count → SideSlot row marks older (get_or table.keys i 0) (get_or table.values i 0)) → Basis row marks older old list table
