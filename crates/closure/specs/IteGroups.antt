-- How rule 8 goes over the entries of one key: for each of their ITEs the lead of its e has a holder, the first side of an ITE that came before. Only
-- inner contracts cite these.
-- Assumes nothing.
use Rattle.std.specs.Prelude.{◌≡◌, List, ℕ, suc, ◌+◌, ◌-◌, ◌*◌, ◌≤◌, ◌<◌, length, get_or, Some}
use Rattle.rules.specs.Answer.{lead_of}
use Rattle.closure.specs.Making.{Kernel, JoinedBy}
use Rattle.closure.specs.Marked.{Ready, Went}
use Rattle.closure.specs.Table.{LastSlot}
use Rattle.closure.specs.IteSides.{select_at, output_at, then_at, Pair, Hubs}
use Rattle.closure.specs.declared.table.KeyTable.{KeyTable}
use Rattle.closure.specs.declared.hubs.SideHubs.{SideHubs}
use Rattle.closure.specs.declared.tally.Tally.{Tally}

-- the selects of two sides have one old lead, and so have their literals t
pub record Alike (row old : List ℕ) (i k : ℕ) : Type 0 where
  pub selects : Kernel old (select_at row i) (select_at row k)
  pub thens : Kernel old (then_at row i) (then_at row k)

-- a holder f is a side like k, counted from 1
pub record Held (row old : List ℕ) (k f : ℕ) : Type 0 where
  pub some : 0 < f
  pub alike : Alike row old k (f - 1)

-- the holders: for each lead the first side, counted from 1, of an ITE whose e has that lead
pub record Holders (row marks old holders : List ℕ) : Type 0 where
  pub room : 2 * length old + 2 ≤ length holders
  pub held : (y k : ℕ) → get_or holders y 0 ≡ suc k → (j : ℕ) × Pair row marks k j × (lead_of old (then_at row j) ≡ y)

-- the lead of the e of the ITE of sides k and j has a holder like k, and the outputs are joined
pub record Served (row old holders new : List ℕ) (t : Tally) (k j : ℕ) : Type 0 where
  pub holder : ℕ
  pub in_row : get_or holders (lead_of old (then_at row j)) 0 ≡ suc holder
  pub alike : Alike row old k holder
  pub joined : JoinedBy new t (output_at row k) (output_at row holder)

-- ITEs whose first side is k have been matched: the round has gone on, and the holders like k are still holders
pub record Matching (row marks old : List ℕ) (k : ℕ) (holders new : List ℕ) (t : Tally) (holders' new' : List ℕ) (t' : Tally) : Type 0 where
  pub went : Went row marks old new t new' t'
  pub holds : Holders row marks old holders'
  pub keeps : (y f : ℕ) → get_or holders y 0 ≡ suc f → Alike row old k f → get_or holders' y 0 ≡ suc f

-- what the functions that match ask for: a round is being made, the holders are right, and all sides are chained
pub record Matchable {NUMBERS BUCKETS : ℕ} (row marks : List ℕ) (hubs : SideHubs NUMBERS BUCKETS) (old holders new : List ℕ) (t : Tally) : Type 0 where
  pub ready : Ready row marks old new t
  pub holds : Holders row marks old holders
  pub hubs_are : Hubs row marks hubs

-- entry k is the last one with its key
abbrev pub IsLast : {ENTRIES BUCKETS : ℕ} → KeyTable ENTRIES BUCKETS → ℕ → Type 0
IsLast table k = LastSlot table.keys (get_or table.keys k 0) table.count (Some k)

-- the outputs of the sides in the entries with this key have one new lead
abbrev pub OneOutput : {ENTRIES BUCKETS : ℕ} → List ℕ → List ℕ → KeyTable ENTRIES BUCKETS → ℕ → Type 0
OneOutput row new table like =
    (i k : ℕ) → i < table.count → k < table.count → get_or table.keys i 0 ≡ like → get_or table.keys k 0 ≡ like
    → lead_of new (output_at row (get_or table.values i 0)) ≡ lead_of new (output_at row (get_or table.values k 0))
