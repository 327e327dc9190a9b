-- The table of sides that is kept from round to round. An entry has a side and the key of the leads that its select and its literal t had when it was
-- entered; it is chained by its select, output and key, where mates are found, and by its key alone, where sides that are alike are. Only inner
-- contracts cite these.
-- Assumes nothing.
use Rattle.std.specs.Prelude.{◌≡◌, ◌≢◌, ◌⊎◌, List, ℕ, ◌+◌, ◌*◌, ◌/◌, ◌%◌, ◌≤◌, ◌<◌, get_or, Option, Some, None}
use Rattle.clauses.specs.Code.{negate}
use Rattle.clauses.specs.Chains.{Last, Chained}
use Rattle.rules.specs.Answer.{lead_of}
use Rattle.closure.specs.Making.{Kernel, JoinedBy}
use Rattle.closure.specs.Worklist.{OnList, Past}
use Rattle.closure.specs.IteSides.{InThree, select_at, output_at, then_at, IsSide, clause_of, Pair, pair_key}
use Rattle.closure.specs.declared.table.KeyTable.{KeyTable}
use Rattle.closure.specs.declared.side_table.KeptSides.{KeptSides}
use Rattle.closure.specs.declared.tally.Tally.{Tally}

-- the key of side s now
abbrev pub like_of : List ℕ → List ℕ → ℕ → ℕ
like_of row old s = pair_key (lead_of old (select_at row s)) (lead_of old (then_at row s))

-- the bucket, of m, of a select, an output and a key
abbrev pub mate_bucket : ℕ → ℕ → ℕ → ℕ → ℕ
mate_bucket m c l like = (like % 4294967291 + c * 31 + l * 1009) % m

-- .. of entry i
unfoldable pub mate_of : {ENTRIES BUCKETS : ℕ} → List ℕ → ℕ → KeyTable ENTRIES BUCKETS → ℕ → ℕ
mate_of row m table i = mate_bucket m (select_at row (get_or table.values i 0)) (output_at row (get_or table.values i 0)) (get_or table.keys i 0)

-- the key is of two literals to which the side's select and its literal t are joined: those that led them when it was entered
pub record SideSlot (row marks old : List ℕ) (like s : ℕ) : Type 0 where
  pub is-side : IsSide row marks s
  pub select : ℕ
  pub then : ℕ
  pub like_is : like ≡ pair_key select then
  pub select_is : Kernel old (select_at row s) select
  pub then_is : Kernel old (then_at row s) then
  pub select_low : select < 4294967296
  pub then_low : then < 4294967296

-- an entry's key is that of the leads that its side's select and literal t had when it was entered, its value is the side
pub record SideTable {ENTRIES BUCKETS : ℕ} (row marks old : List ℕ) (sides : KeptSides ENTRIES BUCKETS) : Type 0 where
  pub some : 0 < BUCKETS
  pub mates : Chained (mate_of row BUCKETS sides.table) sides.table.count sides.mate_heads sides.mate_next
  pub are : (i : ℕ) → i < sides.table.count → SideSlot row marks old (get_or sides.table.keys i 0) (get_or sides.table.values i 0)

-- Looking up

-- entry i has this select, output and key
pub record IsEntry {ENTRIES BUCKETS : ℕ} (row : List ℕ) (table : KeyTable ENTRIES BUCKETS) (c l like i : ℕ) : Type 0 where
  pub key : get_or table.keys i 0 ≡ like
  pub select : select_at row (get_or table.values i 0) ≡ c
  pub output : output_at row (get_or table.values i 0) ≡ l

-- the last such entry below m, if there is one
abbrev pub LastEntry : {ENTRIES BUCKETS : ℕ} → List ℕ → KeyTable ENTRIES BUCKETS → ℕ → ℕ → ℕ → ℕ → Option ℕ → Type 0
LastEntry row table c l like m None = (i : ℕ) → i < m → ¬ IsEntry row table c l like i
LastEntry row table c l like m (Some k) = (k < m) × IsEntry row table c l like k × ((i : ℕ) → i < m → IsEntry row table c l like i → i ≤ k)

-- the entries below `bound` in the bucket of a select, an output and a key are chained from entry `from` on, counted from 1
pub record MatesFrom {ENTRIES BUCKETS : ℕ} (row : List ℕ) (sides : KeptSides ENTRIES BUCKETS) (c l like bound from : ℕ) : Type 0 where
  pub few : bound ≤ sides.table.count
  pub threes : (i : ℕ) → i < sides.table.count → InThree row (get_or sides.table.values i 0 / 2)
  pub mates : Chained (mate_of row BUCKETS sides.table) sides.table.count sides.mate_heads sides.mate_next
  pub last : Last (λ (i b : ℕ). mate_of row BUCKETS sides.table i ≡ b) (mate_bucket BUCKETS c l like) bound from

-- entry i can be the other side of an ITE of side s whose literals t and e have one lead
abbrev pub MateAt : {ENTRIES BUCKETS : ℕ} → List ℕ → List ℕ → KeyTable ENTRIES BUCKETS → ℕ → ℕ → Type 0
MateAt row old table s =
    IsEntry row table (negate (select_at row s)) (output_at row s) (pair_key (lead_of old (negate (select_at row s))) (lead_of old (then_at row s)))

-- rule 7 has joined what it draws from side s and the entries
pub record SideJoined {ENTRIES BUCKETS : ℕ} (row old new : List ℕ) (t : Tally) (table : KeyTable ENTRIES BUCKETS) (s : ℕ) : Type 0 where
  pub selects : Kernel old (select_at row s) 1 → JoinedBy new t (output_at row s) (then_at row s)
  pub mates : (i : ℕ) → i < table.count → MateAt row old table s i → JoinedBy new t (output_at row s) (then_at row s)

-- What entries stand for

-- an entry has the select, the output and the key of side s, and its literal t is not m
pub record EntryOff {ENTRIES BUCKETS : ℕ} (row old : List ℕ) (table : KeyTable ENTRIES BUCKETS) (s m : ℕ) : Type 0 where
  pub entry : ℕ
  pub taken : entry < table.count
  pub select : select_at row (get_or table.values entry 0) ≡ select_at row s
  pub output : output_at row (get_or table.values entry 0) ≡ output_at row s
  pub like : get_or table.keys entry 0 ≡ like_of row old s
  pub apart : then_at row (get_or table.values entry 0) ≢ m

-- entries stand for side s: whatever its literal t is not, that of one of them is not either. So where s makes an ITE with another side, an entry does,
-- with the same output
abbrev pub StoodFor : {ENTRIES BUCKETS : ℕ} → List ℕ → List ℕ → KeyTable ENTRIES BUCKETS → ℕ → Type 0
StoodFor row old table s = (m : ℕ) → then_at row s ≢ m → EntryOff row old table s m

-- entries stand for the sides of the clauses that the pass over the list is done with; rule 7 has joined what it draws from those of listed clauses
pub record SidesKnown {ENTRIES BUCKETS : ℕ} (row marks old new : List ℕ) (t : Tally) (list : List ℕ) (i : ℕ) (table : KeyTable ENTRIES BUCKETS) : Type 0 where
  pub stood : (s : ℕ) → IsSide row marks s → Past list i (clause_of row s) → StoodFor row old table s
  pub selects : (s : ℕ) → IsSide row marks s → Past list i (clause_of row s) → OnList list (clause_of row s) → Kernel old (select_at row s) 1
      → JoinedBy new t (output_at row s) (then_at row s)
  pub thens : (k j : ℕ) → Pair row marks k j → Past list i (clause_of row k) → Past list i (clause_of row j) → OnList list (clause_of row k) ⊎ OnList list (clause_of row j)
      → Kernel old (then_at row k) (then_at row j) → JoinedBy new t (output_at row k) (then_at row k)

-- the entries by their keys
pub record SideGroups {ENTRIES BUCKETS : ℕ} (row marks old : List ℕ) (table : KeyTable ENTRIES BUCKETS) : Type 0 where
  pub are : (i : ℕ) → i < table.count → SideSlot row marks old (get_or table.keys i 0) (get_or table.values i 0)

-- rule 8 has joined what it draws from the ITEs whose first sides are in entries with this key
abbrev pub GroupJoined : {ENTRIES BUCKETS : ℕ} → List ℕ → List ℕ → List ℕ → List ℕ → Tally → KeyTable ENTRIES BUCKETS → ℕ → Type 0
GroupJoined row marks old new t table like =
    (i k j g : ℕ) → i < table.count → k < table.count → get_or table.keys i 0 ≡ like → get_or table.keys k 0 ≡ like
    → Pair row marks (get_or table.values i 0) j → Pair row marks (get_or table.values k 0) g → Kernel old (then_at row j) (then_at row g)
    → JoinedBy new t (output_at row (get_or table.values i 0)) (output_at row (get_or table.values k 0))
