-- The table of XORs that is kept from round to round: what a slot says stays true, and no two slots have one key. Only inner contracts cite these.
-- Assumes nothing.
use Rattle.std.specs.Prelude.{◌≡◌, List, ℕ, ◌*◌, ◌<◌, get_or}
use Rattle.closure.specs.Making.{JoinedBy}
use Rattle.closure.specs.Xors.{LeadRow, XorAt, key_at, sum_at}
use Rattle.closure.specs.declared.table.KeyTable.{KeyTable}
use Rattle.closure.specs.Worklist.{Past, Grown}
use Rattle.closure.specs.declared.tally.Tally.{Tally}

-- a slot is of an XOR's literal, read through leads that joined no more than the present ones do
pub record XorSlot (row marks old : List ℕ) (key sum : ℕ) : Type 0 where
  pub leads : List ℕ
  pub are : LeadRow leads
  pub grown : Grown leads old
  pub start : ℕ
  pub place : ℕ
  pub at : XorAt row marks start place
  pub key_is : key ≡ key_at leads row start place
  pub sum_is : sum ≡ sum_at leads row start place

-- a slot's key is of the nets that are left of an XOR without one literal, and its value is that literal, turned so that it is their sum
pub record XorTable {SLOTS BUCKETS : ℕ} (row marks old : List ℕ) (xors : KeyTable SLOTS BUCKETS) : Type 0 where
  pub are : (i : ℕ) → i < xors.count → XorSlot row marks old (get_or xors.keys i 0) (get_or xors.values i 0)
  pub once : (i j : ℕ) → i < xors.count → j < xors.count → get_or xors.keys i 0 ≡ get_or xors.keys j 0 → i ≡ j

-- the sum of the literal at place p has a slot with its key, and is joined to the sum there
pub record SummedAt {SLOTS BUCKETS : ℕ} (row old new : List ℕ) (t : Tally) (xors : KeyTable SLOTS BUCKETS) (b p : ℕ) : Type 0 where
  pub slot : ℕ
  pub taken : slot < xors.count
  pub key : get_or xors.keys slot 0 ≡ key_at old row b p
  pub joined : JoinedBy new t (get_or xors.values slot 0) (sum_at old row b p)

-- .. for the XORs of the clauses that the pass over the list is done with; a sum of at most one net is joined to it
pub record XorsKnown {SLOTS BUCKETS : ℕ} (row marks old new : List ℕ) (t : Tally) (list : List ℕ) (i : ℕ) (xors : KeyTable SLOTS BUCKETS) : Type 0 where
  pub summed : (b p : ℕ) → XorAt row marks b p → Past list i b → SummedAt row old new t xors b p
  pub alone : (b p : ℕ) → XorAt row marks b p → Past list i b → key_at old row b p < 65536 → JoinedBy new t (sum_at old row b p) (2 * key_at old row b p)
