-- What entering does to a table of keys. Only inner contracts cite these.
-- Assumes nothing.
use Rattle.std.specs.Prelude.{◌≡◌, ℕ, ◌+◌, ◌≤◌, ◌<◌, get_or, set}
use Rattle.closure.specs.declared.table.KeyTable.{KeyTable}

-- the slots that were taken are what they were
pub record Keeps {SLOTS BUCKETS : ℕ} (table table' : KeyTable SLOTS BUCKETS) : Type 0 where
  pub more : table.count ≤ table'.count
  pub key : (i : ℕ) → i < table.count → get_or table'.keys i 0 ≡ get_or table.keys i 0
  pub value : (i : ℕ) → i < table.count → get_or table'.values i 0 ≡ get_or table.values i 0

-- a key and its value have got the next slot, and no other slot is written, a free one neither
pub record Entered {SLOTS BUCKETS : ℕ} (key value : ℕ) (table table' : KeyTable SLOTS BUCKETS) : Type 0 where
  pub count : table'.count ≡ table.count + 1
  pub key_is : get_or table'.keys table.count 0 ≡ key
  pub value_is : get_or table'.values table.count 0 ≡ value
  pub keeps : Keeps table table'
  pub keys_are : table'.keys ≡ set table.keys table.count key
  pub values_are : table'.values ≡ set table.values table.count value
