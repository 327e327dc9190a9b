-- The table of ANDs that is kept from round to round. A slot's set is compared when it is met, so that slots of earlier rounds do no harm. Only inner
-- contracts cite these.
-- Assumes nothing.
use Rattle.std.specs.Prelude.{◌≡◌, Bool, true, List, ℕ, ◌<◌, get_or}
use Rattle.clauses.specs.Row.{start_of}
use Rattle.closure.specs.Making.{JoinedBy}
use Rattle.closure.specs.Matching.{AndAt, Alike, Signature, spread_of}
use Rattle.closure.specs.Marked.{Went}
use Rattle.closure.specs.Worklist.{OnList, Past}
use Rattle.closure.specs.declared.table.KeyTable.{KeyTable}
use Rattle.closure.specs.declared.tally.Tally.{Tally}

-- the key of the AND at p: the hash of the signature of its set
pub record KeyOf (row old : List ℕ) (p key : ℕ) : Type 0 where
  pub signature : ℕ
  pub signed : Signature row old p signature
  pub is : key ≡ spread_of signature

-- each slot is of an AND, by the place of its output; the key is that of the set that it had when it was entered
pub record AndTable {SLOTS BUCKETS : ℕ} (row marks : List ℕ) (ands : KeyTable SLOTS BUCKETS) : Type 0 where
  pub are : (i : ℕ) → i < ands.count → AndAt row marks (get_or ands.values i 0)

-- a slot has the set of the AND at p now, and its key; their outputs are joined
pub record Represented {SLOTS BUCKETS : ℕ} (row old new : List ℕ) (t : Tally) (ands : KeyTable SLOTS BUCKETS) (p : ℕ) : Type 0 where
  pub slot : ℕ
  pub taken : slot < ands.count
  pub key : KeyOf row old p (get_or ands.keys slot 0)
  pub alike : Alike row old (get_or ands.values slot 0) p
  pub joined : JoinedBy new t (get_or row (get_or ands.values slot 0) 0) (get_or row p 0)

-- the AND at p has been joined with those of the slots that have its key and its set
abbrev pub Met : {SLOTS BUCKETS : ℕ} → List ℕ → List ℕ → List ℕ → Tally → KeyTable SLOTS BUCKETS → ℕ → Type 0
Met row old new t ands p =
    (i : ℕ) → i < ands.count → KeyOf row old p (get_or ands.keys i 0) → Alike row old (get_or ands.values i 0) p → JoinedBy new t (get_or row (get_or ands.values i 0) 0) (get_or row p 0)

-- what going over the slots with one key has done, and whether one of them has the set of the AND at p
pub record Searched {SLOTS BUCKETS : ℕ} (row marks old : List ℕ) (ands : KeyTable SLOTS BUCKETS) (key p : ℕ) (new : List ℕ) (t : Tally) (new' : List ℕ) (t' : Tally) (known : Bool) : Type 0 where
  pub went : Went row marks old new t new' t'
  pub joined : (i : ℕ) → i < ands.count → get_or ands.keys i 0 ≡ key → Alike row old (get_or ands.values i 0) p → JoinedBy new' t' (get_or row (get_or ands.values i 0) 0) (get_or row p 0)
  pub found : known ≡ true → (i : ℕ) × (i < ands.count) × (get_or ands.keys i 0 ≡ key) × Alike row old (get_or ands.values i 0) p

-- the ANDs of the clauses that the pass over the list is done with are represented, and those of listed clauses have been joined with all that have their sets
pub record AndsKnown {SLOTS BUCKETS : ℕ} (row marks old new : List ℕ) (t : Tally) (list : List ℕ) (i : ℕ) (ands : KeyTable SLOTS BUCKETS) : Type 0 where
  pub represented : (p : ℕ) → AndAt row marks p → Past list i (start_of row p) → Represented row old new t ands p
  pub pairs : (p q : ℕ) → AndAt row marks p → AndAt row marks q → Past list i (start_of row p) → Past list i (start_of row q) → OnList list (start_of row p) → Alike row old p q
      → JoinedBy new t (get_or row p 0) (get_or row q 0)
