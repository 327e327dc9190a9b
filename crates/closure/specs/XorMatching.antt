-- Rules 5 and 6 in the making: XORs are matched by what is left of them without one literal. Only inner contracts cite these.
-- Assumes nothing.
use Rattle.std.specs.Prelude.{◌≡◌, ◌≢◌, ◌⊎◌, not, cond, List, ℕ, ◌*◌, ◌≤◌, ◌<◌, ltb, length, get_or}
use Rattle.clauses.specs.Listing.{Fits}
use Rattle.clauses.specs.Sign.{flip}
use Rattle.rules.specs.Answer.{lead_of}
use Rattle.closure.specs.Marked.{Marked}
use Rattle.closure.specs.Joining.{State, join_state}
use Rattle.closure.specs.Xors.{LeadRow, others, rest_of}
use Rattle.closure.specs.Entered.{Entered}
use Rattle.closure.specs.declared.nets.Rest.{Rest}
use Rattle.closure.specs.declared.table.KeyTable.{KeyTable}
use Rattle.closure.specs.declared.tally.Tally.{Tally}

-- the row has XORs of the list cs, to be read through the old leads
pub record XorsOf (cs : List (List ℕ)) (row marks old : List ℕ) : Type 0 where
  pub marked : Marked cs row marks
  pub fits : Fits (length old) cs
  pub leads : LeadRow old
  pub nets : length old ≤ 1024
  pub entries : length row ≤ 16384

-- a sum of at most one net is joined to it
unfoldable pub join_alone : List ℕ → Tally → ℕ → ℕ → State
join_alone leads t key sum = cond (ltb key 65536) (join_state leads t sum (2 * key)) (record { row = leads; tally = t })

-- a sum has been matched with the one in the slot of its key, and joined to it
pub record Again {SLOTS BUCKETS : ℕ} (key sum : ℕ) (xors : KeyTable SLOTS BUCKETS) (s : State) (xors' : KeyTable SLOTS BUCKETS) (s' : State) : Type 0 where
  pub slot : ℕ
  pub taken : slot < xors.count
  pub same : get_or xors.keys slot 0 ≡ key
  pub joined : s' ≡ join_state s.row s.tally sum (get_or xors.values slot 0)
  pub kept : xors' ≡ xors

-- .. or has got a slot of its own
pub record Opened {SLOTS BUCKETS : ℕ} (key sum : ℕ) (xors : KeyTable SLOTS BUCKETS) (s : State) (xors' : KeyTable SLOTS BUCKETS) (s' : State) : Type 0 where
  pub none : (k : ℕ) → k < xors.count → get_or xors.keys k 0 ≢ key
  pub entered : Entered key sum xors xors'
  pub same : s' ≡ s

abbrev pub Placed : {SLOTS BUCKETS : ℕ} → ℕ → ℕ → KeyTable SLOTS BUCKETS → State → KeyTable SLOTS BUCKETS → State → Type 0
Placed key sum xors s xors' s' = Again key sum xors s xors' s' ⊎ Opened key sum xors s xors' s'

-- a sum has been joined to the only net that is left, and matched
abbrev pub Stepped : {SLOTS BUCKETS : ℕ} → ℕ → ℕ → KeyTable SLOTS BUCKETS → State → KeyTable SLOTS BUCKETS → State → Type 0
Stepped key sum xors s xors' s' = Placed key sum xors (join_alone s.row s.tally key sum) xors' s'

-- what is left of the n literals from place b on without that at p, and this literal, turned so that it is their sum
abbrev pub rest_along : List ℕ → List ℕ → ℕ → ℕ → ℕ → Rest
rest_along old row b n p = rest_of (lead_of old) (others row p b n)

abbrev pub sum_along : List ℕ → List ℕ → ℕ → ℕ → ℕ → ℕ
sum_along old row b n p = flip (not (rest_along old row b n p).odd) (get_or row p 0)
