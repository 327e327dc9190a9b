-- What the functions of the digital search tree say of it; no entry point's contract cites these.
-- Assumes nothing.
use Rattle.std.specs.Prelude.{Option, Some, None, ◌≡◌, true, false, List, ℕ, ◌+◌, ◌*◌, ◌/◌, ◌%◌, ◌≤◌, ◌<◌, length, get_or, set, take}
use Rattle.clauses.specs.Listing.{mem}

-- how many keys there is room for
abbrev pub max_keys : ℕ
max_keys = 32768

-- the slot below node i for the lowest bit of what is left of a net
abbrev pub below : ℕ → ℕ → ℕ
below i rest = 2 * i + 1 + rest % 2

-- from a slot, with so much left of a net, the tree leads to node i
pub data Leads (links : List ℕ) (i : ℕ) : ℕ → ℕ → Type 0 where
  here : {slot rest : ℕ} → get_or links slot 0 ≡ i + 1 → Leads links i slot rest
  on : {slot rest : ℕ} (k : ℕ) → get_or links slot 0 ≡ k + 1 → Leads links i (below k rest) (rest / 2) → Leads links i slot rest

-- the first n keys are in the tree
pub record Tree (n : ℕ) (keys links : List ℕ) : Type 0 where
  pub room : n ≤ length keys
  pub slots : 2 * length keys < length links
  -- a node's number has 16 bits
  pub small : length keys < 65535
  pub within : (slot : ℕ) → get_or links slot 0 ≤ n
  -- a node stands below one with a lower number
  pub rises : (slot : ℕ) → 0 < get_or links slot 0 → slot + 2 ≤ 2 * get_or links slot 0
  pub leads : (i : ℕ) → i < n → Leads links i 0 (get_or keys i 0 / 2)

-- x is not among the first n keys, and belongs into an empty slot
pub record Vacant (x n : ℕ) (keys links : List ℕ) (slot : ℕ) : Type 0 where
  pub absent : mem x (take n keys) ≡ false
  pub low : slot ≤ 2 * n
  pub empty : get_or links slot 0 ≡ 0
  pub leads : Leads (set links slot (n + 1)) n 0 (x / 2)

-- what a search answers: an empty slot, unless x is there
abbrev pub Searched : ℕ → ℕ → List ℕ → List ℕ → Option ℕ → Type 0
Searched x n keys links None = mem x (take n keys) ≡ true
Searched x n keys links (Some slot) = Vacant x n keys links slot
