-- A row with a mark for each lead, that holds the leads of a clause's literals but one: the mark of a lead that it holds is set. It is lent and
-- given back holding none. Only inner contracts cite these.
-- Assumes nothing.
use Rattle.std.specs.Prelude.{◌≡◌, ◌≢◌, ◌⊎◌, Bool, true, false, List, ℕ, ◌+◌, ◌*◌, ◌≤◌, ◌<◌, length, get_or}
use Rattle.clauses.specs.Code.{negate}
use Rattle.clauses.specs.Limit.{max_nets}
use Rattle.closure.specs.Passing.{lead_at}

-- the row holds none
abbrev pub Blank : List Bool → Type 0
Blank held = ((x : ℕ) → get_or held x false ≡ false) × (2 * max_nets + 2 ≤ length held)

-- every lead at a place of the row of literals has an entry
abbrev pub Low : List ℕ → List ℕ → Type 0
Low row old = (q : ℕ) → q < length row → lead_at row old q < 2 * max_nets + 2

-- a place from b up to e, other than p, has the lead x
pub record Among (row old : List ℕ) (b e p x : ℕ) : Type 0 where
  pub place : ℕ
  pub low : b ≤ place
  pub high : place < e
  pub apart : place ≢ p
  pub lead : lead_at row old place ≡ x

-- the row holds the leads of these places
pub record Holds (row old : List ℕ) (b e p : ℕ) (held : List Bool) : Type 0 where
  pub each : (x : ℕ) → Among row old b e p x → get_or held x false ≡ true
  pub only : (x : ℕ) → get_or held x false ≡ true → Among row old b e p x
  pub room : 2 * max_nets + 2 ≤ length held

-- the marks of the leads of these places have become v, the others are as they were
pub record Put (row old : List ℕ) (b e p : ℕ) (v : Bool) (held held' : List Bool) : Type 0 where
  pub each : (x : ℕ) → Among row old b e p x → get_or held' x false ≡ v
  pub others : (x : ℕ) → (get_or held' x false ≡ get_or held x false) ⊎ Among row old b e p x

-- the literal at q, other than that at p, is joined to T, or the inverse of its lead is held
pub data HeldClash (row old : List ℕ) (held : List Bool) (p q : ℕ) : Type 0 where
  true_lead : q ≢ p → lead_at row old q ≡ 1 → HeldClash row old held p q
  inverse_held : q ≢ p → get_or held (negate (lead_at row old q)) false ≡ true → HeldClash row old held p q
