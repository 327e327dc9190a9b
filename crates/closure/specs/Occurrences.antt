-- The index of a row of clauses: for each place the clause that it is in and whether a rule about the clause's gates reads its lead, and the occurrence
-- list of each net. Only inner contracts cite these.
-- Assumes nothing.
use Rattle.std.specs.Prelude.{◌≡◌, ◌≢◌, ◌⊎◌, Bool, true, false, Option, List, ℕ, ◌+◌, ◌≤◌, ◌<◌, length, get_or}
use Rattle.std.specs.Option.{ForSome, ForNone}
use Rattle.clauses.specs.Code.{net}
use Rattle.clauses.specs.Chains.{Chained}
use Rattle.gates.specs.Found.{is_and, is_select_next, is_select_after, is_xor}
use Rattle.clauses.specs.Row.{clause_at, LiteralAt, around}

-- the net at place q
abbrev pub net_at : List ℕ → ℕ → ℕ
net_at codes q = net (get_or codes q 0)

-- no place from `from` on, below `to`, is the output of an AND
abbrev pub NoAnd : List ℕ → ℕ → ℕ → Type 0
NoAnd marks from to = (p : ℕ) → from ≤ p → p < to → is_and (get_or marks p 0) ≡ false

-- the first two outputs of ANDs in a clause from b up to its ending at e are at these places, or there are fewer
abbrev pub FirstTwo : List ℕ → ℕ → ℕ → Option ℕ → Option ℕ → Type 0
FirstTwo marks b e first second =
    ForNone first (NoAnd marks b e) × ForSome first (λ p. NoAnd marks b p) × ForSome first (λ p. ForNone second (NoAnd marks (p + 1) e))

-- a gate of such a clause ties its place q
abbrev pub Ties : List ℕ → ℕ → ℕ → ℕ → Type 0
Ties marks b e q = (is_xor (get_or marks e 0) ≡ true) ⊎ ((p : ℕ) × (b ≤ p) × (p < e) × (is_and (get_or marks p 0) ≡ true) × (p ≢ q))

-- its place q holds the literal t of a side
abbrev pub Thens : List ℕ → ℕ → ℕ → ℕ → Type 0
Thens marks b e q =
    (p : ℕ) × (b ≤ p) × (p < e) × (e ≡ b + 3)
    × (((is_select_next (get_or marks p 0) ≡ true) × (q ≡ around b (around b p))) ⊎ ((is_select_after (get_or marks p 0) ≡ true) × (q ≡ around b p)))

-- a rule about the gates of the clause from b up to its ending at e reads the lead at its place q: a gate ties it, or it is that of a select or of a
-- literal t
abbrev pub Reads : List ℕ → ℕ → ℕ → ℕ → Type 0
Reads marks b e q = Ties marks b e q ⊎ ((2 ≤ get_or marks q 0) ⊎ Thens marks b e q)

-- place q of that clause is listed
pub record PlaceListed (marks : List ℕ) (b e : ℕ) (starts : List ℕ) (reads : List Bool) (q : ℕ) : Type 0 where
  pub start : get_or starts q 0 ≡ b
  pub read : Reads marks b e q → get_or reads q false ≡ true

-- the places of the clauses below m are
abbrev pub PlacesListed : List ℕ → List ℕ → List ℕ → List Bool → ℕ → Type 0
PlacesListed row marks starts reads m = (b q : ℕ) → LiteralAt row b q → b < m → PlaceListed marks b (b + length (clause_at row b)) starts reads q

-- `occurs` has for each net the last of its places, `links` for each place the one before it
pub record Indexed (row marks starts : List ℕ) (reads : List Bool) (occurs links : List ℕ) : Type 0 where
  pub places : PlacesListed row marks starts reads (length row)
  pub start_room : length row ≤ length starts
  pub read_room : length row ≤ length reads
  pub chains : Chained (net_at row) (length row) occurs links
  pub link_room : length row ≤ length links
  pub nets : (q : ℕ) → net_at row q < length occurs
