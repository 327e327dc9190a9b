-- ANDs compared by the sets of their inputs' leads. Only inner contracts cite these.
-- Assumes nothing.
use Rattle.std.specs.Prelude.{◌≡◌, ◌≢◌, Bool, true, false, cond, List, ℕ, suc, ◌+◌, ◌*◌, ◌%◌, ◌<◌, length, get_or}
use Rattle.clauses.specs.Limit.{max_nets}
use Rattle.gates.specs.Found.{is_and}
use Rattle.clauses.specs.Row.{clause_at, LiteralAt}
use Rattle.clauses.specs.Row.{start_of}
use Rattle.closure.specs.Passing.{lead_at}
use Rattle.closure.specs.Holding.{Among}

-- place p holds a literal, and its clause is ended
pub record Placed (row : List ℕ) (p : ℕ) : Type 0 where
  pub at : LiteralAt row (start_of row p) p
  pub ended : start_of row p + length (clause_at row (start_of row p)) < length row

-- place p holds a literal of the clause from b up to its ending at e
pub record InClause (row : List ℕ) (p b e : ℕ) : Type 0 where
  pub start : b ≡ start_of row p
  pub end : e ≡ start_of row p + length (clause_at row (start_of row p))
  pub high : p < e
  pub inside : e < length row

-- an AND has its output at place p
pub record AndAt (row marks : List ℕ) (p : ℕ) : Type 0 where
  pub placed : Placed row p
  pub mark : is_and (get_or marks p 0) ≡ true

-- another literal of the clause of place p has the lead x
pub record HasLead (row old : List ℕ) (p x : ℕ) : Type 0 where
  pub place : ℕ
  pub at : LiteralAt row (start_of row p) place
  pub apart : place ≢ p
  pub lead : lead_at row old place ≡ x

-- .. and x is not F: it is the inverse of the lead of an input that is not joined to T
abbrev pub Takes : List ℕ → List ℕ → ℕ → ℕ → Type 0
Takes row old p x = HasLead row old p x × (x ≢ 0)

-- every lead of the inputs at p, but for T, is one of the inputs at q
abbrev pub Within : List ℕ → List ℕ → ℕ → ℕ → Type 0
Within row old p q = (x : ℕ) → Takes row old p x → Takes row old q x

pub record Alike (row old : List ℕ) (p q : ℕ) : Type 0 where
  pub left : Within row old p q
  pub right : Within row old q p

-- The signature of a set

-- the hash of a lead
unfoldable pub hash_of : ℕ → ℕ
hash_of x = squared 4503599627370449 (squared 4294967291 (x * 2654435761 % 4294967291))
  where
    squared : ℕ → ℕ → ℕ
    squared m y = y * y % m

-- s is the sum of the hashes of the numbers below n that are in the set
pub data SumBelow (In : ℕ → Type 0) : ℕ → ℕ → Type 0 where
  none : SumBelow In 0 0
  skip : {n s : ℕ} → ¬ In n → SumBelow In n s → SumBelow In (suc n) s
  take : {n s : ℕ} → In n → SumBelow In n s → SumBelow In (suc n) (s + hash_of n)

-- s is the signature of the set at p
abbrev pub Signature : List ℕ → List ℕ → ℕ → ℕ → Type 0
Signature row old p s = SumBelow (Takes row old p) (2 * max_nets + 2) s

-- the hash of a signature
unfoldable pub spread_of : ℕ → ℕ
spread_of s = s % 4294967291 * (s % 4294967279) % 4503599627370449

-- what the lead x adds to a signature, if the leads added before are held
unfoldable pub share_of : List Bool → ℕ → ℕ
share_of held x = cond (get_or held x false) 0 (hash_of x)

-- s is the sum of the hashes of the leads at the places from b up to e, other than p, but for F
abbrev pub Summed : List ℕ → List ℕ → ℕ → ℕ → ℕ → ℕ → Type 0
Summed row old b e p s = SumBelow (λ x. Among row old b e p x × (x ≢ 0)) (2 * max_nets + 2) s

-- the lead at place a, if a is not p and it is not F, is one at q
abbrev pub Common : List ℕ → List ℕ → ℕ → ℕ → ℕ → Type 0
Common row old p q a = a ≢ p → lead_at row old a ≢ 0 → HasLead row old q (lead_at row old a)

-- .. is held
abbrev pub Held : List ℕ → List ℕ → List Bool → ℕ → ℕ → Type 0
Held row old held p a = a ≢ p → lead_at row old a ≢ 0 → get_or held (lead_at row old a) false ≡ true
