-- The clause list in normal form: a row of codes with the clauses that are not ignored, each literal once.
-- Assumes nothing.
use Rattle.std.specs.Prelude.{◌≡◌, not, cond, ◌||◌, List, [], ◌∷◌, ◌++◌, map, ℕ, ◌+◌, ◌*◌, ◌≤◌, ◌<◌, eqb, ℤ, length, get_or, take, set}
use Rattle.clauses.specs.Limit.{max_nets, max_entries}
use Rattle.clauses.specs.Code.{negate}
use Rattle.clauses.specs.Lists.{keep}
use Rattle.clauses.specs.Clause.{clauses_of}
use Rattle.clauses.specs.Listing.{tautology, literals}
use Rattle.clauses.specs.Row.{clause_at, Starts, LiteralAt}
use Rattle.gates.specs.declared.normal.Gathered.{Gathered}
use Rattle.gates.specs.Search.{Proper}

-- 'a clause that holds a net and its inverse is ignored', and of the others 'a repeated literal counts once'
unfoldable pub normal : List (List ℕ) → List (List ℕ)
normal cs = map literals (keep (λ c. not (tautology c)) cs)

-- 'clauses one after another, each ended by 0'
unfoldable pub row_of : List (List ℕ) → List ℕ
row_of [] = []
row_of (c ∷ cs) = c ++ 0 ∷ row_of cs

-- the row of codes that normalising makes of a row of entries
unfoldable pub normal_row : List ℤ → List ℕ
normal_row row = row_of (normal (clauses_of row))

-- What such a row has

-- no code is above that of the last net's inverse
abbrev pub max_code : ℕ
max_code = 2 * max_nets + 1

pub record Normal (row : List ℕ) : Type 0 where
  pub entries : length row ≤ max_entries
  pub small : (i : ℕ) → get_or row i 0 ≤ max_code
  -- every clause is ended by a 0, has each literal once and is not ignored
  pub ended : (b : ℕ) → Starts row b → b + length (clause_at row b) < length row
  pub once : (b p q : ℕ) → LiteralAt row b p → LiteralAt row b q → get_or row p 0 ≡ get_or row q 0 → p ≡ q
  pub proper : Proper row

-- What normalising asks of the row of codes already seen

-- every mark is older than the stamp
abbrev pub Older : List ℕ → ℕ → Type 0
Older seen stamp = (x : ℕ) → get_or seen x 0 < stamp

-- What the walk along a clause gathers of it

-- of a clause c that starts at place b and is put at place n
abbrev pub gathered_of : ℕ → ℕ → List ℕ → Gathered
gathered_of b n c = record { end = b + length c; put = n + length (literals c); ignored = tautology c }

-- that, and the rows: the codes, and the marks of the literals seen
pub record Gathering : Type 0 where
  pub gathered : Gathered
  pub codes : List ℕ
  pub seen : List ℕ

-- one literal more, where those before it have the stamp
abbrev pub gather_on : ℕ → ℕ → Gathering → Gathering
gather_on x stamp s =
    let known = eqb (get_or s.seen x 0) stamp in
    record {
      gathered = record { end = s.gathered.end + 1; put = cond known s.gathered.put (s.gathered.put + 1); ignored = eqb (get_or s.seen (negate x) 0) stamp || s.gathered.ignored };
      codes = cond known s.codes (set s.codes s.gathered.put x);
      seen = set s.seen x stamp;
    }

-- the whole clause c
pub record GatheredClause (c : List ℕ) (b n stamp : ℕ) (codes : List ℕ) (s : Gathering) : Type 0 where
  pub gathered : s.gathered ≡ gathered_of b n c
  pub written : take s.gathered.put s.codes ≡ take n codes ++ literals c
  pub older : Older s.seen (stamp + 1)
