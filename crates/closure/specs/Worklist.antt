-- The worklist of a round: the clauses that it goes over, by where they start, what stays as it was in the others, and how the list is made. Only inner
-- contracts cite these.
-- Assumes nothing.
use Rattle.std.specs.Prelude.{◌≡◌, ◌≢◌, ◌⊎◌, Bool, true, false, not, cond, List, [], ◌∷◌, ℕ, zero, suc, ◌+◌, ◌≤◌, ◌<◌, eqb, ltb, length, get_or, take}
use Rattle.clauses.specs.Row.{clause_at, Starts}
use Rattle.clauses.specs.Row.{start_of}
use Rattle.closure.specs.Making.{Kernel, fresh}
use Rattle.closure.specs.RowJoined.{RowJoined}
use Rattle.closure.specs.Occurrences.{net_at}
use Rattle.closure.specs.Changes.{ChangedIn, ConstantAt, TiedAt, ReadAt}

-- an entry of the list is b
pub record OnList (list : List ℕ) (b : ℕ) : Type 0 where
  pub at : ℕ
  pub inside : at < length list
  pub is : get_or list at 0 ≡ b

-- no entry of the list from number i on is b: the pass over the list is done with the clause there
abbrev pub Past : List ℕ → ℕ → ℕ → Type 0
Past list i b = (j : ℕ) → i ≤ j → j < length list → get_or list j 0 ≢ b

-- every entry of the list is where a clause starts
abbrev pub AreStarts : List ℕ → List ℕ → Type 0
AreStarts row list = (i : ℕ) → i < length list → Starts row (get_or list i 0)

-- how many entries of the row the clauses of the list take, with their endings
unfoldable pub span_of : List ℕ → List ℕ → ℕ
span_of row [] = 0
span_of row (b ∷ list) = length (clause_at row b) + 1 + span_of row list

-- a round other than the first has to go over the clause at b: a lead of it has become a constant, or one has changed that a rule about its gates
-- reads
pub data Changed (row marks older old : List ℕ) (b : ℕ) : Type 0 where
  constant : ChangedIn (ConstantAt row old) row older old b → Changed row marks older old b
  tie : ChangedIn (TiedAt row marks) row older old b → Changed row marks older old b
  side : ChangedIn (ReadAt row marks) row older old b → Changed row marks older old b

-- every clause that changed is on the list
abbrev pub HoldsChanged : List ℕ → List ℕ → List ℕ → List ℕ → List ℕ → Type 0
HoldsChanged row marks older old list = (b : ℕ) → Starts row b → OnList list b ⊎ (¬ Changed row marks older old b)

-- every clause is
abbrev pub HoldsAll : List ℕ → List ℕ → Type 0
HoldsAll row list = (b : ℕ) → Starts row b → OnList list b

-- the leads of one row join what those of another do: groupings only grow
abbrev pub Grown : List ℕ → List ℕ → Type 0
Grown older old = (a b : ℕ) → Kernel older a b → Kernel old a b

-- what the clauses that are not on the list draw has been drawn in the round before, and none of them has changed
abbrev pub LeavesDrawn : List ℕ → List ℕ → List ℕ → List ℕ → List ℕ → Type 0
LeavesDrawn row marks older old list = (b : ℕ) → Starts row b → OnList list b ⊎ ((¬ Changed row marks older old b) × RowJoined row marks older old (fresh 0))

-- How the list is made

-- w has a mark
abbrev pub HasMark : List Bool → ℕ → Type 0
HasMark marked w = get_or marked w false ≡ true

-- the marks are still there
abbrev pub Keeps : List Bool → List Bool → Type 0
Keeps marked marked' = (w : ℕ) → HasMark marked w → HasMark marked' w

-- the lead of net w + 1 is another one than before
unfoldable pub has_moved : List ℕ → List ℕ → ℕ → Bool
has_moved older old w = not (eqb (get_or older w 0) (get_or old w 0))

-- how many of the first m places of the row are in clauses that are seen, or their endings
unfoldable pub seen_below : List ℕ → List Bool → ℕ → ℕ
seen_below row seen zero = 0
seen_below row seen (suc m) = cond (get_or seen (start_of row m) false) (seen_below row seen m + 1) (seen_below row seen m)

-- the first n entries of the list are where clauses start, those that are seen among them, and these take m entries of the row, as many as those that are seen
pub record Working (row : List ℕ) (seen : List Bool) (list : List ℕ) (n m : ℕ) : Type 0 where
  pub count : m ≡ seen_below row seen (length row)
  pub span : m ≡ span_of row (take n list)
  pub low : n ≤ m
  pub starts : (i : ℕ) → i < n → Starts row (get_or list i 0)
  pub on : (b : ℕ) → HasMark seen b → (i : ℕ) × (i < n) × (get_or list i 0 ≡ b)

-- the clauses of the places of net w are seen to which a change of its lead tells anything: it is a constant, or read
abbrev pub SeesTold : List ℕ → List ℕ → List Bool → ℕ → Bool → List Bool → Type 0
SeesTold row starts reads w fixed seen =
    (q : ℕ) → q < length row → net_at row q ≡ w → (fixed ≡ true) ⊎ (get_or reads q false ≡ true) → HasMark seen (get_or starts q 0)

-- .. of the places of the nets up to w whose leads have changed
abbrev pub SeesMovedBelow : List ℕ → List ℕ → List Bool → List ℕ → List ℕ → ℕ → List Bool → Type 0
SeesMovedBelow row starts reads older old w seen =
    (x : ℕ) → x < w → has_moved older old x ≡ true → SeesTold row starts reads (x + 1) (ltb (get_or old x 0) 2) seen
