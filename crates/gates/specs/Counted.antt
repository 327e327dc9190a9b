-- What the three counts count: gates as facts, each once, in whichever way it is written.
-- Assumes nothing.
use Rattle.std.specs.Prelude.{◌≡◌, Bool, false, ℕ, length}
use mathlib.Core.List.{List, [], ◌∷◌, Memᴰ}
use Rattle.clauses.specs.Clause.{Mem, Same}
use Rattle.clauses.specs.Sign.{is_inverse}
use Rattle.gates.specs.Gate.{AndGate, XorGate, IteGate}

-- no two elements of the list are alike
pub data Unlike {A : Type 0} (Like : A → A → Type 0) : List A → Type 0 where
  none : Unlike Like []
  more : {x : A} {xs : List A} → ((y : A) → Memᴰ y xs → ¬ Like x y) → Unlike Like xs → Unlike Like (x ∷ xs)

-- n elements have the property, where those that are alike count once: some n of them, no two alike, stand for all
pub record Counted {A : Type 0} (P : A → Type 0) (Like : A → A → Type 0) (n : ℕ) : Type 0 where
  pub list : List A
  pub size : length list ≡ n
  pub have : (x : A) → Memᴰ x list → P x
  pub unlike : Unlike Like list
  pub every : (x : A) → P x → (y : A) × Memᴰ y list × Like x y

-- the same set, with the same beside it
abbrev pub SameWith : {B : Type 0} → List ℕ × B → List ℕ × B → Type 0
SameWith (c, b) (d, e) = Same c d × (b ≡ e)

-- a pair of clause and l
abbrev pub AndPair : List (List ℕ) → List ℕ × ℕ → Type 0
AndPair cs (c, l) = AndGate cs c l

-- 'Each pair of clause and l counts once in ands.'
abbrev pub IsAndCount : List (List ℕ) → ℕ → Type 0
IsAndCount cs n = Counted (AndPair cs) SameWith n

-- the code of a plain net
abbrev pub Plain : ℕ → Type 0
Plain x = is_inverse x ≡ false

-- a set of nets with its sum, odd or even
abbrev pub XorSum : List (List ℕ) → List ℕ × Bool → Type 0
XorSum cs (ws, odd) = ((w : ℕ) → Mem w ws → Plain w) × XorGate cs ws odd

-- 'Each such set of nets with its sum is one undirected constraint and counts once in xors.'
abbrev pub IsXorCount : List (List ℕ) → ℕ → Type 0
IsXorCount cs n = Counted (XorSum cs) SameWith n

-- an ITE with l and c written as plain nets
abbrev pub PlainIte : List (List ℕ) → ℕ × ℕ × ℕ × ℕ → Type 0
PlainIte cs (l, c, t, e) = Plain l × Plain c × IteGate cs l c t e

-- 'Each one with l and c written as plain nets counts once in ites.'
abbrev pub IsIteCount : List (List ℕ) → ℕ → Type 0
IsIteCount cs n = Counted (PlainIte cs) ◌≡◌ n

-- the three counts of a list
pub record AreCounts (cs : List (List ℕ)) (ands xors ites : ℕ) : Type 0 where
  pub and-count : IsAndCount cs ands
  pub xor-count : IsXorCount cs xors
  pub ite-count : IsIteCount cs ites
