-- Which literals and clauses of a row of codes the finder marks as ANDs, XORs and pairs; no entry point's contract cites these.
-- Assumes nothing.
use Rattle.std.specs.Prelude.{◌≡◌, ◌≢◌, Bool, false, cond, not, ◌&&◌, ◌||◌, List, [], ◌∷◌, Option, Some, None, ℕ, ◌+◌, ◌≤◌, ◌<◌, eqb, leb, length, get_or}
use Rattle.clauses.specs.Code.{negate, net}
use Rattle.clauses.specs.Clause.{clauses_in}
use Rattle.clauses.specs.Lists.{all, keep, from}
use Rattle.clauses.specs.Listing.{present}
use Rattle.clauses.specs.Sign.{is_inverse}
use Rattle.clauses.specs.Row.{clause_at, Starts, LiteralAt, start_of}
use Rattle.gates.specs.Listing.{signings}
use Rattle.gates.specs.Search.{first_place}
use Rattle.gates.specs.Normal.{max_code}
use Rattle.gates.specs.declared.kind.Kind.{Kind}
use Rattle.gates.specs.declared.kind.Kind.TheVariants.{Other, Long, Three}

-- Clauses

unfoldable pub is_at : ℕ → Option ℕ → Bool
is_at b (Some a) = eqb a b
is_at b None = false

-- 'two clauses with equal sets are one': the clause that starts at b is the first of its set
unfoldable pub is_first : List ℕ → ℕ → Bool
is_first row b = is_at b (first_place row (clause_at row b))

-- .. and it has three or more literals, as the clauses of ANDs and XORs have
unfoldable pub is_candidate : List ℕ → ℕ → Bool
is_candidate row b = leb 3 (length (clause_at row b)) && is_first row b

-- its kind: three for a candidate of three literals, long for a longer one, other for any other clause
unfoldable pub kind_of : List ℕ → ℕ → Kind
kind_of row b = cond (is_candidate row b) (cond (eqb (length (clause_at row b)) 3) Three Long) Other

-- the kinds of the clauses that start before place p, each where its clause starts
pub record Kinds (row : List ℕ) (kinds : List Kind) (p : ℕ) : Type 0 where
  pub room : length row ≤ length kinds
  pub at : (b : ℕ) → b < p → Starts row b → get_or kinds b Other ≡ kind_of row b

-- ANDs

-- a row with an entry for each code, that of a literal not 0 if a clause of two literals that starts before place p has it
pub record Twos (row twos : List ℕ) (p : ℕ) : Type 0 where
  pub room : max_code < length twos
  pub some : (b q : ℕ) → b < p → LiteralAt row b q → length (clause_at row b) ≡ 2 → get_or twos (get_or row q 0) 0 ≢ 0

-- l and the other literals of the clause c make an AND, if there are two others or more
unfoldable pub gives_and : List (List ℕ) → List ℕ → ℕ → Bool
gives_and cs c l = all (λ k. eqb k l || present cs (negate l ∷ negate k ∷ [])) c

-- the literal at p, of the clause that starts at b, is marked
unfoldable pub marks_and : List ℕ → ℕ → ℕ → Bool
marks_and row b p = is_candidate row b && gives_and (clauses_in row) (clause_at row b) (get_or row p 0)

-- XORs

-- no net of the clause is lower than x's
unfoldable pub is_lowest : List ℕ → ℕ → Bool
is_lowest c x = all (λ y. leb (net x) (net y)) c

-- only the lowest net may be inverse: of the clauses of an XOR with their different signs one is so
unfoldable pub is_upright : List ℕ → Bool
is_upright c = all (λ x. not (is_inverse x) || is_lowest c x) c

-- the clause c stands for an XOR, if it has three literals or more
unfoldable pub gives_xor : List (List ℕ) → List ℕ → Bool
gives_xor cs c = leb (length c) 5 && (is_upright c && all (present cs) (signings c false))

-- the end of the clause that starts at b is marked
unfoldable pub marks_xor : List ℕ → ℕ → Bool
marks_xor row b = is_candidate row b && gives_xor (clauses_in row) (clause_at row b)

-- Pairs

-- the clause that starts at b has two literals, and that of their inverses is present too
unfoldable pub marks_pair : List ℕ → ℕ → Bool
marks_pair row b = eqb (length (clause_at row b)) 2 && present (clauses_in row) (negate (get_or row b 0) ∷ negate (get_or row (b + 1) 0) ∷ [])

-- Places

-- a marked literal stands at p
unfoldable pub and_at : List ℕ → ℕ → Bool
and_at row p = not (eqb (get_or row p 0) 0) && marks_and row (start_of row p) p

-- a marked clause ends at p
unfoldable pub xor_at : List ℕ → ℕ → Bool
xor_at row p = eqb (get_or row p 0) 0 && marks_xor row (start_of row p)

-- a marked pair ends at p
unfoldable pub pair_at : List ℕ → ℕ → Bool
pair_at row p = eqb (get_or row p 0) 0 && marks_pair row (start_of row p)

-- the mark of place p for its AND or its XOR
unfoldable pub gate_mark : List ℕ → ℕ → ℕ
gate_mark row p = cond (and_at row p || xor_at row p) 1 0

-- how many places before n have the property
unfoldable pub how_many : (ℕ → Bool) → ℕ → ℕ
how_many f n = length (keep f (from 0 n))

-- Marks as they are written from one place to the next

-- the marks of ANDs and XORs are written up to place p, those from there on are 0, and the counts are those of the places before p
pub record Marking (row marks : List ℕ) (p ands xors : ℕ) : Type 0 where
  pub before : (q : ℕ) → q < p → get_or marks q 0 ≡ gate_mark row q
  pub after : (q : ℕ) → p ≤ q → get_or marks q 0 ≡ 0
  pub and-count : ands ≡ how_many (and_at row) p
  pub xor-count : xors ≡ how_many (xor_at row) p

-- the marks of pairs are written up to place p over marks that have none
pub record Pairing (row before marks : List ℕ) (p : ℕ) : Type 0 where
  pub size : length marks ≡ length before
  pub written : (q : ℕ) → q < p → get_or marks q 0 ≡ cond (pair_at row q) 2 (get_or before q 0)
  pub rest : (q : ℕ) → p ≤ q → get_or marks q 0 ≡ get_or before q 0
