-- Places of a row of clauses: literals, the clause behind a clause, and where the clause of a place starts, step by step (StartOf has its laws).
-- Assumes nothing.
use mathlib.Core.Path.{◌≡◌, refl, sym}
use mathlib.Core.Logic.{◌≢◌}
use mathlib.Core.List.{List}
use Prim.Native.Nat.{ℕ, ◌+◌, ◌<◌}
use native.Mathlib.Omega.{arith}
use native.Mathlib.Numerals.{add-one}
use lib.ListN.{length, get_or}
use borrow.Author.Tests.{eq-eqb, ne_eqb}
use Rattle.clauses.specs.Row.{clause_at, Starts, LiteralAt, start_of, around}
use Rattle.clauses.proofs.Rows.{clause_fits, starts_next}
use Rattle.clauses.proofs.Around.{around_in}
use Rattle.clauses.proofs.StartOf.{start_only}

-- a literal's place lies in the row
pub literal_inside : (row : List ℕ) (b p : ℕ) → LiteralAt row b p → p < length row
literal_inside row b p k = omega (arith, k.start.inside, clause_fits row b (omega (arith, k.start.inside)), k.high)

-- the place around is in the clause, if it is one of three
pub around_literal : {row : List ℕ} {b p : ℕ} → length (clause_at row b) ≡ 3 → LiteralAt row b p → LiteralAt row b (around b p)
around_literal {row} {b} {p} three k =
    let r = around_in b p k.low (omega (arith, k.high)) in
    record { start = k.start; low = r.0; high = omega (arith, r.1) }

-- the clause behind the one at b, which ends at e
pub starts_behind : (codes : List ℕ) (b e : ℕ) → e ≡ b + length (clause_at codes b) → e + 1 < length codes → Starts codes (e + 1)
starts_behind codes b e h l = rw h (starts_next codes b (omega arith))

pub start_zero : (row : List ℕ) (p : ℕ) → get_or row p 0 ≡ 0 → start_of row (p + 1) ≡ p + 1
unfolding start_of
start_zero row p e = rw (add-one p, eq-eqb (get_or row p 0) 0 e)

pub start_literal : (row : List ℕ) (p : ℕ) → get_or row p 0 ≢ 0 → start_of row (p + 1) ≡ start_of row p
unfolding start_of
start_literal row p n = rw (add-one p, ne_eqb (get_or row p 0) 0 n)

pub start_first : (row : List ℕ) → start_of row 0 ≡ 0
unfolding start_of
start_first row = refl

pub start_is : (row : List ℕ) (b p : ℕ) → LiteralAt row b p → b ≡ start_of row p
start_is row b p k = sym (start_only row b p k.start k.low (omega (arith, k.high)) (literal_inside row b p k))
