-- The cases of a step along a literal row, and what a loop over a walk needs.
-- Assumes nothing.
use mathlib.Core.Path.{◌≡◌, ◌∙◌, ap, sym}
use mathlib.Core.List.{List}
use Prim.Native.Nat.{ℕ, ◌+◌, ◌≤◌, ◌<◌}
use lib.IntN.{ℤ, pos}
use lib.ListN.{length, get_or, get_or-eq_default}
use borrow.Author.Tests.{lt-ltb, le-ltb}
use Rattle.clauses.specs.declared.walk.Walk.{Walk}
use Rattle.clauses.specs.Walk.{place_after, advanced}

module _ (row : List ℤ) (i : ℕ) where
  -- past the row's end a step gives 0, and stays
  pub step_end : length row ≤ i → (pos 0 ≡ get_or row i (pos 0)) × (i ≡ place_after row i)
  step_end h = (rw (get_or-eq_default row (pos 0) h), rw (le-ltb i (length row) h))

  -- inside the row it goes on by one place
  pub step_on : i < length row → i + 1 ≡ place_after row i
  step_on h = rw (lt-ltb i (length row) h)

-- a step of a walk that is inside its row
pub record Stepped (row : List ℤ) (x : ℤ) (w w' : Walk) : Type 0 where
  pub literal : x ≡ get_or row w.at (pos 0)
  pub lent : w'.row.now ≡ row
  pub on : w'.at ≡ w.at + 1

pub stepped : (row : List ℤ) (x : ℤ) (w w' : Walk) → w.row.now ≡ row → w.at < length row → (x ≡ get_or w.row.now w.at (pos 0)) × (w' ≡ advanced w) → Stepped row x w w'
stepped row x w w' lent inside e =
    record {
      literal = e.0 ∙ ap (λ (l : List ℤ). get_or l w.at (pos 0)) lent;
      lent = ap (λ (v : Walk). v.row.now) e.1 ∙ lent;
      on = ap (λ (v : Walk). v.at) e.1 ∙ sym (step_on w.row.now w.at (rw lent inside));
    }
