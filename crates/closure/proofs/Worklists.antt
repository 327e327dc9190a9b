-- Laws of the worklist: a pass over it goes from one entry to the next.
-- Assumes nothing.
use mathlib.Core.Path.{◌≡◌, refl, sym, ◌∙◌, ap, subst, subst⁻¹}
use mathlib.Core.Logic.{◌≢◌, ◌⊎◌, inl, inr}
use mathlib.Core.List.{List, ◌∷◌}
use Prim.Native.Nat.{ℕ, suc, ◌+◌, ◌≤◌, ◌<◌}
use native.Mathlib.Omega.{arith}
use native.Mathlib.Numerals.{add-one}
use native.Mathlib.Decide.{ℕ_discrete}
use lib.ListN.{length, get_or, drop}
use lib.Seq.{drop-cons}
use Rattle.clauses.specs.Row.{clause_at}
use Rattle.closure.specs.Worklist.{OnList, Past, span_of}

-- What the pass is done with

pub past_end : (list : List ℕ) (b : ℕ) → Past list (length list) b
past_end list b j h l = absurd (omega arith)

-- before the first entry: the clause is not on the list
pub past_off : {list : List ℕ} {b : ℕ} → Past list 0 b → ¬ OnList list b
past_off p o = p o.at (omega arith) o.inside o.is

-- entry i is the clause's, or the pass was done with it before
pub past_or_here : (list : List ℕ) (i b : ℕ) → Past list (i + 1) b → (get_or list i 0 ≡ b) ⊎ Past list i b
past_or_here list i b p = go (ℕ_discrete (get_or list i 0) b)
  where
    go : Dec (get_or list i 0 ≡ b) → (get_or list i 0 ≡ b) ⊎ Past list i b
    go (yes e) = inl e
    go (no n) = inr (λ j h l. before j h l (ℕ_discrete i j))
      where
        before : (j : ℕ) → i ≤ j → j < length list → Dec (i ≡ j) → get_or list j 0 ≢ b
        before j h l (yes e) = subst (λ (k : ℕ). get_or list k 0 ≢ b) e n
        before j h l (no d) = p j (omega arith) l

-- Entries of the row that the clauses of the list take

pub span_cons : (row : List ℕ) (b : ℕ) (rest : List ℕ) → span_of row (b ∷ rest) ≡ length (clause_at row b) + 1 + span_of row rest
unfolding span_of
span_cons row b rest = refl

pub span_step : (row list : List ℕ) (i : ℕ) → i < length list
    → span_of row (drop i list) ≡ length (clause_at row (get_or list i 0)) + 1 + span_of row (drop (i + 1) list)
span_step row list i l = ap (span_of row) (drop-cons list i 0 l) ∙ span_cons row (get_or list i 0) (drop (suc i) list) ∙ ap (λ (j : ℕ). length (clause_at row (get_or list i 0)) + 1 + span_of row (drop j list)) (sym (add-one i))

pub span_whole : (row list : List ℕ) → span_of row (drop 0 list) ≡ span_of row list
span_whole row list = refl

-- What is done entry by entry

module _ (P : ℕ → Type 0) (list : List ℕ) (i : ℕ) where
  pub entries_on : ((j : ℕ) → j < i → P (get_or list j 0)) → P (get_or list i 0) → (j : ℕ) → j < i + 1 → P (get_or list j 0)
  entries_on below here j l = go (ℕ_discrete j i)
    where
      go : Dec (j ≡ i) → P (get_or list j 0)
      go (yes e) = subst⁻¹ (λ (k : ℕ). P (get_or list k 0)) e here
      go (no n) = below j (omega arith)

  pub entries_all : length list ≤ i → ((j : ℕ) → j < i → P (get_or list j 0)) → (b : ℕ) → OnList list b → P b
  entries_all h below b o = subst P o.is (below o.at (omega (arith, o.inside)))
