-- How closing ends, by the groupings alone: the verdict and the number of rounds.
-- Assumes nothing.
use Rattle.std.specs.Prelude.{◌⊎◌, List, ℕ, suc, ◌≤◌, ◌<◌}
use Rattle.rules.specs.declared.Verdict.{Verdict}
use Rattle.rules.specs.declared.Verdict.TheVariants.{Contradiction, Settled, Unfinished}
use Rattle.rules.specs.Grouping.{After}

-- after n rounds 'the next would change nothing': a fixpoint, which the paper calls settled
abbrev pub Still : List (List ℕ) → ℕ → Type 0
Still cs n = (a b : ℕ) → After cs (suc n) a b → After cs n a b

-- after n rounds T is joined to F
abbrev pub Clash : List (List ℕ) → ℕ → Type 0
Clash cs n = After cs n 1 0

pub data Ends (cs : List (List ℕ)) (limit : ℕ) : Verdict → ℕ → Type 0 where
  -- 'If some round within the limit joins T to F, the verdict is contradiction and rounds is that round.'
  contradiction : {n : ℕ} → n ≤ limit → Clash cs n → ((i : ℕ) → i < n → ¬ Clash cs i) → Ends cs limit Contradiction n
  -- 'Otherwise, if after some number of rounds within the limit the next would change nothing, the verdict is settled and rounds is the least
  -- such number.'
  settled : {n : ℕ} → ((i : ℕ) → i ≤ limit → ¬ Clash cs i) → n ≤ limit → Still cs n → ((i : ℕ) → i < n → ¬ Still cs i) → Ends cs limit Settled n
  -- 'Otherwise it is unfinished and rounds is the limit.'
  unfinished : ((i : ℕ) → i ≤ limit → ¬ Clash cs i) → ((i : ℕ) → i ≤ limit → ¬ Still cs i) → Ends cs limit Unfinished limit

-- the limit allows n rounds, or is over V and so allows all that change anything
abbrev pub Allows : (v limit n : ℕ) → Type 0
Allows v limit n = (n ≤ limit) ⊎ (v < limit)
