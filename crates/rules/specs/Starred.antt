-- The starred lists of 'Lists to try', with their answers under round limit V + 1; the last answer is document 02's.
-- Assumes nothing.
use Rattle.std.specs.Prelude.{List, [], ◌∷◌, ◌++◌, ℕ, ◌+◌, ◌*◌}
use Rattle.rules.specs.declared.Verdict.{Verdict}
use Rattle.rules.specs.declared.Verdict.TheVariants.{Contradiction, Settled}
use Rattle.rules.specs.Answer.{Answer, no_lead}
use Rattle.rules.specs.Design.{ite, encoding}

-- net w, and its inverse
abbrev p : ℕ → ℕ
p w = 2 * w

abbrev m : ℕ → ℕ
m w = 2 * w + 1

pub record Starred : Type 0 where
  pub nets : ℕ
  pub clauses : List (List ℕ)
  pub result : Answer

-- a list, the sheet's second line for it, and its leads
abbrev gives : List (List ℕ) → Verdict → ℕ → ℕ → ℕ → ℕ → ℕ → ℕ → List ℕ → Starred
gives cs w r v a x i g ls =
    record { nets = v; clauses = cs; result = record { verdict = w; rounds = r; ands = a; xors = x; ites = i; groups = g; leads = ls } }

-- the sheet's six clauses
abbrev sheet : List (List ℕ)
sheet = (m 3 ∷ p 1 ∷ []) ∷ (m 3 ∷ p 2 ∷ []) ∷ (p 3 ∷ m 1 ∷ m 2 ∷ []) ∷ (m 4 ∷ p 1 ∷ []) ∷ (m 4 ∷ p 2 ∷ []) ∷ (p 4 ∷ m 1 ∷ m 2 ∷ []) ∷ []

-- and then (-5 3 4)(-5 -3 -4)(5 -3 4)(5 3 -4)(5)
abbrev pub compared : List (List ℕ)
compared = sheet ++ ((m 5 ∷ p 3 ∷ p 4 ∷ []) ∷ (m 5 ∷ m 3 ∷ m 4 ∷ []) ∷ (p 5 ∷ m 3 ∷ p 4 ∷ []) ∷ (p 5 ∷ p 3 ∷ m 4 ∷ []) ∷ (p 5 ∷ []) ∷ [])

abbrev pub starred : List Starred
starred =
    -- V 0, no clause: settled,0,0,0,0,0,0
    gives [] Settled 0 0 0 0 0 0 [] ∷
    -- V 0, one empty clause: contradiction,1,0,0,0,0,0
    gives ([] ∷ []) Contradiction 1 0 0 0 0 0 [] ∷
    -- (1)(-1): contradiction,1,1,0,0,0,0
    gives ((p 1 ∷ []) ∷ (m 1 ∷ []) ∷ []) Contradiction 1 1 0 0 0 0 (no_lead ∷ []) ∷
    -- (1 1): settled,1,1,0,0,0,0, lead T
    gives ((p 1 ∷ p 1 ∷ []) ∷ []) Settled 1 1 0 0 0 0 (1 ∷ []) ∷
    -- (1 -1): settled,0,1,0,0,0,1
    gives ((p 1 ∷ m 1 ∷ []) ∷ []) Settled 0 1 0 0 0 1 (p 1 ∷ []) ∷
    -- (1 2)(-1 -2): settled,1,2,0,0,0,1, lead of 2 is -1
    gives ((p 1 ∷ p 2 ∷ []) ∷ (m 1 ∷ m 2 ∷ []) ∷ []) Settled 1 2 0 0 0 1 (p 1 ∷ m 1 ∷ []) ∷
    -- (1)(-1 2)(-2 3): settled,3,3,0,0,0,0
    gives ((p 1 ∷ []) ∷ (m 1 ∷ p 2 ∷ []) ∷ (m 2 ∷ p 3 ∷ []) ∷ []) Settled 3 3 0 0 0 0 (1 ∷ 1 ∷ 1 ∷ []) ∷
    -- (3 -1 -2)(-3 1)(-3 1): settled,0,3,0,0,0,3
    gives ((p 3 ∷ m 1 ∷ m 2 ∷ []) ∷ (m 3 ∷ p 1 ∷ []) ∷ (m 3 ∷ p 1 ∷ []) ∷ []) Settled 0 3 0 0 0 3 (p 1 ∷ p 2 ∷ p 3 ∷ []) ∷
    -- (-3 1)(-3 2)(3 -1 -2)(1 2)(-1 -2): settled,2,3,3,0,0,1, leads 1, -1, F
    gives ((m 3 ∷ p 1 ∷ []) ∷ (m 3 ∷ p 2 ∷ []) ∷ (p 3 ∷ m 1 ∷ m 2 ∷ []) ∷ (p 1 ∷ p 2 ∷ []) ∷ (m 1 ∷ m 2 ∷ []) ∷ [])
    Settled 2 3 3 0 0 1 (p 1 ∷ m 1 ∷ 0 ∷ []) ∷
    -- The sheet's six clauses, then (-5 3 4)(-5 -3 -4)(5 -3 4)(5 3 -4)(5): contradiction,2,5,2,1,0,0
    gives compared Contradiction 2 5 2 1 0 0 (no_lead ∷ no_lead ∷ no_lead ∷ no_lead ∷ no_lead ∷ []) ∷
    -- 4 = 1 ? 2 : 3 and 5 = 1 ? -2 : -3, eight clauses: settled,1,5,0,0,2,4, lead of 5 is -4
    gives (encoding (ite (p 4) (p 1) (p 2) (p 3)) ++ encoding (ite (p 5) (p 1) (m 2) (m 3))) Settled 1 5 0 0 2 4 (p 1 ∷ p 2 ∷ p 3 ∷ p 4 ∷ m 4 ∷ []) ∷
    -- (-1 -3 2)(-1 3 -2)(1 -3 2)(1 3 -2): settled,1,3,0,0,2,2, lead of 3 is 2
    gives ((m 1 ∷ m 3 ∷ p 2 ∷ []) ∷ (m 1 ∷ p 3 ∷ m 2 ∷ []) ∷ (p 1 ∷ m 3 ∷ p 2 ∷ []) ∷ (p 1 ∷ p 3 ∷ m 2 ∷ []) ∷ [])
    Settled 1 3 0 0 2 2 (p 1 ∷ p 2 ∷ p 2 ∷ []) ∷ []
