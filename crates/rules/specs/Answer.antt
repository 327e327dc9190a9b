-- Verdicts and leads: what closing answers to a list of V nets under a round limit, by the groupings alone.
-- Assumes nothing.
use Rattle.std.specs.Prelude.{◌≡◌, ◌≢◌, ◌⊎◌, List, ◌∷◌, ℕ, suc, ◌*◌, ◌≤◌, ◌<◌, length, get_or, replicate, eqb}
use Rattle.rules.specs.declared.Verdict.{Verdict}
use Rattle.rules.specs.declared.Verdict.TheVariants.{Contradiction}
use Rattle.clauses.specs.Code.{net}
use Rattle.clauses.specs.Lists.{keep, from}
use Rattle.clauses.specs.Sign.{flip, is_inverse}
use Rattle.gates.specs.Counted.{IsAndCount, IsXorCount, IsIteCount}
use Rattle.rules.specs.Grouping.{After}
use Rattle.rules.specs.Ending.{Ends}

pub record Answer : Type 0 where
  pub verdict : Verdict
  pub rounds : ℕ
  pub ands : ℕ
  pub xors : ℕ
  pub ites : ℕ
  pub groups : ℕ
  -- entry w - 1 for net w
  pub leads : List ℕ

-- the lead of net w in a grouping: the representative of its class
pub data Lead (G : ℕ → ℕ → Type 0) (w : ℕ) : ℕ → Type 0 where
  -- 'The lead of a net is T or F if joined to a constant,'
  to_false : G (2 * w) 0 → Lead G w 0
  to_true : G (2 * w) 1 → Lead G w 1
  -- 'else the literal of the lowest-numbered net in the group.'
  lowest : {l : ℕ} → ¬ G (2 * w) 0 → ¬ G (2 * w) 1 → G (2 * w) l → ((x : ℕ) → G (2 * w) x → net l ≤ net x) → Lead G w l

-- the lead of a literal or constant by a row of leads, 'an inverse having the inverse lead and T and F themselves'; past the row a net
-- leads itself
unfoldable pub lead_of : List ℕ → ℕ → ℕ
lead_of leads c = flip (is_inverse c) (get_or (0 ∷ leads) (net c) (2 * net c))

-- the nets from 1 to V that are their own lead
unfoldable pub own : ℕ → List ℕ → List ℕ
own v leads = keep (λ w. eqb (lead_of leads (2 * w)) (2 * w)) (from 1 v)

-- the code where there is no lead
abbrev pub no_lead : ℕ
no_lead = 4294967295

-- groups and leads, for a grouping G and a verdict
pub data Leads (v : ℕ) (G : ℕ → ℕ → Type 0) : Verdict → ℕ → List ℕ → Type 0 where
  -- 'On contradiction groups is 0 and the first V codes are 4,294,967,295.'
  on_contradiction : Leads v G Contradiction 0 (replicate v no_lead)
  -- 'groups is the number of nets that are their own lead.'
  otherwise : {w : Verdict} {leads : List ℕ} → w ≢ Contradiction → length leads ≡ v → ((i : ℕ) → i < v → Lead G (suc i) (get_or leads i 0))
      → Leads v G w (length (own v leads)) leads

-- the answer to a list of V nets: how closing ends, and what the grouping then leaves; the counts are those of the gates found
pub record IsAnswer (v : ℕ) (cs : List (List ℕ)) (limit : ℕ) (a : Answer) : Type 0 where
  pub ends : Ends cs limit a.verdict a.rounds
  pub leads : Leads v (After cs a.rounds) a.verdict a.groups a.leads
  pub ands : IsAndCount cs a.ands
  pub xors : IsXorCount cs a.xors
  pub ites : IsIteCount cs a.ites

-- 'Two literals or constants are joined in an answer when they have the same lead .., or when the verdict is contradiction.'
abbrev pub Joined : Answer → ℕ → ℕ → Type 0
Joined a x y = (a.verdict ≡ Contradiction) ⊎ (lead_of a.leads x ≡ lead_of a.leads y)
