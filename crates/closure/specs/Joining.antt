-- Two groups are joined in a row of leads, and the tally counts it. Only inner contracts cite these.
-- Assumes nothing.
use Rattle.std.specs.Prelude.{true, cond, List, map, ℕ, ◌+◌, ◌-◌, eqb, ltb}
use Rattle.clauses.specs.Code.{net}
use Rattle.rules.specs.Answer.{lead_of}
use Rattle.rules.specs.Compute.{replace}
use Rattle.closure.specs.declared.tally.Tally.{Tally}

-- a row of leads and its tally
pub record State : Type 0 where
  pub row : List ℕ
  pub tally : Tally

-- one join made: one group less
abbrev pub fewer : Tally → Tally
fewer t = record { groups = t.groups - 1; joins = t.joins + 1; clash = t.clash }

-- the groups of which x and y are the leads: 'Joining a group with itself leaves the grouping and its count of groups unchanged'; a lead joined
-- to its own inverse joins T to F; else the lead of the lower net leads both
abbrev pub join_groups : List ℕ → Tally → ℕ → ℕ → State
join_groups row t x y =
    cond (eqb x y) (record { row = row; tally = t })
    (cond (eqb (net x) (net y)) (record { row = row; tally = record { groups = t.groups; joins = t.joins; clash = true } })
    (record { row = cond (ltb (net x) (net y)) (map (replace y x) row) (map (replace x y) row); tally = fewer t }))

-- the groups of a and b; once T and F are joined everything is
unfoldable pub join_state : List ℕ → Tally → ℕ → ℕ → State
join_state row t a b = cond t.clash (record { row = row; tally = t }) (join_groups row t (lead_of row a) (lead_of row b))
