use mathlib.Core.Path.{◌≡◌}
use mathlib.Core.Logic.{◌⊎◌, inl, inr}
use mathlib.Core.List.{List, ◌++◌}
use Prim.Native.Nat.{ℕ}
use Rattle.clauses.proofs.Writes.{wrote_none}
use Rattle.rules.specs.declared.Verdict.{Verdict}
use Rattle.rules.specs.declared.Verdict.TheVariants.{Settled, Unfinished}
use Rattle.sheet.specs.Sheet.{net_lead_line, net_lines, lead_lines}
use Rattle.sheet.proofs.lines.put_leads.Goals as goal

table_lines : (w : Verdict) (leads : List ℕ) → (w ≡ Settled) ⊎ (w ≡ Unfinished) → lead_lines w leads ≡ net_lead_line ++ net_lines 1 leads
unfolding lead_lines
table_lines w leads (inl e) = rw e
table_lines w leads (inr e) = rw e

pub put_table-requires : goal.put_table-requires
put_table-requires c =
    record { leads_in_bounds = rw (table_lines c.args.verdict c.args.leads.now c.in-Settled.is) at c.requires.leads_in_bounds; leads_len_bound = c.requires.leads_len_bound }

pub returns-in-Contradiction : goal.returns-in-Contradiction
unfolding lead_lines
returns-in-Contradiction c = rw c.in-Contradiction.is (wrote_none _ _)

pub returns-in-Settled : goal.returns-in-Settled
returns-in-Settled c = rw (table_lines c.args.verdict c.args.leads.now c.in-Settled.is) c.put_table.ensures
