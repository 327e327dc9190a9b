use Rattle.clauses.proofs.Writes.{wrote_then}
use Rattle.sheet.specs.Sheet.{net_lead_line, net_lines}
use lib.ListN.{length-append}
use native.Mathlib.Omega.{arith}
use Rattle.sheet.proofs.lines.put_table.Goals as goal

pub put_bytes-nets-requires : goal.put_bytes-nets-requires
unfolding net_lead_line
put_bytes-nets-requires c = omega (arith, c.requires.leads_in_bounds, length-append net_lead_line (net_lines 1 c.args.leads.now))

pub put_nets-requires : goal.put_nets-requires
unfolding net_lead_line
put_nets-requires c =
    record { leads_in_bounds = omega (arith, c.requires.leads_in_bounds, c.put_bytes-nets.ensures.end, c.put_bytes-nets.auto.text, length-append net_lead_line (net_lines 1 c.args.leads.now)); leads_len_bound = c.requires.leads_len_bound }

pub returns : goal.returns
unfolding net_lead_line
returns c = wrote_then c.put_bytes-nets.ensures c.put_nets.ensures
