use Prim.Native.Nat.{◌+◌, ℕ}
use Rattle.sheet.proofs.Texts.{sheet_length, values_alone}
use Rattle.sheet.specs.Sheet.{answer_of, lead_lines, names_line, sheet_text, values_line}
use lib.ListN.{length}
use mathlib.Core.List.{List, []}
use mathlib.Core.Path.{◌∙◌, ◌≡◌, ap, sym}
use native.Mathlib.Omega.{arith}
use Rattle.clauses.proofs.Writes.{wrote_then}
use Rattle.sheet.proofs.lines.put_sheet.Goals as goal

pub put_bytes-values-requires : goal.put_bytes-values-requires
unfolding names_line
put_bytes-values-requires c =
    let parts : length (sheet_text c.args.v (answer_of c.args.s c.args.leads.now)) ≡ length names_line + (length (values_line c.args.v (answer_of c.args.s [])) + length (lead_lines c.args.s.verdict c.args.leads.now)) = sheet_length c.args.v (answer_of c.args.s c.args.leads.now)
    ∙ ap (λ (l : List ℕ). length names_line + (length l + length (lead_lines c.args.s.verdict c.args.leads.now))) (sym (values_alone c.args.v c.args.s c.args.leads.now)) in
    omega (arith, c.requires.leads_in_bounds, parts)

pub put_values-table-requires : goal.put_values-table-requires
unfolding names_line
put_values-table-requires c =
    let parts : length (sheet_text c.args.v (answer_of c.args.s c.args.leads.now)) ≡ length names_line + (length (values_line c.args.v (answer_of c.args.s [])) + length (lead_lines c.args.s.verdict c.args.leads.now)) = sheet_length c.args.v (answer_of c.args.s c.args.leads.now)
    ∙ ap (λ (l : List ℕ). length names_line + (length l + length (lead_lines c.args.s.verdict c.args.leads.now))) (sym (values_alone c.args.v c.args.s c.args.leads.now)) in
    omega (arith, c.requires.leads_in_bounds, c.put_bytes-values.ensures.end, c.put_bytes-values.auto.text, parts)

pub put_leads-requires : goal.put_leads-requires
unfolding names_line
put_leads-requires c =
    let parts : length (sheet_text c.args.v (answer_of c.args.s c.args.leads.now)) ≡ length names_line + (length (values_line c.args.v (answer_of c.args.s [])) + length (lead_lines c.args.s.verdict c.args.leads.now)) = sheet_length c.args.v (answer_of c.args.s c.args.leads.now)
    ∙ ap (λ (l : List ℕ). length names_line + (length l + length (lead_lines c.args.s.verdict c.args.leads.now))) (sym (values_alone c.args.v c.args.s c.args.leads.now)) in
    record { leads_in_bounds = omega (arith, c.requires.leads_in_bounds, c.put_bytes-values.ensures.end, c.put_bytes-values.auto.text, c.put_values-table.ensures.end, c.put_values-table.auto.text, parts); leads_len_bound = c.requires.leads_len_bound }

pub returns : goal.returns
unfolding names_line sheet_text
returns c =
    wrote_then c.put_bytes-values.ensures (wrote_then (rw (values_alone c.args.v c.args.s c.args.leads.now) at c.put_values-table.ensures) c.put_leads.ensures)
