use mathlib.Core.Path.{◌∙◌, sym, ap, subst⁻¹}
use Prim.Native.Nat.{ℕ, ◌≤◌}
use Rattle.clauses.specs.Clause.{clauses_in}
use Rattle.clauses.specs.Limit.{max_nets}
use Rattle.clauses.specs.Listing.{Fits}
use Rattle.clauses.specs.Code.{nets_of}
use Rattle.closure.proofs.close.close_codes.Goals as goal

pub run-requires : goal.run-requires
run-requires c =
    let s = c in let k = c.first_leads.auto.leads in let e = c.first_leads.ensures in record { found = s.requires.found; fits = subst⁻¹ (λ (n : ℕ). Fits n (clauses_in s.args.codes.now)) k s.requires.fits; leads_len_bound = (subst⁻¹ (λ (n : ℕ). n ≤ max_nets) k s.requires.leads_len_bound.0, s.requires.leads_len_bound.1); leads_value = (e ∙ ap nets_of (sym k), c.first_leads-2.ensures ∙ ap nets_of s.requires.next_len.0 ∙ sym e, c.first_leads-3.ensures ∙ ap nets_of s.requires.next_len.1 ∙ sym e) }

pub returns : goal.returns
returns c = let k = c.first_leads.auto.leads in let e = c.run.ensures in record { leads_after = rw k at e.leads_after; groups_value = rw k at e.groups_value }
