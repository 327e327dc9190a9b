use Rattle.std.proofs.Common.{◌<◌, length, get_or, arith}
use Rattle.std.proofs.lemmas.List.{get_or_default}
use Rattle.std.proofs.lemmas.List.Edits.{map_over_more}
use Rattle.rules.specs.Compute.{replace}
use Rattle.closure.proofs.lead.replace_all.Goals as goal

pub loop-lead-preserved : goal.loop-lead-preserved
loop-lead-preserved c =
    let l = c.loop-lead in
    let within : l.lead-index < length l.leads = omega arith in
    rw c.replaced.ensures
    (map_over_more (replace c.args.hi c.args.lo) c.args.leads.now l.leads l.lead-index _ (omega arith) l.invariant (get_or_default l.leads l.lead-index 0 (get_or l.leads l.lead-index 0) within))
