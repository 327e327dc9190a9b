-- What was written stands within the buffer, and is what the definition says.
use Rattle.std.proofs.Common.{subst, sym}
use Rattle.sheet.specs.Comparing.{Outcome}
use Rattle.sheet.proofs.Compared.{BytesWithin, compared_aiger_within}
use Rattle.console.proofs.Answered.{printed_aiger_as}
use Rattle.console.proofs.print_aiger_sheet.Goals as goal

pub print_written-requires : goal.print_written-requires
print_written-requires g c = subst (λ (o : Outcome). BytesWithin o.result o.text) (sym c.compare_aiger-written.ensures) (compared_aiger_within _ _)

pub returns : goal.returns
returns g c = rw (printed_aiger_as _ _ _ c.compare_aiger-written.ensures) c.print_written.ensures
