use mathlib.Core.Path.{refl}
use Rattle.closure.proofs.close.close_rounds.Goals as goal

pub close_in-requires : goal.close_in-requires
close_in-requires c = record { passed = c.requires; codes_len = (refl, refl, refl, refl) }
