use mathlib.Core.Path.{refl}
use Rattle.gates.specs.Found.{is_select_after}
use Rattle.gates.proofs.mark_bits.is_select_after.Goals as goal

pub returns : goal.returns
unfolding is_select_after
returns c = refl
