use mathlib.Core.Path.{refl}
use Rattle.gates.specs.Found.{is_and}
use Rattle.gates.proofs.mark_bits.is_and.Goals as goal

pub returns : goal.returns
unfolding is_and
returns c = refl
