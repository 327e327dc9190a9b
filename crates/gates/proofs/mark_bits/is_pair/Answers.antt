use mathlib.Core.Path.{refl}
use Rattle.gates.specs.Found.{is_pair}
use Rattle.gates.proofs.mark_bits.is_pair.Goals as goal

pub returns : goal.returns
unfolding is_pair
returns c = refl
