use mathlib.Core.Path.{refl}
use Rattle.gates.specs.Found.{is_xor}
use Rattle.gates.proofs.mark_bits.is_xor.Goals as goal

pub returns : goal.returns
unfolding is_xor
returns c = refl
