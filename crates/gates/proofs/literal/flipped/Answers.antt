use Rattle.clauses.proofs.Signs.{xor_flip}
use Rattle.gates.proofs.literal.flipped.Goals as goal

pub returns : goal.returns
returns c = xor_flip c.args.mask c.args.x
