use mathlib.Core.Path.{◌≡◌}
use lib.ListN.{drop}
use Rattle.clauses.specs.Sign.{plus}
use Rattle.gates.specs.Mask.{mask_odd}
use Rattle.gates.proofs.xor.is_mask_odd.Given as goal

abbrev pub invariant-loop : goal.invariant-loop
invariant-loop l = plus l.odd (mask_odd l.m (drop l.index l.clause)) ≡ mask_odd l.mask l.clause
