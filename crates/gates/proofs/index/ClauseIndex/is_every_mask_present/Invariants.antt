use mathlib.Core.Path.{◌≡◌}
use mathlib.Core.Bool.{true, ◌||◌}
use Prim.Native.Nat.{ℕ, ◌<◌}
use Rattle.clauses.specs.Clause.{clauses_in}
use Rattle.clauses.specs.Listing.{present}
use Rattle.gates.specs.Mask.{masked, mask_odd}
use Rattle.gates.proofs.index.ClauseIndex.is_every_mask_present.Given as goal

abbrev pub invariant-loop-mask : goal.invariant-loop-mask
invariant-loop-mask l = (k : ℕ) → k < l.mask → (mask_odd k l.clause || present (clauses_in l.self.codes.now) (masked k l.clause)) ≡ true
