use mathlib.Core.Path.{◌≡◌}
use Prim.Native.Nat.{◌≤◌}
use lib.ListN.{length}
use Rattle.gates.specs.Ites.{PlacesChained}
use Rattle.gates.proofs.paired.chain_paired.Given as goal

abbrev pub invariant-loop-clause : goal.invariant-loop-clause
invariant-loop-clause l =
    (length l.heads ≡ length l.initial.heads) × (length l.chain ≡ length l.initial.chain) × (l.clause-iterator.list ≡ l.kinds.list) × (l.clause-iterator.start ≤ length l.kinds.list.codes.now)
    × PlacesChained l.kinds.list.codes.now l.clause-iterator.start l.heads l.chain

abbrev pub invariant-loop-p : goal.invariant-loop-p
invariant-loop-p l = (length l.heads ≡ length l.initial.heads) × (length l.chain ≡ length l.initial.chain) × PlacesChained l.kinds.list.codes.now l.p l.heads l.chain
