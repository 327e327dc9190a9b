use Rattle.std.proofs.Common.{◌≡◌, ◌⊎◌, false, ℕ, ◌<◌, get_or}
use Rattle.closure.proofs.worklist.release_list.Given as goal

abbrev pub invariant-loop-b : goal.invariant-loop-b
invariant-loop-b l = (q : ℕ) → (get_or l.initial.seen q false ≡ false) ⊎ ((j : ℕ) × (j < l.b-index) × (get_or l.list j 0 ≡ q)) → get_or l.seen q false ≡ false
