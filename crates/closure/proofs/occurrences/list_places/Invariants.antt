use Rattle.std.proofs.Common.{◌≡◌, ◌⊎◌, false, ℕ, ◌≤◌, ◌<◌, get_or}
use Rattle.closure.specs.Occurrences.{PlaceListed}
use Rattle.closure.proofs.occurrences.list_places.Given as goal

abbrev pub invariant-loop-q : goal.invariant-loop-q
invariant-loop-q l = ((k : ℕ) → l.b ≤ k → k < l.q → PlaceListed l.marks l.b l.e l.starts l.reads k)
    × ((k : ℕ) → (k < l.b) ⊎ (l.e ≤ k) → (get_or l.starts k 0 ≡ get_or l.initial.starts k 0) × (get_or l.reads k false ≡ get_or l.initial.reads k false))
