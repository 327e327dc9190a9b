use Rattle.std.proofs.Common.{◌≡◌, ◌+◌, ◌-◌, ◌*◌, min, length}
use Rattle.support.proofs.made.put_times.Given as goal

abbrev pub invariant-loop : goal.invariant-loop
invariant-loop l = l.next ≡ l.at + min (l.counter * length l.word) (length l.initial.text - l.at)
