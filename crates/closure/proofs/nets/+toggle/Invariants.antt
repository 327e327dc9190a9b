use Rattle.closure.proofs.nets.+toggle.Given as goal

abbrev pub decreases-toggle : goal.decreases-toggle
decreases-toggle l = l.key
