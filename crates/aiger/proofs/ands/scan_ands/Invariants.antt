use Rattle.aiger.proofs.AndLines.{Scanned}
use Rattle.aiger.proofs.ands.scan_ands.Given as goal

abbrev pub invariant-loop : goal.invariant-loop
invariant-loop l = Scanned l.header.nets l.text l.header.ands l.from l.initial.tree l.initial.entries l.outputs l.tree l.entries l.at l.counter
