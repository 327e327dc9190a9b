use Rattle.aiger.proofs.InputLines.{Listed}
use Rattle.aiger.proofs.inputs.read_inputs.Given as goal

abbrev pub invariant-loop : goal.invariant-loop
invariant-loop l = Listed l.header.nets l.text l.header.inputs l.header.lines l.tree l.at l.counter
