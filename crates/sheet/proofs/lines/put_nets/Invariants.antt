use Rattle.clauses.specs.Writing.{Wrote}
use Rattle.sheet.specs.Sheet.{net_lines}
use lib.ListN.{take}
use Rattle.sheet.proofs.lines.put_nets.Given as goal

abbrev pub invariant-loop-i : goal.invariant-loop-i
invariant-loop-i l = Wrote l.initial.text l.at (net_lines 1 (take l.i l.leads)) l.text l.next
