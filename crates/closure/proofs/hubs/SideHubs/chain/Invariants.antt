use Rattle.clauses.specs.Chains.{ChainedIn}
use Rattle.closure.specs.IteSides.{InHub}
use Rattle.closure.proofs.hubs.SideHubs.chain.Given as goal

abbrev pub invariant-loop-s : goal.invariant-loop-s
invariant-loop-s g l = ChainedIn (InHub l.codes l.marks g.row.BUCKETS) l.s l.self.heads l.self.links
