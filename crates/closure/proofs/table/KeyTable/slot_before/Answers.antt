use Rattle.std.proofs.Common.{arith}
use Rattle.closure.proofs.Tables.{chain_behind}
use Rattle.closure.proofs.table.KeyTable.slot_before.Goals as goal

pub last_along-requires : goal.last_along-requires
last_along-requires g c = (omega arith, (_, chain_behind c.args.self.now.chained c.args.k c.requires))

pub returns : goal.returns
returns g c = c.last_along.ensures _ (chain_behind c.args.self.now.chained c.args.k c.requires)
