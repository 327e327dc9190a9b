use Rattle.std.proofs.Common.{arith}
use Rattle.closure.proofs.Tables.{chain_head}
use Rattle.closure.proofs.table.KeyTable.last_slot.Goals as goal

pub last_along-requires : goal.last_along-requires
last_along-requires g c = (omega arith, (_, chain_head c.args.self.now.chained c.args.key (omega arith)))

pub returns : goal.returns
returns g c = c.last_along.ensures _ (chain_head c.args.self.now.chained c.args.key (omega arith))
