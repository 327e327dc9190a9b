use Rattle.closure.proofs.Running.{still_joins, still_clash}
use Rattle.closure.proofs.run.is_still.Goals as goal

pub returns-then-t : goal.returns-then-t
returns-then-t c = still_clash c.args.t c.if-t.true

pub returns : goal.returns
returns c = still_joins c.args.t c.if-t.false
