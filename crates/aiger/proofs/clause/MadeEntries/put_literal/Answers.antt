use Rattle.aiger.proofs.Stores.{put_none, literal_false, literal_there}
use Rattle.aiger.proofs.clause.MadeEntries.put_literal.Goals as goal

pub returns-then-x-ne0 : goal.returns-then-x-ne0
returns-then-x-ne0 c = rw (literal_there c.args.x c.if-x-ne0.true) c.put.ensures

pub returns-else-x-ne0 : goal.returns-else-x-ne0
returns-else-x-ne0 c = rw (literal_false c.args.x c.if-x-ne0.false) (put_none c.args.self.now)
