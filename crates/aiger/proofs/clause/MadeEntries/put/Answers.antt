use mathlib.Core.Path.{refl}
use Rattle.aiger.proofs.Stores.{put_entry}
use Rattle.aiger.proofs.clause.MadeEntries.put.Goals as goal

pub returns : goal.returns
returns c = put_entry c.args.self.now c.args.minus c.args.magnitude refl c.add-self.ensures c.put_entry.ensures
