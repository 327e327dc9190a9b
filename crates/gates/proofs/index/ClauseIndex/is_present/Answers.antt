use mathlib.Core.Path.{◌∙◌, ap}
use Rattle.std.specs.Option.{is_some}
use Rattle.gates.proofs.Places.{found_present}
use Rattle.gates.proofs.index.ClauseIndex.is_present.Goals as goal

pub returns : goal.returns
returns c = c.is_some.ensures ∙ ap is_some c.find.ensures ∙ found_present _ _ c.args.self.now.normal.proper
