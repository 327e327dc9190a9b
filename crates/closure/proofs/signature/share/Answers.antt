use mathlib.Core.Path.{sym, ◌∙◌}
use Rattle.closure.proofs.Signatures.{share_held, share_free}
use Rattle.closure.proofs.signature.share.Goals as goal

pub returns-then-held-y : goal.returns-then-held-y
returns-then-held-y c = let s = c.args in sym (share_held s.held.now s.y c.if-held-y.true)

pub returns-else-held-y : goal.returns-else-held-y
returns-else-held-y c = let s = c.args in c.hash_of.ensures ∙ sym (share_free s.held.now s.y c.if-held-y.false)
