use mathlib.Core.Path.{◌∙◌}
use native.Mathlib.Omega.{arith}
use Rattle.closure.proofs.XorSteps.{alone_joined, alone_kept}
use Rattle.closure.proofs.xors.join_alone.Goals as goal

pub returns-then-key-lt65536 : goal.returns-then-key-lt65536
returns-then-key-lt65536 c = let s = c.args in c.join.ensures ∙ alone_joined s.new.now s.t s.key s.sum c.if-key-lt65536.true

pub returns : goal.returns
returns c = let s = c.args in alone_kept s.new.now s.t s.key s.sum (omega (arith, c.if-key-lt65536.false))
