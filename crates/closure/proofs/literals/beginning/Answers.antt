use Rattle.std.proofs.Common.{◌≡◌, ◌+◌, ◌-◌, sym, ◌∙◌, ap, arith}
use Rattle.clauses.specs.Row.{start_of}
use Rattle.clauses.proofs.Starts.{start_first, start_zero, start_literal}
use Rattle.closure.proofs.literals.beginning.Goals as goal

pub returns-then-codes-q-eq0 : goal.returns-then-codes-q-eq0
returns-then-codes-q-eq0 c =
    let e : c.loop-q.q - 1 + 1 ≡ c.loop-q.q = omega (arith, c.loop-q-test.true) in
    sym (c.loop-q.invariant ∙ ap (start_of c.args.codes.now) (sym e) ∙ start_zero _ _ c.if-codes-q-eq0.true)

pub loop-q-preserved : goal.loop-q-preserved
loop-q-preserved c =
    let e : c.loop-q.q - 1 + 1 ≡ c.loop-q.q = omega (arith, c.loop-q-test.true) in
    c.loop-q.invariant ∙ ap (start_of c.args.codes.now) (sym e) ∙ start_literal _ _ c.if-codes-q-eq0.false

pub returns : goal.returns
returns c =
    let z : c.loop-q.q ≡ 0 = omega (arith, c.loop-q-test.false) in
    sym (c.loop-q.invariant ∙ ap (start_of c.args.codes.now) z ∙ start_first _)
