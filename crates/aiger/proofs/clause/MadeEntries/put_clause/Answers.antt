use mathlib.Core.Path.{sym, ◌∙◌}
use native.Mathlib.Omega.{arith}
use Rattle.std.proofs.lemmas.List.{take_all}
use Rattle.clauses.specs.Lists.{each}
use Rattle.aiger.proofs.Entries.{made_left_out, made_literals}
use Rattle.aiger.proofs.Stores.{put_none, put_then, literals_room, literals_next}
use Rattle.aiger.proofs.clause.MadeEntries.put_clause.Goals as goal

pub returns-then-is_left_out : goal.returns-then-is_left_out
returns-then-is_left_out c =
    rw (made_left_out c.args.clause.now (sym c.is_left_out.ensures ∙ c.if-is_left_out.true)) (put_none c.args.self.now)

pub loop-x-init : goal.loop-x-init
unfolding each
loop-x-init c = put_none c.args.self.now

pub put_literal-requires : goal.put_literal-requires
put_literal-requires c =
    (c.requires.literals _ 0 c.loop-x-test.true, literals_room c.args.clause.now c.loop-x.x-index c.loop-x.invariant c.loop-x.auto.x-index-end c.requires.room 1 (omega arith))

pub loop-x-preserved : goal.loop-x-preserved
loop-x-preserved c = rw (literals_next c.args.clause.now c.loop-x.x-index c.loop-x-test.true) (put_then c.loop-x.invariant c.put_literal.ensures)

pub put-requires : goal.put-requires
put-requires c =
    (omega arith, literals_room c.args.clause.now c.loop-x.x-index c.loop-x.invariant c.loop-x.auto.x-index-end c.requires.room 1 (omega arith))

pub returns : goal.returns
returns c =
    rw (made_literals c.args.clause.now (sym c.is_left_out.ensures ∙ c.if-is_left_out.false))
    (put_then (rw (take_all _ c.args.clause.now c.loop-x-test.false) at c.loop-x.invariant) c.put.ensures)
