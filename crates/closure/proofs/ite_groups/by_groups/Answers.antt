use mathlib.Core.Path.{◌≡◌}
use native.Mathlib.Omega.{arith}
use lib.ListN.{length}
use Rattle.closure.proofs.Going.{went_none, went_then, ready_on}
use Rattle.closure.proofs.IteGroups.{holders_none, groups_on, groups_end}
use Rattle.closure.proofs.ite_groups.by_groups.Goals as goal

pub returns-then-sides-from : goal.returns-then-sides-from
returns-then-sides-from g c = λ marks r k h. (went_none, λ i f l. absurd (omega (arith, c.if-sides-from.true)))

pub match_group-t-requires : goal.match_group-t-requires
match_group-t-requires g c =
    let q = c.requires.by_index in
    let a = c.loop-i.invariant q.0 q.1 q.2 q.3 in
    (omega arith, (omega arith, ((q.0, record { ready = ready_on q.1 a.0; holds = a.1; hubs_are = q.3 }, q.2), c.loop-i-test.true)))

pub loop-i-preserved : goal.loop-i-preserved
loop-i-preserved g c =
    λ marks r k h.
    let a = c.loop-i.invariant marks r k h in
    let b = c.match_group-t.ensures marks (record { ready = ready_on r a.0; holds = a.1; hubs_are = h }) k in
    (went_then a.0 b.0, b.1, groups_on c.args.codes.now marks c.args.old.now c.args.sides.now a.2 b.0 b.2)

pub returns : goal.returns
returns g c =
    λ marks r k h.
    let a = c.loop-i.invariant marks r k h in
    let e : c.loop-i.i ≡ c.args.sides.now.count = omega arith in
    (a.0, groups_end c.args.codes.now marks c.args.old.now c.args.sides.now c.loop-i.new c.loop-i.t (rw e at a.2))

pub loop-i-init : goal.loop-i-init
loop-i-init g c =
    λ marks r k h.
    (went_none, holders_none _ marks _ _ (length c.args.holders.now) (c.fill.ensures.after (λ y e. e)) (omega (arith, c.fill.ensures.len, c.requires.in_bounds)), λ i f l. absurd (omega arith))
