use mathlib.Core.Path.{◌≡◌, refl}
use native.Mathlib.Omega.{arith}
use lib.ListN.{length}
use Rattle.closure.proofs.Going.{went_then, ready_on}
use Rattle.closure.proofs.Worklists.{span_step}
use Rattle.closure.proofs.xors.by_xors.Goals as goal

pub take_clause-t-requires : goal.take_clause-t-requires
take_clause-t-requires g c =
    let s = c.requires in
    let v = c.loop-b.invariant in (
      omega arith,
      (
        (ready_on s.ready v.0, s.are_starts _ c.loop-b-test.true),
        (v.1, (omega (arith, v.3, s.list_in_bounds.0, span_step c.args.codes.now c.args.list.now c.loop-b.b-index c.loop-b-test.true), s.list_in_bounds.1)),
      ),
    )

pub loop-b-preserved : goal.loop-b-preserved
loop-b-preserved g c =
    let v = c.loop-b.invariant in
    let r = c.take_clause-t.ensures in (
      went_then v.0 r.went,
      r.table,
      r.known _ _ refl v.2,
      omega (arith, v.3, r.few, span_step c.args.codes.now c.args.list.now c.loop-b.b-index c.loop-b-test.true),
    )

pub returns-clause-known : goal.returns-clause-known
returns-clause-known g c = let e : c.loop-b.b-index ≡ length c.args.list.now = omega arith in rw e at c.loop-b.invariant.2
