use mathlib.Core.Path.{◌≡◌, sym, ◌∙◌}
use mathlib.Core.Logic.{◌≢◌}
use Prim.Native.Nat.{◌+◌, ◌<◌}
use native.Mathlib.Omega.{arith}
use lib.ListN.{length, get_or}
use Rattle.std.proofs.Common.{rules}
use Rattle.clauses.specs.Row.{clause_at}
use Rattle.gates.specs.declared.kind.Kind.TheVariants.{Other, Three}
use Rattle.gates.proofs.Chaining.{end_unpaired, clause_passed}
use Rattle.gates.proofs.ClauseParts.{Given, given, clause_literal}
use Rattle.gates.proofs.Sizes.{place_linked, place_passed}
use Rattle.gates.proofs.paired.chain_paired.Goals as goal
use Rattle.gates.proofs.paired.chain_paired.Goals.{then-is_paired, else-is_paired}

pub is_paired-requires-clause-kind : goal.is_paired-requires-clause-kind
is_paired-requires-clause-kind c =
    let turn = c.loop-clause.invariant in
    let b = c.loop-clause.clause-iterator.start in
    let g : Given c.args.kinds.now.list c.in-Some.clause b c.next.new.self.start = given c.args.kinds.now.list c.loop-clause.clause-iterator c.next.new.self c.in-Some.clause turn.2 c.in-Some.ensures.steps in
    let kind : get_or c.args.kinds.now.kinds.now c.in-Some.clause.start Other ≡ Three = search rules in
    rw (g.list_is, g.start_is) (sym (c.args.kinds.now.listed.at _ g.starts.inside g.starts) ∙ rw g.start_is at kind)

pub is_paired-requires-clause-literal_at : goal.is_paired-requires-clause-literal_at
is_paired-requires-clause-literal_at c = clause_literal c.in-Some.clause c.loop-p.p (omega arith) (omega arith)

pub offset_bounds-codes-p : goal.offset_bounds-codes-p
offset_bounds-codes-p c =
    let turn = c.loop-clause.invariant in
    let b = c.loop-clause.clause-iterator.start in
    let g : Given c.args.kinds.now.list c.in-Some.clause b c.next.new.self.start = given c.args.kinds.now.list c.loop-clause.clause-iterator c.next.new.self c.in-Some.clause turn.2 c.in-Some.ensures.steps in
    omega (arith, g.ends, g.inside, c.loop-p-test.true, c.args.kinds.now.list.normal.entries)

pub bounds-codes-p : goal.bounds-codes-p
bounds-codes-p c =
    let turn = c.loop-clause.invariant in
    let b = c.loop-clause.clause-iterator.start in
    let g : Given c.args.kinds.now.list c.in-Some.clause b c.next.new.self.start = given c.args.kinds.now.list c.loop-clause.clause-iterator c.next.new.self c.in-Some.clause turn.2 c.in-Some.ensures.steps in
    omega (arith, g.ends, g.inside, c.loop-p-test.true)

pub link-requires : goal.link-requires
link-requires c =
    let turn = c.loop-clause.invariant in
    let b = c.loop-clause.clause-iterator.start in
    let g : Given c.args.kinds.now.list c.in-Some.clause b c.next.new.self.start = given c.args.kinds.now.list c.loop-clause.clause-iterator c.next.new.self c.in-Some.clause turn.2 c.in-Some.ensures.steps in
    let list = c.args.kinds.now.list in
    let inside : c.loop-p.p < length list.codes.now = omega (arith, g.ends, g.inside, c.loop-p-test.true) in (
      omega (arith, list.normal.small c.loop-p.p, c.requires.room.literals, c.loop-p.invariant.0, turn.0),
      omega (arith, inside, c.requires.room.places, c.loop-p.invariant.1, turn.1),
      omega (arith, inside, list.normal.entries),
    )

pub loop-p-preserved : goal.loop-p-preserved
loop-p-preserved c =
    let turn = c.loop-clause.invariant in
    let b = c.loop-clause.clause-iterator.start in
    let g : Given c.args.kinds.now.list c.in-Some.clause b c.next.new.self.start = given c.args.kinds.now.list c.loop-clause.clause-iterator c.next.new.self c.in-Some.clause turn.2 c.in-Some.ensures.steps in
    let list = c.args.kinds.now.list in
    let chained = c.loop-p.invariant in
    let inside : c.loop-p.p < length list.codes.now = omega (arith, g.ends, g.inside, c.loop-p-test.true) in
    elim c.if-is_paired.branch [
      | then-is_paired w ↦
          rw (w.heads-is, w.chain-is) (
            w.link.auto.heads ∙ chained.0,
            w.link.auto.next ∙ chained.1,
            place_linked _ _ _ _ chained.2 (rw g.list_is at (sym c.is_paired.ensures ∙ w.if-is_paired.true))
                (omega (arith, list.normal.small c.loop-p.p, c.requires.room.literals, chained.0, turn.0))
                (omega (arith, inside, c.requires.room.places, chained.1, turn.1)) _ _ w.link.ensures.heads w.link.ensures.next,
          )
      | else-is_paired w ↦ rw (w.heads-is, w.chain-is) (chained.0, chained.1, place_passed _ _ _ _ chained.2 (rw g.list_is at (sym c.is_paired.ensures ∙ w.if-is_paired.false)))
    ]

pub loop-clause-preserved-in-loop-p : goal.loop-clause-preserved-in-loop-p
loop-clause-preserved-in-loop-p c =
    let turn = c.loop-clause.invariant in
    let b = c.loop-clause.clause-iterator.start in
    let g : Given c.args.kinds.now.list c.in-Some.clause b c.next.new.self.start = given c.args.kinds.now.list c.loop-clause.clause-iterator c.next.new.self c.in-Some.clause turn.2 c.in-Some.ensures.steps in
    let list = c.args.kinds.now.list in
    let at_end : c.loop-p.p ≡ b + length (clause_at list.codes.now b) = omega (arith, g.ends, g.start_is, c.loop-p-test.false) in (
      c.loop-p.invariant.0 ∙ turn.0,
      c.loop-p.invariant.1 ∙ turn.1,
      c.in-Some.ensures.steps.2 ∙ turn.2,
      omega (arith, g.next, g.inside),
      rw g.next (place_passed _ _ _ _ (rw at_end at c.loop-p.invariant.2) (end_unpaired list.normal b g.starts)),
    )

pub loop-clause-preserved : goal.loop-clause-preserved
loop-clause-preserved c =
    let turn = c.loop-clause.invariant in
    let b = c.loop-clause.clause-iterator.start in
    let g : Given c.args.kinds.now.list c.in-Some.clause b c.next.new.self.start = given c.args.kinds.now.list c.loop-clause.clause-iterator c.next.new.self c.in-Some.clause turn.2 c.in-Some.ensures.steps in
    let kind : get_or c.args.kinds.now.kinds.now c.in-Some.clause.start Other ≢ Three = search rules in (
      turn.0,
      turn.1,
      c.in-Some.ensures.steps.2 ∙ turn.2,
      omega (arith, g.next, g.inside),
      rw g.next (clause_passed c.args.kinds.now.list.normal b g.starts (λ h. kind (rw g.start_is (c.args.kinds.now.listed.at _ g.starts.inside g.starts ∙ h))) turn.4),
    )
