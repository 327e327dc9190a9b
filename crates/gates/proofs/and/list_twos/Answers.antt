use mathlib.Core.Path.{◌≡◌, refl, sym, ◌∙◌, ap}
use Prim.Native.Nat.{ℕ, ◌+◌}
use native.Mathlib.Omega.{arith}
use lib.ListN.{length, get_or, length-set}
use Rattle.gates.proofs.ClauseParts.{Given, given, literals_are, literal_is}
use Rattle.gates.proofs.Twos.{twos_none, twos_two, twos_other}
use Rattle.gates.proofs.and.list_twos.Goals as goal

pub loop-clause-init : goal.loop-clause-init
loop-clause-init c =
    let made = c.clauses-clause-items.ensures in
    rw (c.into_iter-clause-iterator.ensures.into_iter_gives, made.start) (refl, made.list, omega arith, twos_none (omega (arith, c.fill.ensures.len, c.requires)))

pub bounds-twos-literals : goal.bounds-twos-literals
bounds-twos-literals c =
    let turn = c.loop-clause.invariant in
    let b = c.loop-clause.clause-iterator.start in
    let g : Given c.args.list.now c.in-Some.clause b c.next.new.self.start = given c.args.list.now c.loop-clause.clause-iterator c.next.new.self c.in-Some.clause turn.1 c.in-Some.ensures.steps in
    omega (arith, literal_is g c.literals-literals.ensures 0 (omega (arith, c.if-len-eq2.true, c.len.ensures, ap length c.literals-literals.ensures)), c.args.list.now.normal.small (b + 0), turn.3.room)

pub bounds-twos-literals-then-len-eq2 : goal.bounds-twos-literals-then-len-eq2
bounds-twos-literals-then-len-eq2 c =
    let turn = c.loop-clause.invariant in
    let b = c.loop-clause.clause-iterator.start in
    let g : Given c.args.list.now c.in-Some.clause b c.next.new.self.start = given c.args.list.now c.loop-clause.clause-iterator c.next.new.self c.in-Some.clause turn.1 c.in-Some.ensures.steps in
    rw length-set
    (omega (arith, literal_is g c.literals-literals.ensures 1 (omega (arith, c.if-len-eq2.true, c.len.ensures, ap length c.literals-literals.ensures)), c.args.list.now.normal.small (b + 1), turn.3.room))

pub loop-clause-preserved-then-len-eq2 : goal.loop-clause-preserved-then-len-eq2
loop-clause-preserved-then-len-eq2 c =
    let turn = c.loop-clause.invariant in
    let b = c.loop-clause.clause-iterator.start in
    let g : Given c.args.list.now c.in-Some.clause b c.next.new.self.start = given c.args.list.now c.loop-clause.clause-iterator c.next.new.self c.in-Some.clause turn.1 c.in-Some.ensures.steps in
    let row = c.args.list.now.codes.now in
    let two : length c.literals-literals.result.now ≡ 2 = ap length c.literals-literals.ensures ∙ sym c.len.ensures ∙ c.if-len-eq2.true in
    let z : b + 0 ≡ b = omega arith in
    let x : get_or c.literals-literals.result.now 0 0 ≡ get_or row b 0 = literal_is g c.literals-literals.ensures 0 (omega arith) ∙ ap (λ (i : ℕ). get_or row i 0) z in
    let y : get_or c.literals-literals.result.now 1 0 ≡ get_or row (b + 1) 0 = literal_is g c.literals-literals.ensures 1 (omega arith) in (
      rw (length-set, length-set) turn.0,
      c.in-Some.ensures.steps.2 ∙ turn.1,
      omega (arith, g.next, g.inside),
      rw (g.next, x, y) (twos_two _ turn.3 c.args.list.now.normal (ap length (sym (literals_are g c.literals-literals.ensures)) ∙ two)),
    )

pub loop-clause-preserved : goal.loop-clause-preserved
loop-clause-preserved c =
    let turn = c.loop-clause.invariant in
    let b = c.loop-clause.clause-iterator.start in
    let g : Given c.args.list.now c.in-Some.clause b c.next.new.self.start = given c.args.list.now c.loop-clause.clause-iterator c.next.new.self c.in-Some.clause turn.1 c.in-Some.ensures.steps in (
      turn.0,
      c.in-Some.ensures.steps.2 ∙ turn.1,
      omega (arith, g.next, g.inside),
      rw g.next (twos_other _ turn.3 (λ e. c.if-len-eq2.false (rw (g.list_is, g.start_is) at c.len.ensures ∙ e))),
    )
