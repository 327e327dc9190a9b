use Rattle.std.proofs.Common.{arith, refl}
use Rattle.clauses.proofs.Signed.{read_back}
use Rattle.clauses.proofs.Texts.{row_none, row_next, row_room}
use Rattle.clauses.proofs.Writes.{wrote_none, wrote_then}
use Rattle.clauses.proofs.Walks.{stepped}
use Rattle.clauses.proofs.printing.print_row.Goals as goal

pub loop-walk-init : goal.loop-walk-init
loop-walk-init c = record { lent = refl; within = omega arith; wrote = rw (row_none c.args.row.now) (wrote_none _ _) }

pub print_entry-end-requires : goal.print_entry-end-requires
print_entry-end-requires c =
    let row = c.args.row.now in
    let s = stepped row c.next.result c.loop-walk.walk c.next.new.walk c.loop-walk.invariant.lent c.loop-walk-test.true c.next.ensures in
    rw (read_back c.next.result c.next.type_inv, s.literal) (omega (arith, c.loop-walk.invariant.wrote.end, c.loop-walk.auto.text, row_room row c.loop-walk.walk.at c.loop-walk-test.true, c.requires))

pub loop-walk-preserved : goal.loop-walk-preserved
loop-walk-preserved c =
    let row = c.args.row.now in
    let s = stepped row c.next.result c.loop-walk.walk c.next.new.walk c.loop-walk.invariant.lent c.loop-walk-test.true c.next.ensures in
    record {
      lent = s.lent;
      within = omega (arith, s.on);
      wrote =
          rw (s.on, row_next row c.loop-walk.walk.at c.loop-walk-test.true, ← s.literal)
          (wrote_then c.loop-walk.invariant.wrote (rw (read_back c.next.result c.next.type_inv) at c.print_entry-end.ensures));
    }
