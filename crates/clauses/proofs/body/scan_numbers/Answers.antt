use Rattle.clauses.proofs.Scans.{scan_steps}
use mathlib.Core.Path.{◌∙◌, sym}
use Rattle.clauses.proofs.body.scan_numbers.Goals as goal

pub loop-at-preserved : goal.loop-at-preserved
loop-at-preserved c =
    let s = c in
    let e = sym c.read_number.ensures ∙ c.in-Some.is in
    rw (c.add-t.ensures, c.put_entry.ensures) (scan_steps (s.args.text.now) s.args.v s.args.from (s.args.kept.now) _ _ _ c.loop-at.invariant c.loop-at-test.true _ e _ c.next_word-at-in-loop-at.ensures)
