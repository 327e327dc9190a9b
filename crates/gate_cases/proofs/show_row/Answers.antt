-- What the tests say is what the finder requires.
use Rattle.std.proofs.Common.{sym, ◌∙◌, ap, arith}
use Rattle.clauses.specs.Tally.{tally_of}
use Rattle.clauses.specs.declared.tally.EntryTally.{EntryTally}
use Rattle.clauses.proofs.Entries.{entries_small, entries_ended}
use Rattle.gate_cases.proofs.show_row.Goals as goal

pub show_counts-requires-clause-small_entries : goal.show_counts-requires-clause-small_entries
unfolding tally_of
show_counts-requires-clause-small_entries g c =
    entries_small 1024 c.args.row.now (omega arith) (omega (arith, c.if-t-row.false, ap (λ (t : EntryTally). t.within) c.tally_row-t.ensures))

pub show_counts-requires-clause-row_value : goal.show_counts-requires-clause-row_value
unfolding tally_of
show_counts-requires-clause-row_value g c =
    entries_ended _ (sym (ap (λ (t : EntryTally). t.ended) c.tally_row-t.ensures) ∙ c.if-t.true)
