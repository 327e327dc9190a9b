use mathlib.Core.Path.{sym, ◌∙◌}
use Rattle.std.proofs.lemmas.Result.{err_from_is_err_and}
use Rattle.clauses.proofs.Answers.{read_within}
use Rattle.sheet.specs.Comparing.{comparing}
use Rattle.sheet.proofs.Compared.{read_refused}
use Rattle.sheet.proofs.compare.compare.Goals as goal

pub returns-in_err-list : goal.returns-in_err-list
unfolding comparing
returns-in_err-list c =
    let p = err_from_is_err_and c.from_residual.result c.from_residual.ensures.1 in
    rw (p.1, p.2) (read_refused _ c.args.text.now _ _ (sym c.read.ensures.value ∙ c.in_err-list.was))

pub write_read-requires : goal.write_read-requires
write_read-requires c = rw c.read.ensures.row_after (read_within _ _ _ (sym c.read.ensures.value ∙ c.in_ok-list.was))

pub returns : goal.returns
unfolding comparing
returns c = c.write_read.ensures ∙ rw (← c.read.ensures.value, ← c.read.ensures.row_after, c.in_ok-list.was)
