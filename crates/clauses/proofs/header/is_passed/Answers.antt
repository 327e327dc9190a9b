use Rattle.std.proofs.Common.{sym, tests, rules, ◌∙◌}
use Rattle.std.proofs.lemmas.Iterator.{YieldsList-from_slice}
use Rattle.std.proofs.lemmas.Iterator.Search.{all_from_yields_List}
use Rattle.clauses.specs.Bytes.{is_blank}
use Rattle.clauses.proofs.Headers.{comment_passed, blanks_passed}
use Rattle.clauses.proofs.header.is_passed.Goals as goal

pub returns-then-starts_with : goal.returns-then-starts_with
returns-then-starts_with c = c.if-starts_with.true ∙ sym (comment_passed c.args.line.now (sym c.starts_with.ensures.value ∙ c.if-starts_with.true))

pub returns-else-starts_with : goal.returns-else-starts_with
returns-else-starts_with c =
    all_from_yields_List is_blank _ _ _ c.all.ensures.ran (YieldsList-from_slice c.args.line.now cc) (λ x b q k. search (rules, tests))
    ∙ sym (blanks_passed c.args.line.now (sym c.starts_with.ensures.value ∙ c.if-starts_with.false))
