use mathlib.Core.Path.{◌∙◌}
use mathlib.Core.Bool.{not, ◌||◌}
use borrow.Author.Tests.{tests}
use Rattle.std.proofs.Common.{rules}
use Rattle.std.proofs.lemmas.Iterator.{YieldsList-from_slice}
use Rattle.std.proofs.lemmas.Iterator.Search.{all_from_yields_List}
use Rattle.clauses.specs.Sign.{is_inverse}
use Rattle.gates.specs.Mark.{is_lowest, is_upright}
use Rattle.gates.proofs.Every.{every}
use Rattle.gates.proofs.xor.is_upright.Goals as goal

pub returns : goal.returns
unfolding is_upright
returns c =
    all_from_yields_List (λ x. not (is_inverse x) || is_lowest c.args.clause.now x) _ _ _ c.all.ensures.ran (YieldsList-from_slice c.args.clause.now cc) (λ x b q k. search (rules, tests))
    ∙ every (λ x. not (is_inverse x) || is_lowest c.args.clause.now x) c.args.clause.now
