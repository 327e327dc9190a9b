use mathlib.Core.Path.{◌∙◌}
use lib.Dec.{leb}
use borrow.Author.Tests.{tests}
use Rattle.std.proofs.Common.{rules}
use Rattle.std.proofs.lemmas.Iterator.{YieldsList-from_slice}
use Rattle.std.proofs.lemmas.Iterator.Search.{all_from_yields_List}
use Rattle.clauses.specs.Code.{net}
use Rattle.gates.specs.Mark.{is_lowest}
use Rattle.gates.proofs.Every.{every}
use Rattle.gates.proofs.xor.is_lowest.Goals as goal

pub returns : goal.returns
unfolding is_lowest
returns c =
    all_from_yields_List (λ y. leb (net c.args.x) (net y)) _ _ _ c.all.ensures.ran (YieldsList-from_slice c.args.clause.now cc) (λ x b q k. search (rules, tests))
    ∙ every (λ y. leb (net c.args.x) (net y)) c.args.clause.now
