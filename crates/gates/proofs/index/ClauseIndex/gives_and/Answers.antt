use mathlib.Core.Path.{◌∙◌}
use mathlib.Core.Bool.{◌||◌}
use mathlib.Core.List.{[], ◌∷◌}
use lib.Dec.{eqb}
use borrow.Author.Tests.{tests}
use Rattle.std.proofs.Common.{rules}
use Rattle.std.proofs.lemmas.Iterator.{YieldsList-from_slice}
use Rattle.std.proofs.lemmas.Iterator.Search.{all_from_yields_List}
use Rattle.clauses.specs.Code.{negate}
use Rattle.clauses.specs.Clause.{clauses_in}
use Rattle.clauses.specs.Listing.{present}
use Rattle.gates.specs.Mark.{gives_and}
use Rattle.gates.proofs.Every.{every}
use Rattle.gates.proofs.index.ClauseIndex.gives_and.Goals as goal

pub returns : goal.returns
unfolding gives_and
returns c =
    all_from_yields_List (λ k. eqb k c.args.l || present (clauses_in c.args.self.now.codes.now) (negate c.args.l ∷ negate k ∷ [])) _ _ _ c.all.ensures.ran (YieldsList-from_slice c.args.clause.now cc) (λ x b q k. search (rules, tests))
    ∙ every (λ k. eqb k c.args.l || present (clauses_in c.args.self.now.codes.now) (negate c.args.l ∷ negate k ∷ [])) c.args.clause.now
