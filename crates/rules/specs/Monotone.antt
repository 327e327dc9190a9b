-- Answers to a list and to one that holds every clause of it: closing is monotone in the clauses.
-- Assumes nothing.
use Rattle.std.specs.Prelude.{◌≡◌, List, ℕ, ◌≤◌}
use Rattle.rules.specs.declared.Verdict.TheVariants.{Contradiction}
use Rattle.rules.specs.Grouping.{After}
use Rattle.rules.specs.Answer.{Answer}

-- document 02's sixth wish, of an answer a to the smaller list, cs, and an answer b to the larger one, ds
pub record Monotone (cs ds : List (List ℕ)) (a b : Answer) : Type 0 where
  -- 'each pair joined in the smaller list's grouping after its reported rounds is joined in the larger one's too, or the larger one gives a
  -- contradiction', and then its grouping joins every pair;
  pub joined : (x y : ℕ) → After cs a.rounds x y → After ds b.rounds x y
  -- 'and a contradiction in the smaller is one in the larger, in no later round.'
  pub contradictions : a.verdict ≡ Contradiction → (b.verdict ≡ Contradiction) × (b.rounds ≤ a.rounds)
