-- What the finder leaves says the same of every list with the same clauses, and has the computed counts.
-- Assumes nothing.
use mathlib.Core.Logic.{◌↔◌}
use mathlib.Core.List.{List}
use Prim.Native.Nat.{ℕ}
use Rattle.clauses.specs.Clause.{Present, Included}
use Rattle.gates.specs.Found.{Found}
use Rattle.gates.proofs.MoreClauses.{and_present, xor_present, ite_present}

pub found_same : {cs ds : List (List ℕ)} {row marks : List ℕ} → ((c : List ℕ) → Present cs c ↔ Present ds c) → Found cs row marks → Found ds row marks
found_same {cs} {ds} same f =
    record {
      size = f.size;
      ended = f.ended;
      clause_is = λ b s. to _ (f.clause_is b s);
      literal_once = f.literal_once;
      clause_found = λ c h. f.clause_found c (back c h);
      pair_is = λ b s h. let p = f.pair_is b s h in (p.0, to _ p.1);
      pair_found = λ x y n h k. f.pair_found x y n (back _ h) (back _ k);
      and_is = λ b p at h. and_present to (f.and_is b p at h);
      and_found = λ c l g. f.and_found c l (and_present back g);
      xor_is = λ b s h. xor_present to (f.xor_is b s h);
      xor_found = λ ls odd g. f.xor_found ls odd (xor_present back g);
      select_three = f.select_three;
      next_is = λ b p at h. let g = f.next_is b p at h in (g.0, ite_present to g.1);
      after_is = λ b p at h. let g = f.after_is b p at h in (g.0, ite_present to g.1);
      side_found = λ l c t e g. f.side_found l c t e (ite_present back g);
    }
  where
    to : Included cs ds
    to c = (same c).0

    back : Included ds cs
    back c = (same c).1
