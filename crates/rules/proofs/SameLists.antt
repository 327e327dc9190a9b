-- Two lists in which the same clauses are present have one answer.
-- Assumes nothing.
use mathlib.Core.Path.{◌≡◌, subst}
use mathlib.Core.Logic.{◌↔◌}
use mathlib.Core.List.{List, map-id}
use Prim.Native.Nat.{ℕ}
use Rattle.clauses.specs.Clause.{Present}
use Rattle.clauses.specs.Listing.{Fits}
use Rattle.clauses.proofs.Renaming.{Image, same_names, images_included}
use Rattle.rules.specs.Compute.{Closed, closed}
use Rattle.rules.specs.Grouping.{After}
use Rattle.rules.proofs.Groupings.{after_more}
use Rattle.rules.proofs.Endings.{ends_renamed}
use Rattle.rules.proofs.Rounds.{Row}
use Rattle.rules.proofs.Closing.{Ran, with_row, with_none, closed_ran, closed_is}

module _ (v : ℕ) (cs ds : List (List ℕ)) (same : (c : List ℕ) → Present cs c ↔ Present ds c) where
  image : Image (λ x. x) (λ x. x) cs ds
  image =
      record {
        ren = same_names;
        forth = images_included (λ c. (same c).0);
        back = λ c h. (same c).1 (subst (Present ds) (map-id c) h);
      }

  row_same : (n : ℕ) (l : List ℕ) → Row v l (After cs n) → Row v l (After ds n)
  row_same n l r =
      record {
        size = r.size;
        rep = record {
          canonical = r.rep.canonical;
          sound = λ a b e. after_more (λ c. (same c).0) n a b (r.rep.sound a b e);
          complete = λ a b h. r.rep.complete a b (after_more (λ c. (same c).1) n a b h);
        };
      }

  ran_same : (limit : ℕ) {r : Closed} → Ran v cs limit r → Ran v ds limit r
  ran_same limit (with_row {n = n} {l = l} d e row) = with_row d (ends_renamed (λ x. x) (λ x. x) cs ds image limit e) (row_same n l row)
  ran_same limit (with_none e) = with_none (ends_renamed (λ x. x) (λ x. x) cs ds image limit e)

  pub closed_same : Fits v cs → Fits v ds → (limit : ℕ) → closed v cs limit ≡ closed v ds limit
  closed_same p q limit = closed_is v ds q limit (closed v cs limit) (ran_same limit (closed_ran v cs p limit))
