-- What is joined place by place stays so while a round goes on.
-- Assumes nothing.
use mathlib.Core.Path.{◌≡◌}
use mathlib.Core.Bool.{true}
use mathlib.Core.List.{List}
use Prim.Native.Nat.{ℕ}
use lib.ListN.{get_or}
use Rattle.gates.specs.Found.{is_and}
use Rattle.clauses.specs.Row.{Starts, LiteralAt}
use Rattle.closure.specs.Making.{JoinedBy, Later}
use Rattle.closure.specs.Passing.{ClauseJoined, AndJoined}
use Rattle.closure.specs.Matching.{AndAt, Alike}
use Rattle.closure.specs.RowJoined.{XorsJoined, ItesJoined, RowJoined}
use Rattle.closure.specs.declared.tally.Tally.{Tally}

module _ (row marks old new : List ℕ) (t : Tally) where
  -- rules 1 and 2
  abbrev Clauses : Type 0
  Clauses = (b : ℕ) → Starts row b → ClauseJoined row marks old new t b

  -- rule 3
  abbrev Ands : Type 0
  Ands = (b p : ℕ) → LiteralAt row b p → is_and (get_or marks p 0) ≡ true → AndJoined row old new t b p

  -- rule 4
  abbrev AndPairs : Type 0
  AndPairs = (p q : ℕ) → AndAt row marks p → AndAt row marks q → Alike row old p q → JoinedBy new t (get_or row p 0) (get_or row q 0)

module _ (row marks old new : List ℕ) (t : Tally) (new' : List ℕ) (t' : Tally) (on : Later new t new' t') where
  clauses_later : Clauses row marks old new t → Clauses row marks old new' t'
  clauses_later h b s =
      let k = h b s in (
        record { unit = λ x m f. on _ _ (k.0.unit x m f); empty_clause = λ z. on _ _ (k.0.empty_clause z) },
        λ m. on _ _ (k.1 m),
      )

  pub ands_later : Ands row marks old new t → Ands row marks old new' t'
  ands_later h b p l m =
      let k = h b p l m in
      record {
        and_false = λ r i f. on _ _ (k.and_false r i f);
        and_inverses = λ r s i j f. on _ _ (k.and_inverses r s i j f);
        and_input = λ r i f. on _ _ (k.and_input r i f);
      }

  pairs_later : AndPairs row marks old new t → AndPairs row marks old new' t'
  pairs_later h p q a b k = on _ _ (h p q a b k)

  pub xors_later : XorsJoined row marks old new t → XorsJoined row marks old new' t'
  xors_later h = record { alone = λ b p x k. on _ _ (h.alone b p x k); sums = λ b p d q x y e. on _ _ (h.sums b p d q x y e) }

  ites_later : ItesJoined row marks old new t → ItesJoined row marks old new' t'
  ites_later h =
      record {
        selects = λ l c u s k. on _ _ (h.selects l c u s k);
        thens = λ l c u e g k. on _ _ (h.thens l c u e g k);
        outputs = λ l c u e m d v f g k p q r. on _ _ (h.outputs l c u e m d v f g k p q r);
      }

  pub row_later : RowJoined row marks old new t → RowJoined row marks old new' t'
  row_later h =
      record {
        clauses = clauses_later h.clauses;
        ands = ands_later h.ands;
        and_pairs = pairs_later h.and_pairs;
        xors = xors_later h.xors;
        ites = ites_later h.ites;
      }
