-- A round that goes on by what the clauses and gates of a row draw: each join holds for every list that the row's marks are right for.
-- Assumes nothing.
use mathlib.Core.Path.{◌≡◌, sym, ◌∙◌}
use mathlib.Core.List.{List}
use Prim.Native.Nat.{ℕ, ◌≤◌, ◌<◌}
use lib.ListN.{length, get_or}
use Rattle.clauses.specs.Code.{net}
use Rattle.clauses.proofs.Clauses.{fits_present}
use Rattle.gates.specs.Found.{Found}
use Rattle.clauses.specs.Row.{LiteralAt}
use Rattle.clauses.proofs.Rows.{literal_in}
use Rattle.closure.specs.Making.{Drawn, Making, JoinedBy}
use Rattle.closure.specs.Joining.{join_state}
use Rattle.closure.specs.Marked.{Marked, Ready, Went}
use Rattle.closure.specs.declared.tally.Tally.{Tally}
use Rattle.closure.proofs.Making.{joins_room}
use Rattle.closure.proofs.JoinedBy.{join_carried}

-- a row that holds the whole list
pub found_marked : {cs : List (List ℕ)} {row marks : List ℕ} → Found cs row marks → Marked cs row marks
found_marked f =
    record {
      size = f.size;
      ended = f.ended;
      clause_is = f.clause_is;
      literal_once = f.literal_once;
      pair_is = f.pair_is;
      and_is = f.and_is;
      xor_is = f.xor_is;
      select_three = f.select_three;
      next_is = f.next_is;
      after_is = f.after_is;
    }

module _ {row marks old : List ℕ} where
  pub went_none : {new : List ℕ} {t : Tally} → Went row marks old new t new t
  went_none = record { making = λ cs k f m. m; later = λ a b j. j }

  pub went_then : {new new' new'' : List ℕ} {t t' t'' : Tally} → Went row marks old new t new' t' → Went row marks old new' t' new'' t'' → Went row marks old new t new'' t''
  went_then p q = record { making = λ cs k f m. q.making cs k f (p.making cs k f m); later = λ a b j. q.later a b (p.later a b j) }

  module _ {new : List ℕ} {t : Tally} (r : Ready row marks old new t) where
    pub went_making : {new' : List ℕ} {t' : Tally} → Went row marks old new t new' t' → Making r.of old new' t'
    went_making p = p.making r.of r.marked r.fits r.making

    pub ready_on : {new' : List ℕ} {t' : Tally} → Went row marks old new t new' t' → Ready row marks old new' t'
    ready_on p =
        record {
          of = r.of;
          marked = r.marked;
          fits = r.fits;
          making = went_making p;
          leads = r.leads;
          nets = r.nets;
          entries = r.entries;
        }

    pub went_size : {new' : List ℕ} {t' : Tally} → Went row marks old new t new' t' → length new' ≡ length new
    went_size p = (went_making p).size ∙ sym r.making.size

    -- the counter of joins has room
    pub ready_joins : t.joins < 4294967295
    ready_joins = joins_room r.of old new t r.making r.nets

    -- the nets of the row's literals have leads
    pub ready_net : (b p : ℕ) → LiteralAt row b p → net (get_or row p 0) ≤ length old
    ready_net b p k = (fits_present r.fits (r.marked.clause_is b k.start) (get_or row p 0) (literal_in row b p k)).1

    -- two literals have been joined that every list joins
    pub join_went : {a b : ℕ} {new' : List ℕ} {t' : Tally} → ((cs : List (List ℕ)) → Marked cs row marks → Drawn cs old a b) → net a ≤ length old → net b ≤ length old
        → record { row = new'; tally = t' } ≡ join_state new t a b → Went row marks old new t new' t' × JoinedBy new' t' a b
    join_went {a} {b} {new'} {t'} d p q e =
        let k = join_carried r.making a b (d r.of r.marked) p q new' t' e in
        (record { making = λ cs s f m. (join_carried m a b (d cs s) p q new' t' e).making; later = k.later }, k.joined)
