-- A round with tables that are kept: what the passes ask, what the round has joined, and the tables for the next one.
-- Assumes nothing.
use mathlib.Core.Path.{◌≡◌, sym, ◌∙◌}
use mathlib.Core.Logic.{inl, inr, ⊎_elim}
use mathlib.Core.Bool.{true, false, false≢true}
use mathlib.Core.List.{List, []}
use Prim.Native.Nat.{ℕ, ◌≤◌, ◌<◌}
use native.Mathlib.Omega.{arith}
use lib.ListN.{length, get_or}
use Rattle.gates.specs.Found.{is_and}
use Rattle.clauses.specs.Row.{Starts, LiteralAt}
use Rattle.closure.specs.Making.{Making, Later, fresh}
use Rattle.closure.specs.Passing.{ClauseJoined, AndJoined}
use Rattle.closure.specs.Marked.{Marked}
use Rattle.closure.specs.RowJoined.{RowJoined}
use Rattle.closure.specs.Entered.{Keeps}
use Rattle.closure.specs.Worklist.{OnList, Past, HoldsChanged, HoldsAll, LeavesDrawn, Grown}
use Rattle.closure.specs.KeptAnds.{AndTable, AndsKnown}
use Rattle.closure.specs.KeptXors.{XorTable, XorsKnown}
use Rattle.closure.specs.SideTable.{SideTable, SidesKnown, GroupJoined}
use Rattle.closure.specs.KeptTables.{Tables, Basis, anew, kept}
use Rattle.closure.specs.declared.table.KeyTable.{KeyTable}
use Rattle.closure.specs.declared.side_table.KeptSides.{KeptSides}
use Rattle.closure.specs.declared.tally.Tally.{Tally}
use Rattle.closure.proofs.Clauses.{clause_later}
use Rattle.closure.proofs.AndOutputs.{and_later}
use Rattle.closure.proofs.Worklists.{past_end}
use Rattle.closure.proofs.AndTables.{represented_on}
use Rattle.closure.proofs.Tables.{keeps_none}
use Rattle.closure.proofs.KeptXors.{xor_table_grown, xors_known_later, xors_all_joined}
use Rattle.closure.proofs.SideTables.{side_table_grown, sides_known_later}
use Rattle.closure.proofs.IteGroups.{SidesBefore, ites_all_joined}
use Rattle.closure.proofs.ListedRounds.{all_drawn, rest_drawn, clauses_all, ands_all, and_pairs_all, ands_known_later}

-- What is known stays so while the round goes on

module _ {row marks old new new' : List ℕ} {t t' : Tally} (later : Later new t new' t') {list : List ℕ} {i : ℕ} where
  pub ands_known_on : {S B : ℕ} {ands : KeyTable S B} → AndsKnown row marks old new t list i ands → AndsKnown row marks old new' t' list i ands
  ands_known_on k =
      record {
        represented = λ p a d. represented_on later (keeps_none _) (k.represented p a d);
        pairs = λ p q a b d e on like. later _ _ (k.pairs p q a b d e on like);
      }

  pub xors_known_on : {S B : ℕ} {xors : KeyTable S B} → XorsKnown row marks old new t list i xors → XorsKnown row marks old new' t' list i xors
  xors_known_on k =
      record {
        summed = λ b p x d. let s = k.summed b p x d in record { slot = s.slot; taken = s.taken; key = s.key; joined = later _ _ s.joined };
        alone = λ b p x d l. later _ _ (k.alone b p x d l);
      }

  pub sides_known_on : {S B : ℕ} {table : KeyTable S B} → SidesKnown row marks old new t list i table → SidesKnown row marks old new' t' list i table
  sides_known_on k =
      record { stood = k.stood; selects = λ s a d on c. later _ _ (k.selects s a d on c); thens = λ a b p d e on c. later _ _ (k.thens a b p d e on c) }

-- .. and for a list that is done with, whatever is on it
module _ {row marks old new : List ℕ} {t : Tally} (list : List ℕ) where
  pub tables_done : {S E B : ℕ} {a x : KeyTable S B} {s : KeptSides E B} → Tables row marks old new t list (length list) a x s → t.clash ≡ false → Tables row marks old new (fresh 0) [] 0 a x s
  tables_done {a = a} {x} {s} k c =
      record {
        and_table = k.and_table;
        xor_table = k.xor_table;
        side_table = k.side_table;
        ands_known = ands_known_on settled ands_all;
        xors_known = xors_known_on settled xors_all;
        sides_known = sides_known_on settled sides_all;
      }
    where
      settled : Later new t new (fresh 0)
      settled p q (inl e) = absurd (false≢true (sym c ∙ e))
      settled p q (inr e) = inr e

      none : {A : Type 0} {b : ℕ} → OnList [] b → A
      none o = absurd (omega (arith, o.inside))

      ands_all : AndsKnown row marks old new t [] 0 a
      ands_all = record { represented = λ p h d. k.ands_known.represented p h (past_end list _); pairs = λ p q h g d e on like. none on }

      xors_all : XorsKnown row marks old new t [] 0 x
      xors_all = record { summed = λ b p h d. k.xors_known.summed b p h (past_end list _); alone = λ b p h d. k.xors_known.alone b p h (past_end list _) }

      sides_all : SidesKnown row marks old new t [] 0 s.table
      sides_all = record { stood = λ g h d. k.sides_known.stood g h (past_end list _); selects = λ g h d on c. none on; thens = λ p q h d e on c. ⊎_elim none none on }

-- Before a round

module _ (row marks old new : List ℕ) (t : Tally) (list : List ℕ) where
  -- all clauses are on the list, and the tables are empty
  pub tables_anew : {S E B : ℕ} (a x : KeyTable S B) (s : KeptSides E B) → HoldsAll row list → AndTable row marks a
      → XorTable row marks old x
      → SideTable row marks old s → Tables row marks old new t list 0 a x s
  tables_anew a x s all p q r =
      record {
        and_table = p;
        xor_table = q;
        side_table = r;
        ands_known = record { represented = λ g h d. absurd (gone d h.placed.at.start); pairs = λ g k h l d. absurd (gone d h.placed.at.start) };
        xors_known = record { summed = λ b g h d. absurd (gone d h.place.start); alone = λ b g h d. absurd (gone d h.place.start) };
        sides_known =
            record {
              stood = λ g h d. absurd (gone d h.in-three.at.start);
              selects = λ g h d. absurd (gone d h.in-three.at.start);
              thens = λ g k h d. absurd (gone d h.first.in-three.at.start);
            };
      }
    where
      gone : {b : ℕ} → Past list 0 b → Starts row b → ⊥
      gone {b} d h = let o = all b h in d o.at (omega arith) o.inside o.is

-- the clauses that changed are on the list, and the tables are those of the round before
pub tables_kept : {cs : List (List ℕ)} {row marks older old new : List ℕ} {t : Tally} (list : List ℕ) {S E B : ℕ} {a x : KeyTable S B} {s : KeptSides E B} → Marked cs row marks → Grown older old
    → Making cs old new t → HoldsChanged row marks older old list → Tables row marks older old (fresh 0) [] 0 a x s → Tables row marks old new t list 0 a x s
tables_kept list marked grown making holds k =
    record {
      and_table = k.and_table;
      xor_table = xor_table_grown grown k.xor_table;
      side_table = side_table_grown grown k.side_table;
      ands_known = ands_known_later [] list marked grown making holds k.ands_known;
      xors_known = xors_known_later making holds k.xors_known;
      sides_known = sides_known_later marked holds k.sides_known;
    }

-- What a round has joined

leaves : {S B : ℕ} {row marks older old list : List ℕ} {s : KeyTable S B} → Basis row marks older old list s → LeavesDrawn row marks older old list
leaves {row = row} {marks} {older} {old} {list} (anew h z) = all_drawn row marks older old list h
leaves {row = row} {marks} {older} {old} {list} (kept h j e) = rest_drawn row marks older old list h j

before_sides : {S B : ℕ} {row marks older old list : List ℕ} {s s' : KeyTable S B} → Keeps s s' → Basis row marks older old list s → SidesBefore row marks older old list s.count s'
before_sides x (anew h z) = SidesBefore.first h (omega arith)
before_sides x (kept h j e) = SidesBefore.later h j.ites (λ i l. rw (x.key i l, x.value i l) (e i l))

-- the passes one after the other: rules 1 and 2, 3, 4, 5 and 6, 7, 8
pub round_joined : {cs : List (List ℕ)} {row marks older old n₁ n₂ n₃ n₄ n₅ n₆ list : List ℕ} {t₁ t₂ t₃ t₄ t₅ t₆ : Tally} {S E B : ℕ} {a x : KeyTable S B} {s : KeptSides E B} (s₀ : KeyTable E B) → Marked cs row marks
    → Making cs old n₆ t₆ → Basis row marks older old list s₀
    → Later n₁ t₁ n₂ t₂ → Later n₂ t₂ n₃ t₃ → Later n₃ t₃ n₄ t₄ → Later n₄ t₄ n₅ t₅ → Later n₅ t₅ n₆ t₆
    → ((b : ℕ) → OnList list b → ClauseJoined row marks old n₁ t₁ b)
    → ((b p : ℕ) → OnList list b → LiteralAt row b p → is_and (get_or marks p 0) ≡ true → AndJoined row old n₂ t₂ b p)
    → AndTable row marks a → AndsKnown row marks old n₃ t₃ list (length list) a
    → XorTable row marks old x → XorsKnown row marks old n₄ t₄ list (length list) x
    → SideTable row marks old s
    → SidesKnown row marks old n₅ t₅ list (length list) s.table → Keeps s₀ s.table
    → ((i : ℕ) → s₀.count ≤ i → i < s.table.count → GroupJoined row marks old n₆ t₆ s.table (get_or s.table.keys i 0))
    → RowJoined row marks old n₆ t₆ × Tables row marks old n₆ t₆ list (length list) a x s
round_joined {row = row} {marks} {older} {old} {n₁} {n₂} {n₃} {n₄} {n₅} {n₆} {list} {t₁} {t₂} {t₃} {t₄} {t₅} {t₆} {a = a} {x} {s} s₀ marked making basis l₂ l₃ l₄ l₅ l₆ clauses ands and-table and-known xor-table xor-known side-table side-known extends groups = (
  record {
    clauses = clauses_all marked making rest (λ b on. clause_later marks from₁ (clauses b on));
    ands = ands_all marked making rest (λ b p on l i. and_later from₂ (ands b p on l i));
    and_pairs = and_pairs_all marked making rest known_ands;
    xors = xors_all_joined making known_xors xor-table.once;
    ites = ites_all_joined marked making known_sides (record { are = side-table.are }) groups (before_sides extends basis);
  },
  record { and_table = and-table; xor_table = xor-table; side_table = side-table; ands_known = known_ands; xors_known = known_xors; sides_known = known_sides },
)
  where
    rest : LeavesDrawn row marks older old list
    rest = leaves basis

    from₃ : Later n₃ t₃ n₆ t₆
    from₃ p q j = l₆ p q (l₅ p q (l₄ p q j))

    from₂ : Later n₂ t₂ n₆ t₆
    from₂ p q j = from₃ p q (l₃ p q j)

    from₁ : Later n₁ t₁ n₆ t₆
    from₁ p q j = from₂ p q (l₂ p q j)

    known_ands : AndsKnown row marks old n₆ t₆ list (length list) a
    known_ands = ands_known_on from₃ and-known

    known_xors : XorsKnown row marks old n₆ t₆ list (length list) x
    known_xors = xors_known_on (λ p q j. l₆ p q (l₅ p q j)) xor-known

    known_sides : SidesKnown row marks old n₆ t₆ list (length list) s.table
    known_sides = sides_known_on l₆ side-known
