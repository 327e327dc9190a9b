-- The loop over the rounds with its rows: what holds between two rounds, what a round finds prepared, and what it leaves.
-- Assumes nothing.
use mathlib.Core.Path.{◌≡◌, sym, subst₂}
use mathlib.Core.Logic.{◌≢◌}
use mathlib.Core.List.{List, []}
use Rattle.std.specs.declared.ops.ControlFlow.TheVariants.{Continue}
use Prim.Native.Nat.{ℕ, ◌+◌, ◌*◌, ◌≤◌}
use native.Mathlib.Omega.{arith}
use lib.ListN.{length}
use Rattle.clauses.specs.Limit.{max_entries}
use Rattle.clauses.specs.Clause.{clauses_in}
use Rattle.closure.specs.Making.{Making, fresh}
use Rattle.closure.specs.Worklist.{AreStarts, span_of, HoldsChanged, HoldsAll, Grown}
use Rattle.closure.specs.SideTable.{SideTable, SideGroups}
use Rattle.closure.specs.KeptTables.{Tables, Basis, anew, kept}
use Rattle.closure.specs.Rounds.{Starting, Followed, Room}
use Rattle.closure.specs.declared.table.KeyTable.{KeyTable}
use Rattle.closure.specs.declared.side_table.KeptSides.{KeptSides}
use Rattle.closure.specs.declared.tally.Tally.{Tally}
use Rattle.closure.specs.declared.run.Progress.{Progress}
use Rattle.closure.proofs.Going.{found_marked}
use Rattle.closure.proofs.KeptRounds.{tables_anew, tables_kept, tables_done}

-- the tables between two rounds
pub record TablesBetween {S E B : ℕ} (row marks older leads : List ℕ) (a x : KeyTable S B) (s : KeptSides E B) : Type 0 where
  pub grown : Grown older leads
  pub tables : Tables row marks older leads (fresh 0) [] 0 a x s

-- what a round finds: the list, room for its gates, and the tables
pub record Prepared {S E B : ℕ} (row marks older old new : List ℕ) (t : Tally) (list : List ℕ) (a x : KeyTable S B) (s : KeptSides E B) : Type 0 where
  pub starts : AreStarts row list
  pub and_room : a.count + span_of row list ≤ max_entries
  pub xor_room : x.count + span_of row list ≤ max_entries
  pub side_room : 2 * s.table.count + 3 * span_of row list ≤ 3 * max_entries
  pub tables : Tables row marks old new t list 0 a x s
  pub basis : Basis row marks older old list s.table

module _ {S E B : ℕ} {row marks older old new : List ℕ} {rounds groups : ℕ} (start : Starting row marks older old new rounds groups) {list : List ℕ} {a x : KeyTable S B} {s : KeptSides E B}
    (starts : AreStarts row list) (entries : ℕ) (span : entries ≡ span_of row list) where
  -- the tables are kept
  pub prepared_kept : rounds ≢ 0 → Room a.count x.count s.table.count entries → HoldsChanged row marks older old list
      → TablesBetween row marks older old a x s → Prepared row marks older old new (fresh groups) list a x s
  prepared_kept n room holds between =
      record {
        starts = starts;
        and_room = omega (arith, room.ands_room, span);
        xor_room = omega (arith, room.xors_room, span);
        side_room = omega (arith, room.sides_room, span);
        tables = tables_kept list (found_marked start.found) between.grown start.making holds between.tables;
        basis = kept holds (start.before n) between.tables.side_table.are;
      }

  -- they are made anew
  pub prepared_anew : HoldsAll row list → entries ≡ length row → a.count ≡ 0 → x.count ≡ 0 → s.table.count ≡ 0 → SideTable row marks old s
      → Prepared row marks older old new (fresh groups) list a x s
  prepared_anew all whole p q r table =
      record {
        starts = starts;
        and_room = omega (arith, span, whole, p, start.entries);
        xor_room = omega (arith, span, whole, q, start.entries);
        side_room = omega (arith, span, whole, r, start.entries);
        tables =
            tables_anew row marks old new (fresh groups) list a x s all (record { are = λ k l. absurd (omega (arith, p, l)) })
            (record { are = λ k l. absurd (omega (arith, q, l)); once = λ k h l. absurd (omega (arith, q, l)) }) table;
        basis = anew all (omega (arith, r));
      }

-- the entries of the table, for rule 8
pub side_groups : {S B : ℕ} {row marks old : List ℕ} {sides : KeptSides S B} → SideTable row marks old sides → SideGroups row marks old sides.table
side_groups t = record { are = t.are }

-- what a round leaves for the next one
pub tables_left : {S E B : ℕ} {row marks leads next leads' older' list : List ℕ} {limit : ℕ} {p q : Progress} {t : Tally} {a x : KeyTable S B} {s : KeptSides E B} → Making (clauses_in row) leads next t
    → Tables row marks leads next t list (length list) a x s → Followed limit p t leads next leads' older' (Continue q) → TablesBetween row marks older' leads' a x s
tables_left {row = row} {marks} {leads} {next} {list = list} {a = a} {x} {s} making k (Followed.made h l c e o) =
    subst₂ (λ (i j : List ℕ). TablesBetween row marks i j a x s) (sym o) (sym e) (record { grown = making.still; tables = tables_done list k c })
