use mathlib.Core.Path.{refl, sym, ◌∙◌}
use mathlib.Core.List.{List}
use Prim.Native.Nat.{ℕ}
use native.Mathlib.Omega.{arith}
use lib.ListN.{length, take}
use Rattle.clauses.specs.Clause.{clauses_in}
use Rattle.closure.proofs.Holding.{unset_at}
use Rattle.closure.specs.Making.{Making, fresh}
use Rattle.closure.specs.RowJoined.{RowJoined}
use Rattle.closure.specs.KeptTables.{Tables}
use Rattle.closure.specs.Rounds.{Starting}
use Rattle.closure.proofs.Going.{found_marked, went_then, ready_on}
use Rattle.closure.proofs.RoundStarts.{found_nets, row_ready, row_making}
use Rattle.closure.proofs.Loop.{between_sizes, loop_begins, next_starts, round_followed, fewer_left}
use Rattle.closure.proofs.KeptRounds.{ands_known_on, xors_known_on, sides_known_on, round_joined}
use Rattle.closure.proofs.KeptLoop.{Prepared, prepared_kept, prepared_anew, side_groups, tables_left}
use Rattle.closure.proofs.run.run.Goals as goal
use Rattle.closure.proofs.run.run.Goals.{Joined-is_anew, After-by_groups-t, then-is_anew, else-is_anew}

-- Where the passes begin: the round can be made
start : (j : Joined-is_anew) → Starting j.args.codes.now j.args.marks.now j.loop-work.older j.loop-work.leads j.loop-work.next j.loop-work.s.rounds j.loop-work.s.groups
start j = let s = j.requires in next_starts s.found s.fits s.leads_len_bound.0 s.leads_len_bound.1 j.loop-work.invariant.0

-- the list that it goes over
abbrev list_at : Joined-is_anew → List ℕ
list_at j = take j.if-is_anew.work.clauses j.if-is_anew.list

-- it finds the list and the tables prepared
prepared : (j : Joined-is_anew)
    → Prepared j.args.codes.now j.args.marks.now j.loop-work.older j.loop-work.leads j.loop-work.next (fresh j.loop-work.s.groups) (list_at j) j.if-is_anew.ands j.if-is_anew.xors j.if-is_anew.sides
prepared j =
    let e = rw j.index_row-occurrences.ensures.row at j.list_changed-work.ensures in
    elim j.if-is_anew.branch [
      | then-is_anew w ↦
          let f = w.list_all-work.ensures in
          let c = w.clear-then-is_anew-2.ensures in
          rw (w.list-is, w.ands-is, w.xors-is, w.sides-is, w.work-is)
          (prepared_anew (start j) f.list.1 _ f.list.2 f.holds f.room w.clear.ensures w.clear-then-is_anew.ensures c.count (c.table _ _ _))
      | else-is_anew w ↦
          let k = j.is_anew.ensures w.if-is_anew.false in
          rw (w.list-is, w.ands-is, w.xors-is, w.sides-is, w.work-is)
          (prepared_kept (start j) e.list.1 _ e.list.2 k.0 k.1 (e.holds _ j.index_row-occurrences.ensures.index) (j.loop-work.invariant.3 k.0))
    ]

pub index_row-occurrences-requires-clause-by_index : goal.index_row-occurrences-requires-clause-by_index
index_row-occurrences-requires-clause-by_index c = λ q. omega (arith, found_nets c.requires.found c.requires.fits q, c.requires.leads_len_bound.0)

pub chain-requires : goal.chain-requires
chain-requires c = (omega arith, ((_, found_marked c.requires.found), (omega arith, omega (arith, c.requires.leads_len_bound.1), omega arith)))

pub loop-work-init : goal.loop-work-init
loop-work-init c =
    let p = c.requires.leads_value in
    (loop_begins _ _ _ _ _ _ _ p.0 p.1 p.2 refl refl, λ q. unset_at 16384 q, (λ x. unset_at 2050 x, omega arith), λ z. absurd (z refl))

pub list_changed-work-requires-clause-older_len : goal.list_changed-work-requires-clause-older_len
list_changed-work-requires-clause-older_len c =
    let s = c.requires in
    let z = between_sizes c.loop-work.invariant.0 in
    rw c.index_row-occurrences.ensures.row (z.2 ∙ sym z.0, λ q. omega (arith, found_nets s.found s.fits q, z.0), omega (arith, z.0, s.leads_len_bound.0, c.index_row-occurrences.ensures.nets))

pub by_clauses-units-requires-clause-ready : goal.by_clauses-units-requires-clause-ready
by_clauses-units-requires-clause-ready c = row_ready (start (goal.at.by_clauses-units-requires-clause-ready c).Joined-is_anew)

pub by_clauses-units-requires-clause-are_starts : goal.by_clauses-units-requires-clause-are_starts
by_clauses-units-requires-clause-are_starts c = (prepared (goal.at.by_clauses-units-requires-clause-are_starts c).Joined-is_anew).starts

pub by_ands-outputs-requires-clause-ready : goal.by_ands-outputs-requires-clause-ready
by_ands-outputs-requires-clause-ready c = ready_on (row_ready (start (goal.at.by_ands-outputs-requires-clause-ready c).Joined-is_anew)) c.by_clauses-units.ensures.went

pub by_ands-outputs-requires-clause-are_starts : goal.by_ands-outputs-requires-clause-are_starts
by_ands-outputs-requires-clause-are_starts c = (prepared (goal.at.by_ands-outputs-requires-clause-are_starts c).Joined-is_anew).starts

pub by_and_pairs-pairs-requires : goal.by_and_pairs-pairs-requires
by_and_pairs-pairs-requires c =
    let j = (goal.at.by_and_pairs-pairs-requires c).Joined-is_anew in
    let p = prepared j in
    let w = went_then c.by_clauses-units.ensures.went c.by_ands-outputs.ensures.went in (
      omega arith,
      (
        ready_on (row_ready (start j)) w,
        (
          p.starts,
          (
            p.tables.and_table,
            (
              ands_known_on w.later p.tables.ands_known,
              (omega (arith, p.and_room), omega arith, c.by_ands-outputs.ensures.blank),
            ),
          ),
        ),
      ),
    )

pub by_xors-sums-requires : goal.by_xors-sums-requires
by_xors-sums-requires c =
    let j = (goal.at.by_xors-sums-requires c).Joined-is_anew in
    let p = prepared j in
    let w = went_then (went_then c.by_clauses-units.ensures.went c.by_ands-outputs.ensures.went) c.by_and_pairs-pairs.ensures.went in
    (omega arith, (ready_on (row_ready (start j)) w, (p.starts, (p.tables.xor_table, (xors_known_on w.later p.tables.xors_known, (omega (arith, p.xor_room), omega arith))))))

pub by_sides-mates-requires : goal.by_sides-mates-requires
by_sides-mates-requires c =
    let j = (goal.at.by_sides-mates-requires c).Joined-is_anew in
    let p = prepared j in
    let w = went_then (went_then (went_then c.by_clauses-units.ensures.went c.by_ands-outputs.ensures.went) c.by_and_pairs-pairs.ensures.went) c.by_xors-sums.ensures.went in
    (omega arith, (ready_on (row_ready (start j)) w, (p.starts, (p.tables.side_table, (sides_known_on w.later p.tables.sides_known, (omega (arith, p.side_room), omega arith))))))

pub by_groups-t-requires : goal.by_groups-t-requires
by_groups-t-requires c =
    let j = (goal.at.by_groups-t-requires c).Joined-is_anew in
    let w = went_then (went_then (went_then (went_then c.by_clauses-units.ensures.went c.by_ands-outputs.ensures.went) c.by_and_pairs-pairs.ensures.went) c.by_xors-sums.ensures.went) c.by_sides-mates.ensures.went in
    let z = between_sizes c.loop-work.invariant.0 in
    (omega arith, (omega arith, ((_, ready_on (row_ready (start j)) w, side_groups c.by_sides-mates.ensures.table, c.chain.ensures), omega (arith, z.0, c.requires.leads_len_bound.0))))

pub loop-work-smaller : goal.loop-work-smaller
loop-work-smaller c = fewer_left c.in-Continue.ensures

-- what the passes have made
record Made (d : After-by_groups-t) : Type 0 where
  making : Making (clauses_in d.args.codes.now) d.loop-work.leads d.by_groups-t.new.new d.by_groups-t.result
  joined : RowJoined d.args.codes.now d.args.marks.now d.loop-work.leads d.by_groups-t.new.new d.by_groups-t.result
  tables : Tables d.args.codes.now d.args.marks.now d.loop-work.leads d.by_groups-t.new.new d.by_groups-t.result (take d.if-is_anew.work.clauses d.if-is_anew.list) (length (take d.if-is_anew.work.clauses d.if-is_anew.list)) d.by_and_pairs-pairs.new.ands d.by_xors-sums.new.xors d.by_sides-mates.new.sides

made : (d : After-by_groups-t) → Starting d.args.codes.now d.args.marks.now d.loop-work.older d.loop-work.leads d.loop-work.next d.loop-work.s.rounds d.loop-work.s.groups
    → Prepared d.args.codes.now d.args.marks.now d.loop-work.older d.loop-work.leads d.loop-work.next (fresh d.loop-work.s.groups) (take d.if-is_anew.work.clauses d.if-is_anew.list) d.if-is_anew.ands d.if-is_anew.xors d.if-is_anew.sides
    → Made d
made d begins p =
    let u = d.by_clauses-units.ensures in
    let o = d.by_ands-outputs.ensures in
    let a = d.by_and_pairs-pairs.ensures in
    let x = d.by_xors-sums.ensures in
    let m = d.by_sides-mates.ensures in
    let w = went_then (went_then (went_then (went_then u.went o.went) a.went) x.went) m.went in
    let g = d.by_groups-t.ensures _ (ready_on (row_ready begins) w) (side_groups m.table) d.chain.ensures in
    let making = row_making begins (went_then w g.0) in
    let both =
    round_joined _ (found_marked d.requires.found) making p.basis o.went.later a.went.later x.went.later m.went.later g.0.later u.clauses o.ands a.table a.known x.table x.known m.table m.known m.stays g.1 in
    record { making = making; joined = both.0; tables = both.1 }

pub loop-work-preserved : goal.loop-work-preserved
loop-work-preserved c =
    let s = c.requires in
    let j = (goal.at.loop-work-preserved c).Joined-is_anew in
    let m = made (goal.at.loop-work-preserved c).After-by_groups-t (start j) (prepared j) in (
      round_followed s.found s.fits s.leads_len_bound.0 s.leads_len_bound.1 c.loop-work.invariant.0 m.making m.joined c.in-Continue.ensures,
      c.list_changed-work.ensures.seen,
      c.by_and_pairs-pairs.ensures.blank,
      λ z. tables_left m.making m.tables c.in-Continue.ensures,
    )

pub returns-in-Break-clause-leads_after : goal.returns-in-Break-clause-leads_after
returns-in-Break-clause-leads_after c =
    let s = c.requires in
    let j = (goal.at.returns-in-Break-clause-leads_after c).Joined-is_anew in
    let m = made (goal.at.returns-in-Break-clause-leads_after c).After-by_groups-t (start j) (prepared j) in
    (round_followed s.found s.fits s.leads_len_bound.0 s.leads_len_bound.1 c.loop-work.invariant.0 m.making m.joined c.in-Break.ensures).leads_are

pub returns-in-Break-clause-groups_value : goal.returns-in-Break-clause-groups_value
returns-in-Break-clause-groups_value c =
    let s = c.requires in
    let j = (goal.at.returns-in-Break-clause-groups_value c).Joined-is_anew in
    let m = made (goal.at.returns-in-Break-clause-groups_value c).After-by_groups-t (start j) (prepared j) in
    (round_followed s.found s.fits s.leads_len_bound.0 s.leads_len_bound.1 c.loop-work.invariant.0 m.making m.joined c.in-Break.ensures).groups_are
