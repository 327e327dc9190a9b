use Rattle.closure.proofs.Going.{ready_on, ready_joins}
use Rattle.closure.proofs.Holding.{ready_low}
use Rattle.closure.proofs.Tests.{told_true, told_false}
use Rattle.closure.proofs.AndTables.{search_begins, search_ends, search_inside, search_skips, search_joins}
use Rattle.closure.proofs.and_pairs.join_alike.Goals as goal
use Rattle.closure.proofs.and_pairs.join_alike.Goals.{then-is_alike, else-is_alike}

pub loop-at-init : goal.loop-at-init
loop-at-init g c = (λ marks r t a. search_begins _ c.last_slot-at.ensures, c.requires.blank_2)

pub is_alike-requires-clause-placed : goal.is_alike-requires-clause-placed
is_alike-requires-clause-placed g c =
    let q = c.requires.by_index in
    let w = rw c.in-Some.is at (c.loop-at.invariant.0 q.0 q.1 q.2 q.3) in
    ((q.2.are c.in-Some.k (search_inside w)).placed, q.3.placed)

pub is_alike-requires-clause-low : goal.is_alike-requires-clause-low
is_alike-requires-clause-low g c = (ready_low c.requires.by_index.1, c.loop-at.invariant.1)

pub join-t-requires : goal.join-t-requires
join-t-requires g c = let q = c.requires.by_index in ready_joins (ready_on q.1 (c.loop-at.invariant.0 q.0 q.1 q.2 q.3).went)

pub loop-at-preserved : goal.loop-at-preserved
loop-at-preserved g c =
    let v = c.loop-at.invariant in
    let o = c.slot_before-at.ensures in
    let told = c.is_alike.ensures.told in (
      elim c.if-is_alike.branch [
        | then-is_alike b ↦
            rw (b.new-is, b.t-is, b.known-is)
            (λ marks r t a. search_joins (rw c.in-Some.is at (v.0 marks r t a)) _ o r t a (told_true b.if-is_alike.true told) _ _ b.join-t.ensures)
        | else-is_alike b ↦
            rw (b.new-is, b.t-is, b.known-is) (λ marks r t a. search_skips (rw c.in-Some.is at (v.0 marks r t a)) _ o (told_false b.if-is_alike.false told))
      ],
      c.is_alike.ensures.blank,
    )

pub returns-clause-searched : goal.returns-clause-searched
returns-clause-searched g c = λ marks r t a. search_ends (rw c.in_default.is at (c.loop-at.invariant.0 marks r t a))
