use native.Mathlib.Omega.{arith}
use native.Mathlib.Nat.{mod-lt}
use Rattle.closure.proofs.Tests.{told_true, told_false}
use Rattle.closure.proofs.Going.{ready_on}
use Rattle.closure.proofs.IteGroups.{mating_begins, mating_side, mating_less, mating_skips, mating_on, mating_ends}
use Rattle.closure.proofs.ite_groups.match_side.Goals as goal
use Rattle.closure.proofs.ite_groups.match_side.Goals.{then-is_pair, else-is_pair}

pub loop-j-init : goal.loop-j-init
loop-j-init g c = λ marks m i. mating_begins m.hubs_are m.holds (omega (arith, mod-lt c.pair_key-key.result m.hubs_are.some))

pub is_pair-requires : goal.is_pair-requires
is_pair-requires g c =
    (c.requires.2.in-three, (mating_side c.requires.1.hubs_are (c.loop-j.invariant c.requires.0 c.requires.1 c.requires.2) c.loop-j-test.true).in-three)

pub match_pair-t-requires : goal.match_pair-t-requires
match_pair-t-requires g c =
    let s = c.requires in
    let m = c.loop-j.invariant s.0 s.1 s.2 in
    (s.0, ready_on s.1.ready m.matching.went, m.matching.holds, told_true c.if-is_pair.true (c.is_pair.ensures s.0 s.2 (mating_side s.1.hubs_are m c.loop-j-test.true)))

pub loop-j-smaller : goal.loop-j-smaller
loop-j-smaller g c = mating_less c.requires.1.hubs_are (c.loop-j.invariant c.requires.0 c.requires.1 c.requires.2) c.loop-j-test.true

pub loop-j-preserved : goal.loop-j-preserved
loop-j-preserved g c =
    let l = c.loop-j.invariant in
    elim c.if-is_pair.branch [
      | then-is_pair w ↦
          rw (w.holders-is, w.new-is, w.t-is)
          (λ marks m i.
          let a = l marks m i in
          mating_on m.hubs_are a c.loop-j-test.true
          (w.match_pair-t.ensures marks (ready_on m.ready a.matching.went) a.matching.holds (told_true w.if-is_pair.true (c.is_pair.ensures marks i (mating_side m.hubs_are a c.loop-j-test.true)))))
      | else-is_pair w ↦
          rw (w.holders-is, w.new-is, w.t-is)
          (λ marks m i.
          let a = l marks m i in
          mating_skips m.hubs_are a c.loop-j-test.true (told_false w.if-is_pair.false (c.is_pair.ensures marks i (mating_side m.hubs_are a c.loop-j-test.true))))
    ]

pub returns : goal.returns
returns g c =
    λ marks m i.
    let a = c.loop-j.invariant marks m i in
    (a.matching, mating_ends m.hubs_are a (omega (arith, c.loop-j-test.false)) (rw (c.pair_key-key.ensures, c.flipped-c.ensures, c.select_of.ensures, c.output_of.ensures)))
