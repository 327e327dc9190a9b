use mathlib.Core.Path.{◌≡◌, refl, sym}
use mathlib.Core.Bool.{Bool, true, false, not}
use native.Mathlib.Omega.{arith}
use Rattle.closure.proofs.Holding.{ready_low}
use Rattle.closure.proofs.Tables.{keeps_none}
use Rattle.closure.proofs.AndTables.{search_met, search_known, entered_known, entered_table}
use Rattle.closure.proofs.and_pairs.match_and.Goals as goal
use Rattle.closure.proofs.and_pairs.match_and.Goals.{then-not-found, else-not-found}

is_known : (b : Bool) → not b ≡ false → b ≡ true
is_known true e = refl
is_known false e = sym e

pub key_of-key-requires : goal.key_of-key-requires
key_of-key-requires g c = let s = c.requires in (s.by_index.3.placed, ready_low s.by_index.1, s.count_in_bounds.2)

pub returns-clause-matched : goal.returns-clause-matched
returns-clause-matched g c =
    λ marks r t a. (
      (c.join_alike-found.ensures.searched marks r t a).went,
      elim c.if-not-found.branch [
        | then-not-found w ↦ rw w.ands-is (entered_table w.enter.ensures t a)
        | else-not-found w ↦ rw w.ands-is t
      ],
    )

pub returns-clause-met : goal.returns-clause-met
returns-clause-met g c = let s = c.requires.by_index in search_met c.key_of-key.ensures.key (c.join_alike-found.ensures.searched s.0 s.1 s.2 s.3)

pub returns-clause-known : goal.returns-clause-known
returns-clause-known g c =
    let s = c.requires.by_index in
    elim c.if-not-found.branch [
      | then-not-found w ↦ rw w.ands-is (entered_known w.enter.ensures _ _ c.key_of-key.ensures.key)
      | else-not-found w ↦ rw w.ands-is (search_known c.key_of-key.ensures.key (c.join_alike-found.ensures.searched s.0 s.1 s.2 s.3) (is_known _ w.if-not-found.false))
    ]

pub returns-clause-stays : goal.returns-clause-stays
returns-clause-stays g c =
    elim c.if-not-found.branch [
      | then-not-found w ↦ rw w.ands-is (w.enter.ensures.keeps, omega (arith, w.enter.ensures.count))
      | else-not-found w ↦ rw w.ands-is (keeps_none _, omega arith)
    ]
