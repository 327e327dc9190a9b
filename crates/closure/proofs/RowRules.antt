-- What is joined place by place is every conclusion of the rules, where the row holds the whole list.
-- Assumes nothing.
use mathlib.Core.List.{List}
use Prim.Native.Nat.{ℕ, ◌≤◌}
use native.Mathlib.Omega.{arith}
use lib.ListN.{length}
use Rattle.clauses.specs.Limit.{max_nets}
use Rattle.clauses.specs.Listing.{Fits}
use Rattle.gates.specs.Found.{Found}
use Rattle.closure.specs.Making.{Making, Rules}
use Rattle.closure.specs.Xors.{LeadRow}
use Rattle.closure.specs.RowJoined.{RowJoined}
use Rattle.closure.specs.declared.tally.Tally.{Tally}
use Rattle.closure.proofs.Clauses as Clauses
use Rattle.closure.proofs.AndOutputs as AndOutputs
use Rattle.closure.proofs.AndPairs as AndPairs
use Rattle.closure.proofs.XorRules as Xors
use Rattle.closure.proofs.IteRules as Ites

pub row_rules : {cs : List (List ℕ)} {row marks old new : List ℕ} {t : Tally} → Found cs row marks → Fits (length old) cs → LeadRow old → length old ≤ max_nets
    → Making cs old new t → RowJoined row marks old new t → Rules cs old new t
row_rules found fits leads few making h =
    record {
      one = Clauses.rule1 found making h.clauses;
      two = Clauses.rule2 found making h.clauses;
      three = AndOutputs.rule3 found h.ands;
      four = AndPairs.rule4 found h.and_pairs;
      five = Xors.rule5 found leads fits (omega arith) making h.xors;
      six = Xors.rule6 found leads fits (omega arith) making h.xors;
      seven = Ites.rule7 found h.ites;
      eight = Ites.rule8 found h.ites;
    }
