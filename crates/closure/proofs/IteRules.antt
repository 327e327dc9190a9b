-- Rules 7 and 8: what is joined for the marked ITEs is every conclusion about the ITEs of the list.
-- Assumes nothing.
use mathlib.Core.Path.{sym, ◌∙◌, ap}
use mathlib.Core.List.{List}
use Prim.Native.Nat.{ℕ}
use Rattle.clauses.specs.Code.{negate}
use Rattle.gates.specs.Gate.{IteGate}
use Rattle.gates.specs.Found.{Found}
use Rattle.gates.proofs.ItesListed.{ite_crossed}
use Rattle.closure.specs.Making.{Kernel, Rule7, Rule8}
use Rattle.closure.specs.RowJoined.{SideAt, IteAt, ItesJoined}
use Rattle.closure.specs.declared.tally.Tally.{Tally}
use Rattle.closure.proofs.Searches.{lead_false, lead_true, lead_negate}

-- an ITE of the list is marked where the row has its clauses
gate_marked : {cs : List (List ℕ)} {row marks : List ℕ} → Found cs row marks → {l c t e : ℕ} → IteGate cs l c t e → IteAt row marks l c t e
gate_marked {cs} {row} {marks} f {l} {c} {t} {e} g =
    record { then_side = side g; else_side = side (ite_crossed g); not_inverses = g.not_inverses }
  where
    side : {d u v : ℕ} → IteGate cs l d u v → SideAt row marks l d u
    side {d} {u} {v} h = let (b, p, i, x, m) = f.side_found l d u v h in record { start = b; place = p; at = i; select = x; marked = m }

module _ {cs : List (List ℕ)} {codes marks old new : List ℕ} {t : Tally} (found : Found cs codes marks) (joined : ItesJoined codes marks old new t) where
  pub rule7 : Rule7 cs old new t
  rule7 =
      record {
        ite_then = λ l c u e g h. joined.selects l c u (gate_marked found g).then_side h;
        ite_else = λ l c u e g h. joined.selects l (negate c) e (gate_marked found g).else_side (inverse c h);
        ite_same = λ l c u e g h. joined.thens l c u e (gate_marked found g) h;
      }
    where
      inverse : (c : ℕ) → Kernel old c 0 → Kernel old (negate c) 1
      inverse c h = lead_negate old c ∙ ap negate (h ∙ lead_false old) ∙ sym (lead_true old)

  pub rule8 : Rule8 cs old new t
  rule8 = record { ite_ite = λ l c u e m d x f g h ec et ee. joined.outputs l c u e m d x f (gate_marked found g) (gate_marked found h) ec et ee }
