-- Rule 7 for the sides by number: each join is a conclusion, and an entry of the table that is a mate is found.
-- Assumes nothing.
use mathlib.Core.Path.{◌≡◌, sym, ◌∙◌, ap}
use mathlib.Core.Logic.{◌≢◌}
use mathlib.Core.List.{List}
use Prim.Native.Nat.{ℕ, ◌<◌}
use native.Mathlib.Omega.{arith}
use Rattle.clauses.specs.Code.{negate}
use Rattle.clauses.proofs.Codes.{negate_other}
use Rattle.rules.specs.Rule.{Concludes}
use Rattle.rules.specs.Answer.{lead_of}
use Rattle.closure.specs.Making.{Kernel, Drawn, JoinedBy}
use Rattle.closure.specs.Joining.{join_state}
use Rattle.closure.specs.Marked.{Marked, Ready, Went}
use Rattle.closure.specs.IteSides.{select_at, output_at, then_at, IsSide, pair_key}
use Rattle.closure.specs.SideTable.{SideSlot, SideTable, IsEntry}
use Rattle.closure.specs.declared.side_table.KeptSides.{KeptSides}
use Rattle.closure.specs.declared.tally.Tally.{Tally}
use Rattle.closure.proofs.JoinedBy.{drawn_new}
use Rattle.closure.proofs.Going.{join_went}
use Rattle.closure.proofs.Searches.{lead_negate, lead_true}
use Rattle.closure.proofs.Sides.{pair_once, side_gate, pair_gate, output_net, then_net}

module _ {row marks old new : List ℕ} {t : Tally} (r : Ready row marks old new t) {s : ℕ} (i : IsSide row marks s) where
  -- By the select

  select_drawn : lead_of old (select_at row s) ≡ 1 → (cs : List (List ℕ)) → Marked cs row marks → Drawn cs old (output_at row s) (then_at row s)
  select_drawn e cs m = drawn_new cs old (output_at row s) (then_at row s) (Concludes.ite_then (side_gate m i).1 (e ∙ sym (lead_true old)))

  pub side_selected : {x a b : ℕ} {new' : List ℕ} {t' : Tally} → x ≡ lead_of old (select_at row s) → x ≡ 1 → a ≡ output_at row s → b ≡ then_at row s
      → record { row = new'; tally = t' } ≡ join_state new t a b → Went row marks old new t new' t' × JoinedBy new' t' (output_at row s) (then_at row s)
  side_selected d e p q j = join_went r (select_drawn (sym d ∙ e)) (output_net r i) (then_net r i) (rw (p, q) at j)

  -- By the literals t

  module _ {j : ℕ} (k : IsSide row marks j) (selects : select_at row j ≡ negate (select_at row s)) (outputs : output_at row j ≡ output_at row s)
      (thens : Kernel old (then_at row s) (then_at row j)) where
    not_inverses : then_at row j ≢ negate (then_at row s)
    not_inverses e = negate_other (lead_of old (then_at row s)) (sym (lead_negate old (then_at row s)) ∙ ap (lead_of old) (sym e) ∙ sym thens)

    mate_drawn : (cs : List (List ℕ)) → Marked cs row marks → Drawn cs old (output_at row s) (then_at row s)
    mate_drawn cs m =
        drawn_new cs old (output_at row s) (then_at row s)
        (Concludes.ite_same (pair_gate m (record { first = i; second = k; selects = selects; outputs = outputs; not_inverses = not_inverses })) thens)

-- Mates in the table

module _ {S B : ℕ} {row marks old new : List ℕ} {t : Tally} {s : ℕ} {sides : KeptSides S B} (r : Ready row marks old new t) (table : SideTable row marks old sides) (is_side : IsSide row marks s) where
  slot_kernel : {like j : ℕ} → SideSlot row marks old like j → like ≡ pair_key (lead_of old (negate (select_at row s))) (lead_of old (then_at row s))
      → Kernel old (then_at row s) (then_at row j)
  slot_kernel {j = j} o e = sym (r.leads.again (then_at row s)) ∙ ap (lead_of old) (sym same.1) ∙ sym o.then_is
    where
      low : lead_of old (then_at row s) < 4294967296
      low = omega (arith, r.leads.low (then_at row s), then_net r is_side, r.nets)

      same : (o.select ≡ lead_of old (negate (select_at row s))) × (o.then ≡ lead_of old (then_at row s))
      same = pair_once o.select o.then (lead_of old (negate (select_at row s))) (lead_of old (then_at row s)) o.then_low low (sym o.like_is ∙ e)

  module _ {c l u like : ℕ} (ec : c ≡ negate (select_at row s)) (el : l ≡ output_at row s) (eu : u ≡ then_at row s) (ek : like ≡ pair_key (lead_of old c) (lead_of old u)) where
    key_is : like ≡ pair_key (lead_of old (negate (select_at row s))) (lead_of old (then_at row s))
    key_is = ek ∙ rw (ec, eu)

    pub mate_joined : {k : ℕ} → k < sides.table.count → IsEntry row sides.table c l like k → {new' : List ℕ} {t' : Tally} → record { row = new'; tally = t' } ≡ join_state new t l u
        → Went row marks old new t new' t' × JoinedBy new' t' (output_at row s) (then_at row s)
    mate_joined {k} h e j =
        let w = table.are k h in
        join_went r
        (mate_drawn r is_side w.is-side (e.select ∙ ec) (e.output ∙ el) (slot_kernel w (e.key ∙ key_is)))
        (output_net r is_side) (then_net r is_side) (rw (el, eu) at j)
