-- One computed round makes the next grouping of the rules.
-- Assumes nothing.
use mathlib.Core.Path.{◌≡◌, ◌∙◌, subst, subst⁻¹}
use mathlib.Core.Logic.{inl, inr}
use mathlib.Core.Bool.{Bool, true}
use mathlib.Core.List.{List, Memᴰ}
use Prim.Native.Nat.{ℕ, ◌≤◌}
use native.Mathlib.Omega.{arith}
use lib.ListN.{length}
use borrow.Author.Tests.{eq-eqb, eqb-true}
use Rattle.clauses.specs.Code.{negate, net}
use Rattle.clauses.specs.Clause.{Mem, Present}
use Rattle.clauses.specs.Listing.{Fits}
use Rattle.clauses.proofs.Lists.{in_first, in_second, in_third}
use Rattle.clauses.proofs.Codes.{net_negate}
use Rattle.clauses.proofs.Clauses.{fits_present}
use Rattle.clauses.specs.Sign.{plus, flip}
use Rattle.gates.specs.Gate.{Input, XorGate}
use Rattle.clauses.proofs.Signs.{net_flip}
use Rattle.gates.proofs.Xors.{xor_fits}
use Rattle.rules.specs.Rule.{Concludes}
use Rattle.rules.specs.Grouping.{Closure, Next}
use Rattle.rules.specs.Answer.{lead_of}
use Rattle.rules.specs.Compute.{Conclusion, gates_of, conclusions, Grouping, by_leads, everything, join_all, same_lead, round}
use Rattle.rules.proofs.Leads.{Represents, kernel_closed}
use Rattle.rules.proofs.Merging.{Sound, Allowed, Result, join-all}
use Rattle.rules.proofs.ConclusionsSound.{conclusions_sound}
use Rattle.rules.proofs.ConclusionsComplete.{conclusions_complete}

same_lead_is : (leads : List ℕ) (a b : ℕ) → same_lead leads a b ≡ true → lead_of leads a ≡ lead_of leads b
unfolding same_lead
same_lead_is leads a b h = eqb-true (lead_of leads a) (lead_of leads b) h

is_same_lead : (leads : List ℕ) (a b : ℕ) → lead_of leads a ≡ lead_of leads b → same_lead leads a b ≡ true
unfolding same_lead
is_same_lead leads a b h = eq-eqb (lead_of leads a) (lead_of leads b) h

-- a row of leads for nets 1 to V that represents a grouping
pub record Row (v : ℕ) (leads : List ℕ) (G : ℕ → ℕ → Type 0) : Type 0 where
  pub size : length leads ≡ v
  pub rep : Represents (lead_of leads) G

-- what a round over G has made
abbrev pub Made : ℕ → List (List ℕ) → (ℕ → ℕ → Type 0) → Grouping → Type 0
Made v cs G (by_leads l) = Row v l (Closure (Next cs G))
Made v cs G everything = Closure (Next cs G) 1 0

module _ (v : ℕ) (cs : List (List ℕ)) (fit : Fits v cs) where
  flip_high : (b : Bool) (m : ℕ) → net m ≤ v → net (flip b m) ≤ v
  flip_high b m h = subst⁻¹ (λ (n : ℕ). n ≤ v) (net_flip b m) h

  clause_high : {c : List ℕ} → Present cs c → (x : ℕ) → Mem x c → net x ≤ v
  clause_high h x m = (fits_present fit h x m).1

  input_high : {c : List ℕ} {l r : ℕ} → Present cs c → Input c l r → net r ≤ v
  input_high {c} {l} {r} h i = subst (λ (n : ℕ). n ≤ v) (net_negate r) (clause_high h (negate r) i.inverse)

  xor_high : {ls : List ℕ} {odd : Bool} → XorGate cs ls odd → (m : ℕ) → Mem m ls → net m ≤ v
  xor_high g m k = (xor_fits fit g m k).1

  -- a conclusion joins nets from 1 to V, and constants
  pub concludes_high : {G : ℕ → ℕ → Type 0} {a b : ℕ} → Concludes cs G a b → (net a ≤ v) × (net b ≤ v)
  concludes_high (Concludes.unit {c = c} {k = k} h m o) = (clause_high h k m, omega arith)
  concludes_high (Concludes.empty_clause h) = (omega arith, omega arith)
  concludes_high (Concludes.equal {a = a} {b = b} h k) = (clause_high h a in_first, clause_high k b in_second)
  concludes_high (Concludes.and_false g i h) = (clause_high g.clause _ g.output, omega arith)
  concludes_high (Concludes.and_inverses g i j h) = (clause_high g.clause _ g.output, omega arith)
  concludes_high (Concludes.and_input g i h) = (clause_high g.clause _ g.output, input_high g.clause i)
  concludes_high (Concludes.and_and g h x y) = (clause_high g.clause _ g.output, clause_high h.clause _ h.output)
  concludes_high (Concludes.xor_constant {k = k} {odd = odd} {p = p} g h) = (xor_high g k in_first, flip_high (plus odd p) 0 (omega arith))
  concludes_high (Concludes.xor_literals {k = k} {m = m} {odd = odd} {p = p} g h) = (xor_high g k in_first, flip_high (plus odd p) m (xor_high g m in_second))
  concludes_high (Concludes.xor_xor {k = k} {m = m} {odd = o} {odd' = q} {p = p} g h r) = (xor_high g k in_first, flip_high (plus (plus o q) p) m (xor_high h m in_first))
  concludes_high (Concludes.ite_then g h) = (clause_high g.then_down _ in_second, clause_high g.then_up _ in_third)
  concludes_high (Concludes.ite_else g h) = (clause_high g.then_down _ in_second, clause_high g.else_up _ in_third)
  concludes_high (Concludes.ite_same g h) = (clause_high g.then_down _ in_second, clause_high g.then_up _ in_third)
  concludes_high (Concludes.ite_ite g h x y z) = (clause_high g.then_down _ in_second, clause_high h.then_down _ in_second)

  -- one round is the closure of the grouping and its conclusions
  pub round_made : (leads : List ℕ) (G : ℕ → ℕ → Type 0) → Row v leads G → Made v cs G (round cs (gates_of v cs) leads)
  unfolding round
  round_made leads G r = finish (join_all pairs (by_leads leads)) (join-all (Next cs G) pairs leads start allowed)
    where
      pairs : List Conclusion
      pairs = conclusions cs (gates_of v cs) (same_lead leads)

      says : (p : Conclusion) → Memᴰ p pairs → Concludes cs G p.one p.two
      says = conclusions_sound (same_lead leads) G (λ a b h. r.rep.sound a b (same_lead_is leads a b h)) cs v

      start : Sound (Next cs G) leads
      start = record { canonical = r.rep.canonical; sound = λ a b e. Closure.base (inl (r.rep.sound a b e)) }

      inside : {n : ℕ} → n ≤ v → n ≤ length leads
      inside h = rw r.size h

      allowed : Allowed (Next cs G) (length leads) pairs
      allowed =
          record {
            may = λ p m. Closure.base (inr (says p m));
            first_in = λ p m. inside (concludes_high (says p m)).0;
            second_in = λ p m. inside (concludes_high (says p m)).1;
          }

      finish : (g : Grouping) → Result (Next cs G) leads pairs g → Made v cs G g
      finish everything h = h
      finish (by_leads l) h =
          record {
            size = h.coarser.size ∙ r.size;
            rep = record { canonical = h.row.canonical; sound = h.row.sound; complete = λ a b c. kernel_closed (lead_of l) h.row.canonical (Next cs G) joins c };
          }
        where
          joins : (a b : ℕ) → Next cs G a b → lead_of l a ≡ lead_of l b
          joins a b (inl g) = h.coarser.still a b (r.rep.complete a b g)
          joins a b (inr c) =
              conclusions_complete (same_lead leads) G (λ x y g. is_same_lead leads x y (r.rep.complete x y g)) (lead_of leads) r.rep cs v fit
              (lead_of l) h.row.canonical h.joins c
