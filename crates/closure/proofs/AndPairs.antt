-- Rule 4: ANDs with equal sets of input leads.
-- Assumes nothing.
use mathlib.Core.Path.{◌≡◌, refl, sym, ◌∙◌, ap, subst}
use mathlib.Core.Logic.{◌≢◌, ◌⊎◌, inl, inr}
use mathlib.Core.Bool.{true}
use mathlib.Core.List.{List}
use Prim.Native.Nat.{ℕ, ◌%◌}
use native.Mathlib.Omega.{arith}
use native.Mathlib.Decide.{ℕ_discrete}
use lib.ListN.{get_or}
use Rattle.clauses.specs.Code.{negate}
use Rattle.clauses.proofs.Codes.{negate_negate}
use Rattle.clauses.specs.Clause.{Same}
use Rattle.clauses.proofs.Clauses.{same_sym}
use Rattle.gates.specs.Gate.{Input, AndGate}
use Rattle.gates.specs.Found.{is_and, Found}
use Rattle.clauses.specs.Row.{clause_at, Starts, LiteralAt}
use Rattle.clauses.specs.Row.{start_of}
use Rattle.rules.specs.Rule.{Concludes, Covers}
use Rattle.rules.specs.Answer.{lead_of}
use Rattle.closure.specs.Making.{Kernel, Drawn, JoinedBy, Rule4}
use Rattle.closure.specs.Passing.{lead_at}
use Rattle.closure.specs.Marked.{Marked}
use Rattle.closure.specs.Matching.{AndAt, Takes, Within, Alike}
use Rattle.closure.specs.declared.tally.Tally.{Tally}
use Rattle.clauses.proofs.Starts.{start_is}
use Rattle.closure.proofs.Going.{found_marked}
use Rattle.closure.proofs.Searches.{lead_true, lead_negate}
use Rattle.closure.proofs.AndOutputs.{InputAt, input-at, at_input, not_and, input_moved}
use Rattle.closure.proofs.JoinedBy.{drawn_new}

-- the AND of a literal's mark
pub and-at : {cs : List (List ℕ)} {row marks : List ℕ} → Marked cs row marks → (b p : ℕ) → LiteralAt row b p → is_and (get_or marks p 0) ≡ true → AndAt row marks p
and-at {row = row} marked b p k i =
    let s = start_is row b p k in
    record { placed = record { at = subst (λ (a : ℕ). LiteralAt row a p) s k; ended = marked.ended (start_of row p) (subst (Starts row) s k.start) }; mark = i }

-- whether an AND has its output at p
module _ {row marks : List ℕ} {p : ℕ} where
  pub absent_mark : get_or marks p 0 % 2 ≢ 1 → ¬ AndAt row marks p
  absent_mark n a = not_and (get_or marks p 0) n a.mark

-- Equal sets

pub alike_back : {row old : List ℕ} {p q : ℕ} → Alike row old p q → Alike row old q p
alike_back a = record { left = a.right; right = a.left }

pub alike_chain : {row old : List ℕ} {p q r : ℕ} → Alike row old p q → Alike row old q r → Alike row old p r
alike_chain a b = record { left = λ x k. b.left x (a.left x k); right = λ x k. a.right x (b.right x k) }

pub alike_same : (row old : List ℕ) (p : ℕ) → Alike row old p p
alike_same row old p = record { left = λ x k. k; right = λ x k. k }

-- Equal sets are what rule 4 asks for

-- the clause of a place
abbrev clause_of : List ℕ → ℕ → List ℕ
clause_of row p = clause_at row (start_of row p)

module _ {cs : List (List ℕ)} {row marks : List ℕ} (marked : Marked cs row marks) (old : List ℕ) where
  gate_at : (p : ℕ) → AndAt row marks p → AndGate cs (clause_of row p) (get_or row p 0)
  gate_at p a = marked.and_is (start_of row p) p a.placed.at a.mark

  within_covers : (p q : ℕ) → AndAt row marks p → AndAt row marks q → Within row old p q → Covers (Kernel old) (clause_of row p) (get_or row p 0) (clause_of row q) (get_or row q 0)
  within_covers p q a d w r i = go (input-at row old (start_of row p) p a.placed.at.start r i)
    where
      go : InputAt row old (start_of row p) p r → Kernel old r 1 ⊎ ((s : ℕ) × Input (clause_of row q) (get_or row q 0) s × Kernel old r s)
      go k = by (ℕ_discrete (lead_at row old k.place) 0)
        where
          lead : (x : ℕ) → lead_at row old k.place ≡ x → lead_of old r ≡ negate x
          lead x h = sym (negate_negate (lead_of old r)) ∙ ap negate (sym k.lead ∙ h)

          by : Dec (lead_at row old k.place ≡ 0) → Kernel old r 1 ⊎ ((s : ℕ) × Input (clause_of row q) (get_or row q 0) s × Kernel old r s)
          by (yes z) = inl (lead 0 z ∙ sym (lead_true old))
          by (no n) =
              let t = (w (lead_at row old k.place) (record { place = k.place; at = k.at; apart = k.apart; lead = refl }, n)).0 in
              inr (
                negate (get_or row t.place 0),
                at_input marked (start_of row q) q d.placed.at t.place t.at t.apart,
                lead (lead_at row old t.place) (sym t.lead) ∙ sym (lead_negate old (get_or row t.place 0)),
              )

  covers_within : (p q : ℕ) → AndAt row marks p → AndAt row marks q → Covers (Kernel old) (clause_of row p) (get_or row p 0) (clause_of row q) (get_or row q 0) → Within row old p q
  covers_within p q a d c x (k, n) =
      go (c (negate (get_or row k.place 0)) (at_input marked (start_of row p) p a.placed.at k.place k.at k.apart))
    where
      lead : lead_of old (negate (get_or row k.place 0)) ≡ negate x
      lead = lead_negate old (get_or row k.place 0) ∙ ap negate k.lead

      go : Kernel old (negate (get_or row k.place 0)) 1 ⊎ ((s : ℕ) × Input (clause_of row q) (get_or row q 0) s × Kernel old (negate (get_or row k.place 0)) s) → Takes row old q x
      go (inl h) = absurd (n (omega (arith, sym lead ∙ h ∙ lead_true old)))
      go (inr (s, i, h)) =
          let o = input-at row old (start_of row q) q d.placed.at.start s i in
          (record { place = o.place; at = o.at; apart = o.apart; lead = o.lead ∙ ap negate (sym h ∙ lead) ∙ negate_negate x }, n)

  pub alike_drawn : (p q : ℕ) → AndAt row marks p → AndAt row marks q → Alike row old p q → Drawn cs old (get_or row p 0) (get_or row q 0)
  alike_drawn p q a d k =
      drawn_new cs old _ _ (Concludes.and_and (gate_at p a) (gate_at q d) (within_covers p q a d k.left) (within_covers q p d a k.right))

-- rule 4 of a list, from the pairs of ANDs of its row
pub rule4 : {cs : List (List ℕ)} {row marks old new : List ℕ} {t : Tally} → Found cs row marks
    → ((p q : ℕ) → AndAt row marks p → AndAt row marks q → Alike row old p q → JoinedBy new t (get_or row p 0) (get_or row q 0)) → Rule4 cs old new t
rule4 {cs} {row} {marks} {old} {new} {t} found joined = record { and_and = λ c d l m g k x y. go (entry c l g) (entry d m k) x y }
  where
    -- an AND by its place
    Entry : List ℕ → ℕ → Type 0
    Entry c l = (q : ℕ) × AndAt row marks q × Same c (clause_of row q) × (get_or row q 0 ≡ l)

    entry : (c : List ℕ) (l : ℕ) → AndGate cs c l → Entry c l
    entry c l g =
        let f = found.and_found c l g in
        let s = start_is row f.0 f.1 f.2 in (
          f.1,
          and-at (found_marked found) f.0 f.1 f.2 f.3,
          subst (λ (b : ℕ). Same c (clause_at row b)) s f.4,
          f.5,
        )

    cover : {c d : List ℕ} {l m : ℕ} (a : Entry c l) (b : Entry d m) → Covers (Kernel old) c l d m
        → Covers (Kernel old) (clause_of row a.0) (get_or row a.0 0) (clause_of row b.0) (get_or row b.0 0)
    cover {d = d} {m = m} a b f r i = by (f r (input_moved (same_sym a.2) (sym a.3) i))
      where
        by : Kernel old r 1 ⊎ ((s : ℕ) × Input d m s × Kernel old r s) → Kernel old r 1 ⊎ ((s : ℕ) × Input (clause_of row b.0) (get_or row b.0 0) s × Kernel old r s)
        by (inl e) = inl e
        by (inr (s, j, e)) = inr (s, input_moved b.2 b.3 j, e)

    go : {c d : List ℕ} {l m : ℕ} → Entry c l → Entry d m → Covers (Kernel old) c l d m → Covers (Kernel old) d m c l → JoinedBy new t l m
    go {l = l} {m = m} a b x y =
        let marked = found_marked found in
        let k : Alike row old a.0 b.0 = record {
          left = covers_within marked old a.0 b.0 a.1 b.1 (cover a b x);
          right = covers_within marked old b.0 a.0 b.1 a.1 (cover b a y);
        } in
        subst (λ (z : ℕ). JoinedBy new t z m) a.3 (subst (JoinedBy new t (get_or row a.0 0)) b.3 (joined a.0 b.0 a.1 b.1 k))
