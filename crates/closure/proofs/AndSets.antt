-- The sets of ANDs' input leads: the tests and the signature that the program computes.
-- Assumes nothing.
use mathlib.Core.Path.{◌≡◌, refl, sym, ◌∙◌, ap, subst, subst⁻¹}
use mathlib.Core.Logic.{◌≢◌}
use mathlib.Core.Bool.{Bool, true, false, true≢false}
use mathlib.Core.List.{List}
use Prim.Native.Nat.{ℕ, ◌+◌, ◌≤◌, ◌<◌}
use native.Mathlib.Omega.{arith}
use native.Mathlib.Decide.{dec_lt}
use lib.ListN.{length}
use Rattle.clauses.specs.Row.{clause_at, LiteralAt}
use Rattle.clauses.proofs.Starts.{start_is}
use Rattle.clauses.specs.Row.{start_of}
use Rattle.closure.specs.Passing.{lead_at, Tells}
use Rattle.closure.specs.declared.inputs.Inputs.{Inputs}
use Rattle.closure.specs.Inputs.{LeadOf}
use Rattle.closure.specs.Holding.{Among, Holds}
use Rattle.closure.specs.Matching.{Placed, InClause, HasLead, Within, Common, Held, Alike, Signature, Summed}
use Rattle.clauses.proofs.Rows.{literal_some, clause_ended}
use Rattle.clauses.proofs.StartOf.{start_low}
use Rattle.clauses.proofs.StartOf as start
use Rattle.closure.proofs.Signatures.{sum_below}

-- the clause of a place, from its start up to its ending
pub in_clause : (row : List ℕ) (p : ℕ) → Placed row p → p + length (clause_at row p) ≡ start_of row p + length (clause_at row (start_of row p))
in_clause row p k = go (dec_lt (p + length (clause_at row p)) e) (dec_lt e (p + length (clause_at row p)))
  where
    b : ℕ
    b = start_of row p

    e : ℕ
    e = b + length (clause_at row b)

    go : Dec (p + length (clause_at row p) < e) → Dec (e < p + length (clause_at row p)) → p + length (clause_at row p) ≡ e
    go (yes l) d = absurd (literal_some row b (p + length (clause_at row p)) (omega (arith, k.at.low)) l (clause_ended row p))
    go (no l) (yes m) = absurd (literal_some row p e (omega (arith, k.at.high)) m (clause_ended row b))
    go (no l) (no m) = omega arith

pub at_place : (row : List ℕ) (p : ℕ) → Placed row p → InClause row p (start_of row p) (p + length (clause_at row p))
at_place row p k = record { start = refl; end = in_clause row p k; high = omega (arith, in_clause row p k, k.at.high); inside = omega (arith, in_clause row p k, k.ended) }

-- .. of a literal
pub of_literal : (row : List ℕ) (b p : ℕ) → LiteralAt row b p → b + length (clause_at row b) < length row → InClause row p b (b + length (clause_at row b))
of_literal row b p k h =
    let e : b ≡ start_of row p = start_is row b p k in
    record { start = e; end = ap (λ (a : ℕ). a + length (clause_at row a)) e; high = k.high; inside = h }

module _ {row : List ℕ} {p b e : ℕ} (span : InClause row p b e) where
  here : LiteralAt row (start_of row p) p
  here = record { start = start.start_is row p (omega (arith, span.high, span.inside)); low = start_low row p; high = omega (arith, span.high, span.end) }

  pub at_output : LiteralAt row b p
  at_output = subst⁻¹ (λ (a : ℕ). LiteralAt row a p) span.start here

  pub end_is : e ≡ b + length (clause_at row b)
  end_is = span.end ∙ ap (λ (a : ℕ). a + length (clause_at row a)) (sym span.start)

  literal : (a : ℕ) → b ≤ a → a < e → LiteralAt row (start_of row p) a
  literal a l h = record { start = here.start; low = omega (arith, span.start); high = omega (arith, span.end) }

  low : {a : ℕ} → LiteralAt row (start_of row p) a → b ≤ a
  low i = omega (arith, span.start, i.low)

  high : {a : ℕ} → LiteralAt row (start_of row p) a → a < e
  high i = omega (arith, span.end, i.high)

  -- the search for a lead
  pub has_told : (old : List ℕ) (x : ℕ) (r : Bool) → Tells (Among row old b e p x) r → Tells (HasLead row old p x) r
  has_told old x true a = record { place = a.place; at = literal a.place a.low a.high; apart = a.apart; lead = a.lead }
  has_told old x false n = λ h. n (record { place = h.place; low = low h.at; high = high h.at; apart = h.apart; lead = h.lead })

  -- the comparison of two sets
  module _ (old : List ℕ) (q : ℕ) where
    pub compared : (r : Bool) → Tells ((a : ℕ) → b ≤ a → a < e → Common row old p q a) r → Tells (Within row old p q) r
    compared true w = λ x (i, n). (subst (HasLead row old q) i.lead (w i.place (low i.at) (high i.at) i.apart (λ z. n (sym i.lead ∙ z))), n)
    compared false n = λ w. n (λ a l h d z. (w (lead_at row old a) (record { place = a; at = literal a l h; apart = d; lead = refl }, z)).0)

  -- the signature
  pub signed : (old : List ℕ) (s : ℕ) → Summed row old b e p s → Signature row old p s
  signed old s =
      sum_below
      (λ x l (a, n). (record { place = a.place; at = literal a.place a.low a.high; apart = a.apart; lead = a.lead }, n))
      (λ x l (h, n). (record { place = h.place; low = low h.at; high = high h.at; apart = h.apart; lead = h.lead }, n))

-- the leads of q are held
module _ {row old : List ℕ} {p b e q d k : ℕ} (span : InClause row p b e) (there : InClause row q d k) {held : List Bool} (h : Holds row old d k q held) where
  held_common : (a : ℕ) → Held row old held p a → Common row old p q a
  held_common a f n z = has_told there old (lead_at row old a) true (h.only (lead_at row old a) (f n z))

  common_held : (a : ℕ) → Common row old p q a → Held row old held p a
  common_held a f n z =
      let i = f n z in
      h.each (lead_at row old a) (record { place = i.place; low = omega (arith, there.start, i.at.low); high = omega (arith, there.end, i.at.high); apart = i.apart; lead = i.lead })

  pub compared_held : (r : Bool) → Tells ((a : ℕ) → b ≤ a → a < e → Held row old held p a) r → Tells (Within row old p q) r
  compared_held true w = compared span old q true (λ a l m. held_common a (w a l m))
  compared_held false n = compared span old q false (λ w. n (λ a l m. common_held a (w a l m)))

-- a test of each lead but F
pub leads_told : (i : Inputs) (P : ℕ → Type 0) (r : Bool) → (r ≡ true → (a : ℕ) → LeadOf i a → P (lead_at i.codes.now i.old.now a)) → (r ≡ false → (a : ℕ) × LeadOf i a × (¬ P (lead_at i.codes.now i.old.now a)))
    → Tells ((a : ℕ) → i.start ≤ a → a < i.end → a ≢ i.output → lead_at i.codes.now i.old.now a ≢ 0 → P (lead_at i.codes.now i.old.now a)) r
leads_told i P true each one = λ a l h n z. each refl a (l, h, n, z)
leads_told i P false each one = let (a, l, n) = one refl in λ w. n (w a l.0 l.1 l.2 l.3)

-- two comparisons tell whether the sets are equal
pub alike_rest : {row old : List ℕ} {p q : ℕ} → Within row old p q → (r : Bool) → Tells (Within row old q p) r → Tells (Alike row old p q) r
alike_rest w true h = record { left = w; right = h }
alike_rest w false h = λ a. h a.right

pub alike_fails : (row old : List ℕ) (p q : ℕ) (r : Bool) → r ≡ false → Tells (Within row old p q) r → Tells (Alike row old p q) r
alike_fails row old p q true e w = absurd (true≢false e)
alike_fails row old p q false e w = λ a. w a.left
