-- The theorem about sheets: two accepted lists with the same sheet have the same V and the same answer.
-- Assumes nothing.
use mathlib.Core.Path.{◌≡◌, refl}
use mathlib.Core.List.{List}
use Prim.Native.Nat.{ℕ, ◌≤◌}
use native.Mathlib.Omega.{arith}
use lib.IntN.{ℤ}
use lib.ListN.{replicate}
use Rattle.clauses.specs.Clause.{clauses_of}
use Rattle.clauses.specs.Limit.{max_entries}
use Rattle.rules.specs.declared.Verdict.{Verdict}
use Rattle.rules.specs.declared.Verdict.TheVariants.{Contradiction}
use Rattle.rules.specs.Answer.{Answer, no_lead, Leads, on_contradiction, otherwise, IsAnswer}
use Rattle.closure.specs.Closing.{summary, Answers}
use Rattle.closure.specs.Passed.{Passed}
use Rattle.closure.proofs.ClosingTests.{accepted_passed}
use Rattle.closure.proofs.ClosingTheorems.{leads_length, groups_few, closing_exact, closing_bound, closing_counts}
use Rattle.sheet.specs.Sheet.{sheet_text}
use Rattle.sheet.proofs.Determined.{Printable, sheet_determined}
use Rattle.sheet.proofs.Written.{leads_small}

leads_none : {v : ℕ} {G : ℕ → ℕ → Type 0} {w : Verdict} {g : ℕ} {l : List ℕ} → Leads v G w g l → w ≡ Contradiction → l ≡ replicate v no_lead
leads_none on_contradiction e = refl
leads_none (otherwise d s f) e = absurd (d e)

answers_printable : (v c : ℕ) (row : List ℤ) (limit : ℕ) (leads work : List ℕ) (a : Answer) → Answers v c row limit leads work a → Printable v a
answers_printable v c row limit leads work a h =
    record {
      nets_small = omega (arith, p.nets);
      rounds_small = omega (arith, p.nets, closing_bound v c row limit leads work a h);
      ands_small = omega (arith, few.0);
      xors_small = omega (arith, few.1);
      ites_small = omega (arith, few.2);
      groups_small = omega (arith, p.nets, groups_few exact.leads);
      leads_length = leads_length exact.leads;
      leads_small = leads_small (clauses_of row) a.rounds p.nets exact.leads;
      leads_none = leads_none exact.leads;
    }
  where
    p : Passed v row leads work
    p = accepted_passed v c row limit leads work (summary a) h.accepts

    exact : IsAnswer v (clauses_of row) limit a
    exact = closing_exact v c row limit leads work a h

    few : (a.ands ≤ max_entries) × (a.xors ≤ max_entries) × (a.ites ≤ 1073741824)
    few = closing_counts v c row limit leads work a h

-- The text determines V, the verdict, the counts and every lead.
pub sheets_determined : (v w c d : ℕ) (row sow : List ℤ) (limit limit' : ℕ) (leads work leads' work' : List ℕ) (a b : Answer)
    → Answers v c row limit leads work a → Answers w d sow limit' leads' work' b → sheet_text v a ≡ sheet_text w b → (v ≡ w) × (a ≡ b)
sheets_determined v w c d row sow limit limit' leads work leads' work' a b h k =
    sheet_determined v w a b (answers_printable v c row limit leads work a h) (answers_printable w d sow limit' leads' work' b k)
