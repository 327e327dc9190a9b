-- A round that can be made: what the passes ask of the row, and what a round that has joined all of it says of the rules.
-- Assumes nothing.
use mathlib.Core.Path.{◌≡◌, subst, subst⁻¹}
use mathlib.Core.List.{List}
use Prim.Native.Nat.{ℕ, ◌≤◌, ◌<◌}
use native.Mathlib.Omega.{arith}
use native.Mathlib.Decide.{dec_lt, ℕ_discrete}
use lib.ListN.{length, get_or, get_or-eq_default}
use Rattle.clauses.specs.Code.{net}
use Rattle.clauses.specs.Clause.{clauses_in}
use Rattle.clauses.specs.Listing.{Fits}
use Rattle.clauses.proofs.Clauses.{fits_present}
use Rattle.clauses.specs.Row.{start_of}
use Rattle.gates.specs.Found.{Found}
use Rattle.clauses.proofs.Rows.{literal_in}
use Rattle.clauses.proofs.StartOf.{literal_start}
use Rattle.closure.specs.Making.{Making, fresh, Rules}
use Rattle.closure.specs.Xors.{LeadRow}
use Rattle.closure.specs.Marked.{Ready, Went}
use Rattle.closure.specs.RowJoined.{RowJoined}
use Rattle.closure.specs.declared.tally.Tally.{Tally}
use Rattle.closure.proofs.Going.{found_marked}
use Rattle.closure.proofs.RowRules.{row_rules}
use Rattle.closure.specs.Rounds.{Starting}

-- the nets of the row's entries are those of the list
pub found_nets : {row marks : List ℕ} {v : ℕ} → Found (clauses_in row) row marks → Fits v (clauses_in row) → (q : ℕ) → net (get_or row q 0) ≤ v
found_nets {row} {marks} {v} found fits q = go (dec_lt q (length row)) (ℕ_discrete (get_or row q 0) 0)
  where
    none : get_or row q 0 ≡ 0 → net (get_or row q 0) ≤ v
    none e = subst⁻¹ (λ (x : ℕ). net x ≤ v) e (omega arith)

    go : Dec (q < length row) → Dec (get_or row q 0 ≡ 0) → net (get_or row q 0) ≤ v
    go (no n) d = none (get_or-eq_default row 0 {n = q} (omega arith))
    go (yes l) (yes e) = none e
    go (yes l) (no n) =
        let k = literal_start row q l n in
        (fits_present fits (found.clause_is (start_of row q) k.start) (get_or row q 0) (literal_in row (start_of row q) q k)).1

module _ {row marks older old new : List ℕ} {rounds groups : ℕ} (s : Starting row marks older old new rounds groups) where
  -- the old leads are as the new ones are at first
  pub old_leads : LeadRow old
  old_leads = record { inverse = m.inverse; again = m.again; low = m.low }
    where
      m : Making (clauses_in row) old old (fresh groups)
      m = subst (λ (l : List ℕ). Making (clauses_in row) old l (fresh groups)) s.same s.making

  -- the row is ready for the rules
  pub row_ready : Ready row marks old new (fresh groups)
  row_ready =
      record { of = clauses_in row; marked = found_marked s.found; fits = s.fits; making = s.making; leads = old_leads; nets = s.nets; entries = s.entries }

  pub row_making : {new' : List ℕ} {t : Tally} → Went row marks old new (fresh groups) new' t → Making (clauses_in row) old new' t
  row_making w = w.making (clauses_in row) (found_marked s.found) s.fits s.making

  pub round_rules : {new' : List ℕ} {t : Tally} → Making (clauses_in row) old new' t → RowJoined row marks old new' t → Rules (clauses_in row) old new' t
  round_rules m j = row_rules s.found s.fits old_leads s.nets m j
