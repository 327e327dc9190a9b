-- The inputs of an AND as one value: what is said of its row, its leads and its places elsewhere. Only inner contracts cite these.
-- Assumes nothing.
use Rattle.std.specs.Prelude.{◌≡◌, ◌≢◌, Bool, List, ℕ, ◌≤◌, ◌<◌}
use Rattle.closure.specs.declared.inputs.Inputs.{Inputs}
use Rattle.closure.specs.Passing.{lead_at, ClashAt, Clash, AndJoined}
use Rattle.closure.specs.Holding.{Holds, Put, HeldClash}
use Rattle.closure.specs.declared.tally.Tally.{Tally}
use Rattle.closure.specs.Marked.{Went}
use Rattle.closure.specs.Matching.{Within, Summed}

-- the inputs of two ANDs of one row, by the same leads
abbrev pub OneRow : Inputs → Inputs → Type 0
OneRow i k = (k.codes.now ≡ i.codes.now) × (k.old.now ≡ i.old.now)

abbrev pub PutInputs : Inputs → Bool → List Bool → List Bool → Type 0
PutInputs i v held held' = Put i.codes.now i.old.now i.start i.end i.output v held held'

abbrev pub HoldsInputs : Inputs → List Bool → Type 0
HoldsInputs i held = Holds i.codes.now i.old.now i.start i.end i.output held

unfoldable pub InputClash : Inputs → ℕ → Type 0
InputClash i q = ClashAt i.codes.now i.old.now i.end i.output q

abbrev pub HeldInputClash : Inputs → List Bool → ℕ → Type 0
HeldInputClash i held q = HeldClash i.codes.now i.old.now held i.output q

abbrev pub InputsClash : Inputs → Type 0
InputsClash i = Clash i.codes.now i.old.now i.start i.end i.output

abbrev pub SummedInputs : Inputs → ℕ → Type 0
SummedInputs i s = Summed i.codes.now i.old.now i.start i.end i.output s

abbrev pub WithinInputs : Inputs → Inputs → Type 0
WithinInputs i k = Within i.codes.now i.old.now i.output k.output

-- place a has a lead of the inputs, and it is not F
abbrev pub LeadOf : Inputs → ℕ → Type 0
LeadOf i a = (i.start ≤ a) × (a < i.end) × (a ≢ i.output) × (lead_at i.codes.now i.old.now a ≢ 0)

-- rule 3 has joined what it draws from the AND
abbrev pub AndTaken : Inputs → List ℕ → List ℕ → Tally → List ℕ → Tally → Type 0
AndTaken i marks new t new' t' = Went i.codes.now marks i.old.now new t new' t' × AndJoined i.codes.now i.old.now new' t' i.start i.output
