use Rattle.std.proofs.Common.{◌≢◌, true, ℕ, ◌≤◌, ◌<◌}
use Rattle.closure.specs.Passing.{lead_at}
use Rattle.closure.proofs.inputs.Inputs.all_leads.Given as goal

abbrev pub invariant-loop-a : goal.invariant-loop-a
invariant-loop-a g l =
    (k : ℕ) → l.self.start ≤ k → k < l.a → k ≢ l.self.output → lead_at l.self.codes.now l.self.old.now k ≢ 0 → goal.F-post g l.test (lead_at l.self.codes.now l.self.old.now k) true
