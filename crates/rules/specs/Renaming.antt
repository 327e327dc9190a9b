-- Answers that a renaming takes to each other.
-- Assumes nothing.
use Rattle.std.specs.Prelude.{◌≡◌, ◌↔◌, ℕ, ◌+◌, ◌*◌, ◌≤◌}
use Rattle.rules.specs.Answer.{Answer, Joined}

-- demand 3: verdict, rounds, counts and groups are equal, and two literals of nets 1 to V or constants, whose codes end at 2V + 1, are joined in one
-- answer exactly when their images under ρ are in the other
pub record Renamed (v : ℕ) (ρ : ℕ → ℕ) (a b : Answer) : Type 0 where
  pub verdicts : a.verdict ≡ b.verdict
  pub rounds : a.rounds ≡ b.rounds
  pub ands : a.ands ≡ b.ands
  pub xors : a.xors ≡ b.xors
  pub ites : a.ites ≡ b.ites
  pub groups : a.groups ≡ b.groups
  pub joined : (x y : ℕ) → x ≤ 2 * v + 1 → y ≤ 2 * v + 1 → Joined a x y ↔ Joined b (ρ x) (ρ y)
