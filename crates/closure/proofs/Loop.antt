-- The loop over the rounds: what holds between two of them, and how a round leads on.
-- Assumes nothing.
use mathlib.Core.Path.{◌≡◌, sym, ◌∙◌, ap, subst⁻¹, subst₂}
use mathlib.Core.Logic.{◌≢◌, inl, inr}
use mathlib.Core.Bool.{false, true≢false}
use mathlib.Core.List.{List}
use Rattle.std.specs.declared.ops.ControlFlow.{ControlFlow}
use Rattle.std.specs.declared.ops.ControlFlow.TheVariants.{Continue, Break}
use Prim.Native.Nat.{ℕ, ◌+◌, ◌-◌, ◌≤◌, ◌<◌}
use native.Mathlib.Omega.{arith}
use lib.ListN.{length, replicate, length-replicate}
use Rattle.clauses.specs.Limit.{max_nets, max_entries}
use Rattle.clauses.specs.Clause.{clauses_in}
use Rattle.clauses.specs.Listing.{Fits}
use Rattle.clauses.specs.Code.{nets_of}
use Rattle.gates.specs.Found.{Found}
use Rattle.rules.specs.Answer.{own, no_lead}
use Rattle.rules.specs.Compute.{ended, closed}
use Rattle.closure.specs.Making.{Making, Later, fresh, Rules}
use Rattle.closure.specs.RowJoined.{RowJoined}
use Rattle.closure.specs.declared.tally.Tally.{Tally}
use Rattle.closure.proofs.RowsJoined.{row_later}
use Rattle.closure.specs.declared.run.Ended.{Ended}
use Rattle.closure.specs.declared.run.Progress.{Progress}
use Rattle.closure.specs.Rounds.{Starting, Followed}
use Rattle.closure.proofs.RoundStarts.{round_rules}
use Rattle.closure.proofs.Running.{Reached, none_made, round_starts, none_left, round_settles, round_clashes, round_stops, round_made, still_is, moved_is, moved_joins}

-- the leads after the rounds made so far
pub record Between (row marks : List ℕ) (limit v : ℕ) (leads next older : List ℕ) (p : Progress) : Type 0 where
  pub reached : Reached v (clauses_in row) p.rounds leads next p.groups
  pub few : p.rounds ≤ limit
  pub size : length older ≡ length leads
  pub first : p.rounds ≡ 0 → older ≡ leads
  pub before : p.rounds ≢ 0 → RowJoined row marks older leads (fresh 0)

pub between_sizes : {row marks : List ℕ} {limit v : ℕ} {leads next older : List ℕ} {p : Progress} → Between row marks limit v leads next older p
    → (length leads ≡ v) × (length next ≡ v) × (length older ≡ v)
between_sizes b = let r = b.reached in (r.row.size, ap length r.ready ∙ r.row.size, b.size ∙ r.row.size)

-- how closing has ended, and with which leads
pub record Over (row : List ℕ) (limit v : ℕ) (leads : List ℕ) (e : Ended) : Type 0 where
  pub leads_are : ended e.verdict e.rounds leads ≡ closed v (clauses_in row) limit
  pub groups_are : e.groups ≡ length (own v leads)

-- the one or the other
abbrev pub After : List ℕ → List ℕ → ℕ → ℕ → List ℕ → List ℕ → List ℕ → ControlFlow Ended Progress → Type 0
After row marks limit v leads next older (Continue p) = Between row marks limit v leads next older p
After row marks limit v leads next older (Break e) = Over row limit v leads e

pub loop_begins : (row marks : List ℕ) (limit : ℕ) (leads next older : List ℕ) (p : Progress) → leads ≡ nets_of (length leads) → next ≡ leads
    → older ≡ leads → p.rounds ≡ 0 → p.groups ≡ length leads → Between row marks limit (length leads) leads next older p
loop_begins row marks limit leads next older p first same before z g =
    record {
      reached =
          subst₂ (λ (n k : ℕ). Reached (length leads) (clauses_in row) n leads next k) (sym z) (sym g)
          (subst₂ (λ (l o : List ℕ). Reached (length leads) (clauses_in row) 0 l o (length leads)) (sym first) (sym (same ∙ first)) (none_made (length leads) (clauses_in row)));
      few = omega arith;
      size = ap length before;
      first = λ e. before;
      before = λ n. absurd (n z);
    }

module _ {row marks : List ℕ} {limit v : ℕ} {leads next older : List ℕ} {p : Progress} (found : Found (clauses_in row) row marks) (fit : Fits v (clauses_in row))
    (few : v ≤ max_nets) (entries : length row ≤ max_entries) (b : Between row marks limit v leads next older p) where
  abbrev cs : List (List ℕ)
  cs = clauses_in row

  -- the next round can be made
  pub next_starts : Starting row marks older leads next p.rounds p.groups
  next_starts =
      record {
        found = found;
        fits = subst⁻¹ (λ (n : ℕ). Fits n cs) b.reached.row.size fit;
        nets = subst⁻¹ (λ (n : ℕ). n ≤ max_nets) b.reached.row.size few;
        entries = entries;
        size = b.size;
        making = round_starts v cs p.rounds leads next p.groups b.reached;
        same = b.reached.ready;
        first = b.first;
        before = b.before;
      }

  -- it has been made
  module _ {new : List ℕ} {t : Tally} (making : Making cs leads new t) (joined : RowJoined row marks leads new t) where
    rules : Rules cs leads new t
    rules = round_rules next_starts making joined

    new_size : length new ≡ v
    new_size = making.size ∙ b.reached.row.size

    later : t.clash ≡ false → Later new t new (fresh 0)
    later c a b (inl e) = absurd (true≢false (sym e ∙ c))
    later c a b (inr e) = inr e

    -- .. and what follows is done
    module _ {leads' : List ℕ} where
      ends : {e : Ended} (last : List ℕ) → leads' ≡ last → ended e.verdict e.rounds last ≡ closed v cs limit → e.groups ≡ length (own v last) → Over row limit v leads' e
      ends {e} last d c g = subst⁻¹ (λ (l : List ℕ). Over row limit v l e) d (record { leads_are = c; groups_are = g })

      pub round_followed : {older' : List ℕ} {q : ControlFlow Ended Progress} → Followed limit p t leads new leads' older' q → After row marks limit v leads' new older' q
      round_followed (Followed.settled h e) =
          ends leads e
          (round_settles v cs p.rounds leads next p.groups b.reached fit limit new t making rules (still_is t h).0 (still_is t h).1 b.few) b.reached.counted
      round_followed (Followed.stopped h l e) =
          ends leads e
          (round_stops v cs p.rounds leads next p.groups b.reached fit limit new t making rules (moved_is t h) l) b.reached.counted
      round_followed (Followed.clashed h l c e) =
          ends (replicate (length leads) no_lead) e
          (round_clashes v cs p.rounds leads next p.groups b.reached fit limit new t making rules c l) (none_left v cs p.rounds leads next p.groups b.reached)
      round_followed (Followed.made h l c e o) =
          let m = round_made v cs p.rounds leads next p.groups b.reached fit limit new t making rules c (moved_joins t h c) in
          record {
            reached = subst⁻¹ (λ (k : List ℕ). Reached v cs (p.rounds + 1) k new t.groups) e m;
            few = omega arith;
            size = ap length o ∙ b.reached.row.size ∙ sym new_size ∙ ap length (sym e);
            first = λ z. absurd (omega arith);
            before = λ n. subst₂ (λ (k j : List ℕ). RowJoined row marks k j (fresh 0)) (sym o) (sym e) (row_later row marks leads new t new (fresh 0) (later c) joined);
          }

      -- .. and the rows keep their sizes
      leads_size : {older' : List ℕ} {q : ControlFlow Ended Progress} → Followed limit p t leads new leads' older' q → length leads' ≡ v
      leads_size (Followed.settled h e) = ap length e ∙ b.reached.row.size
      leads_size (Followed.stopped h l e) = ap length e ∙ b.reached.row.size
      leads_size (Followed.clashed h l c e) = ap length e ∙ length-replicate {A = ℕ} (length leads) no_lead ∙ b.reached.row.size
      leads_size (Followed.made h l c e o) = ap length e ∙ new_size

      pub round_sizes : {older' : List ℕ} {q : ControlFlow Ended Progress} → length older' ≡ length older → Followed limit p t leads new leads' older' q
          → (length leads' ≡ v) × (length new ≡ v) × (length older' ≡ v)
      round_sizes kept f = (leads_size f, new_size, kept ∙ b.size ∙ b.reached.row.size)

-- the rounds that may still be made become fewer
pub fewer_left : {limit : ℕ} {s p : Progress} {t : Tally} {leads next leads' older' : List ℕ} → Followed limit s t leads next leads' older' (Continue p) → limit + 1 - p.rounds < limit + 1 - s.rounds
fewer_left (Followed.made h l c e o) = omega arith
