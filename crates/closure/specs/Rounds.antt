-- Rounds, one after the other: what holds before each of them, and how one leads to the next. Only inner contracts cite these.
-- Assumes nothing.
use Rattle.std.specs.declared.ops.ControlFlow.{ControlFlow}
use Rattle.std.specs.declared.ops.ControlFlow.TheVariants.{Continue, Break}
use Rattle.std.specs.Prelude.{◌≡◌, ◌≢◌, Bool, true, false, not, ◌&&◌, List, ℕ, ◌+◌, ◌*◌, ◌≤◌, ◌<◌, eqb, length, replicate}
use Rattle.clauses.specs.Limit.{max_nets, max_entries}
use Rattle.clauses.specs.Clause.{clauses_in}
use Rattle.clauses.specs.Listing.{Fits}
use Rattle.gates.specs.Found.{Found}
use Rattle.rules.specs.Answer.{no_lead}
use Rattle.rules.specs.declared.Verdict.TheVariants.{Contradiction, Settled, Unfinished}
use Rattle.closure.specs.Making.{Making, fresh}
use Rattle.closure.specs.RowJoined.{RowJoined}
use Rattle.closure.specs.declared.tally.Tally.{Tally}
use Rattle.closure.specs.declared.run.Progress.{Progress}
use Rattle.closure.specs.declared.run.Ended.{Ended}

-- a round from the old leads can be made, after so many others
pub record Starting (row marks older old new : List ℕ) (rounds groups : ℕ) : Type 0 where
  pub found : Found (clauses_in row) row marks
  pub fits : Fits (length old) (clauses_in row)
  pub nets : length old ≤ max_nets
  pub entries : length row ≤ max_entries
  pub size : length older ≡ length old
  pub making : Making (clauses_in row) old new (fresh groups)
  pub same : new ≡ old
  pub first : rounds ≡ 0 → older ≡ old
  -- the round before, if there was one, has joined all that the older leads draw
  pub before : rounds ≢ 0 → RowJoined row marks older old (fresh 0)

-- the tables, with so many slots and entries taken, have room for the gates of clauses with so many entries
pub record Room (ands xors sides entries : ℕ) : Type 0 where
  pub ands_room : ands + entries ≤ max_entries
  pub xors_room : xors + entries ≤ max_entries
  pub sides_room : 2 * sides + 3 * entries ≤ 3 * max_entries

-- the round has joined nothing
unfoldable pub is_still : Tally → Bool
is_still t = not t.clash && eqb t.joins 0

-- what follows a round: an end, or the next round from its leads
pub data Followed (limit : ℕ) (s : Progress) (t : Tally) (leads next leads' older' : List ℕ) : ControlFlow Ended Progress → Type 0 where
  settled : is_still t ≡ true → leads' ≡ leads
      → Followed limit s t leads next leads' older' (Break (record { verdict = Settled; rounds = s.rounds; groups = s.groups }))
  -- the round that shows a list to be settled may lie past the limit
  stopped : is_still t ≡ false → s.rounds ≡ limit → leads' ≡ leads
      → Followed limit s t leads next leads' older' (Break (record { verdict = Unfinished; rounds = s.rounds; groups = s.groups }))
  clashed : is_still t ≡ false → s.rounds < limit → t.clash ≡ true → leads' ≡ replicate (length leads) no_lead
      → Followed limit s t leads next leads' older' (Break (record { verdict = Contradiction; rounds = s.rounds + 1; groups = 0 }))
  made : is_still t ≡ false → s.rounds < limit → t.clash ≡ false → leads' ≡ next → older' ≡ leads
      → Followed limit s t leads next leads' older' (Continue (record { rounds = s.rounds + 1; groups = t.groups }))
