use mathlib.Core.Path.{◌≡◌, refl, sym, ◌∙◌, ap}
use mathlib.Core.List.{List, map}
use Prim.Native.Nat.{ℕ, ◌+◌, ◌<◌}
use native.Mathlib.Omega.{arith}
use lib.ListN.{length, get_or, take}
use borrow.Author.Tests.{not-true, not-false}
use Rattle.clauses.specs.Code.{code_of}
use Rattle.clauses.specs.Listing.{literals}
use Rattle.clauses.specs.Row.{clause_at}
use Rattle.clauses.proofs.Clauses.{literals_length}
use Rattle.clauses.proofs.Fills.{zero_at}
use Rattle.gates.specs.declared.normal.Gathered.{Gathered}
use Rattle.gates.specs.Normal.{Older}
use Rattle.gates.proofs.Normalising.{normalising_none, within_row, normalising_ignored, normalising_kept, normalised_count, normalised}
use Rattle.gates.proofs.normal.normalise.Goals as goal
use Rattle.gates.proofs.normal.normalise.Goals.{then-not-gathered, else-not-gathered}

pub loop-b-init : goal.loop-b-init
loop-b-init c =
    let older : Older c.fill.new.self 1 = λ x. omega (arith, ap (λ (l : List ℕ). get_or l x 0) (c.fill.ensures.after (λ y e. e)), zero_at (length c.args.seen.now) x) in
    normalising_none refl refl c.requires.row_in_bounds older

pub bounds-codes-gathered : goal.bounds-codes-gathered
bounds-codes-gathered c =
    let inside : c.loop-b.b + length (clause_at (map code_of c.args.row.now) c.loop-b.b) < length c.args.row.now = within_row c.loop-b.invariant c.loop-b-test.true c.requires.row_value in
    let puts : c.gather_clause-gathered.result.put ≡ c.loop-b.n + length (literals (clause_at (map code_of c.args.row.now) c.loop-b.b)) = ap (λ (t : Gathered). t.put) c.gather_clause-gathered.ensures.gathered in
    let room : length c.gather_clause-gathered.new.codes ≡ length c.args.codes.now = c.gather_clause-gathered.auto.codes ∙ c.loop-b.invariant.room in
    let space : c.gather_clause-gathered.result.put < length c.gather_clause-gathered.new.codes = omega (arith, puts, inside, room, c.loop-b.invariant.behind, literals_length (clause_at (map code_of c.args.row.now) c.loop-b.b), c.requires.row_in_bounds) in
    space

pub overflow_add-b-in-loop-b : goal.overflow_add-b-in-loop-b
overflow_add-b-in-loop-b c =
    let inside : c.loop-b.b + length (clause_at (map code_of c.args.row.now) c.loop-b.b) < length c.args.row.now = within_row c.loop-b.invariant c.loop-b-test.true c.requires.row_value in
    let ends : c.gather_clause-gathered.result.end ≡ c.loop-b.b + length (clause_at (map code_of c.args.row.now) c.loop-b.b) = ap (λ (t : Gathered). t.end) c.gather_clause-gathered.ensures.gathered in
    omega (arith, ends, inside)

pub loop-b-preserved : goal.loop-b-preserved
loop-b-preserved c =
    let inside : c.loop-b.b + length (clause_at (map code_of c.args.row.now) c.loop-b.b) < length c.args.row.now = within_row c.loop-b.invariant c.loop-b-test.true c.requires.row_value in
    let ends : c.gather_clause-gathered.result.end ≡ c.loop-b.b + length (clause_at (map code_of c.args.row.now) c.loop-b.b) = ap (λ (t : Gathered). t.end) c.gather_clause-gathered.ensures.gathered in
    let puts : c.gather_clause-gathered.result.put ≡ c.loop-b.n + length (literals (clause_at (map code_of c.args.row.now) c.loop-b.b)) = ap (λ (t : Gathered). t.put) c.gather_clause-gathered.ensures.gathered in
    let room : length c.gather_clause-gathered.new.codes ≡ length c.args.codes.now = c.gather_clause-gathered.auto.codes ∙ c.loop-b.invariant.room in
    let made = c in
    let turn = c.loop-b in
    let test = c.loop-b-test.true in
    let told = made.gather_clause-gathered.ensures in
    let ignored = ap (λ (t : Gathered). t.ignored) told.gathered in
    let size = made.gather_clause-gathered.auto.seen ∙ turn.invariant.marks in
    let written = ap (λ (m : ℕ). take m made.gather_clause-gathered.new.codes) (sym puts) ∙ told.written in
    elim c.if-not-gathered.branch [
      | then-not-gathered w ↦ rw (w.codes-is, w.n-is, puts, ends) (normalising_kept turn.invariant test inside _ size room told.older written (sym ignored ∙ not-true _ w.if-not-gathered.true))
      | else-not-gathered w ↦ rw (w.codes-is, w.n-is, ends) (normalising_ignored turn.invariant test inside _ size room told.older written (sym ignored ∙ not-false _ w.if-not-gathered.false))
    ]

pub returns : goal.returns
returns c = record { value = normalised_count c.loop-b.invariant c.loop-b-test.false; codes_after = normalised c.loop-b.invariant c.loop-b-test.false }
