use mathlib.Core.Bool.{true≢false, false}
use Prim.Native.Nat.{◌<◌, ◌-◌, ◌≤◌}
use Rattle.clauses.proofs.Bodies.{passed_empty, heading_behind, heading_passed, heading_sized, words_behind_line}
use native.Mathlib.Decide.{dec_lt}
use Rattle.clauses.proofs.LinesAndWords.{is_lf}
use Rattle.clauses.proofs.Runs.{front_length, run_part}
use Rattle.clauses.proofs.Splitting.{following, lacks}
use Rattle.clauses.specs.Bytes.{front}
use Rattle.clauses.specs.Reading.{header_line, is_passed}
use lib.ListN.{length-drop, take, drop, length}
use mathlib.Core.Path.{ap, sym, ◌∙◌, ◌≡◌}
use native.Mathlib.Omega.{arith}
use Rattle.clauses.proofs.header.find_header.Goals as goal

pub slice_bounds-line-end : goal.slice_bounds-line-end
slice_bounds-line-end c =
    let room : length (front (lacks is_lf) (drop c.loop-at.at c.args.text.now)) ≤ length (drop c.loop-at.at c.args.text.now) = front_length (lacks is_lf) (drop c.loop-at.at c.args.text.now) in
    let end-within : c.line_end-end.result ≤ length c.args.text.now = omega (arith, room, c.line_end-end.ensures, length-drop c.loop-at.at c.args.text.now, c.loop-at-test.true) in
    end-within

pub returns-then-not-is_passed : goal.returns-then-not-is_passed
returns-then-not-is_passed c = (
  following is_lf c.loop-at.at (drop c.loop-at.at c.args.text.now),
  c.loop-at.invariant.0
      ∙ heading_sized _ c.args.text.now c.loop-at.at _ not-passed (ap header_line (sym line) ∙ sym c.read_header.ensures ∙ c.in-Some.is),
  words_behind_line c.args.text.now c.loop-at.at c.line_end-end.result c.line_end-end.ensures more,
  end-within,
)
  where
    line : take (c.line_end-end.result - c.loop-at.at) (drop c.loop-at.at c.args.text.now) ≡ front (lacks is_lf) (drop c.loop-at.at c.args.text.now)
    line = run_part (lacks is_lf) c.args.text.now c.loop-at.at c.line_end-end.result c.line_end-end.ensures

    room : length (front (lacks is_lf) (drop c.loop-at.at c.args.text.now)) ≤ length (drop c.loop-at.at c.args.text.now)
    room = front_length (lacks is_lf) (drop c.loop-at.at c.args.text.now)

    end-within : c.line_end-end.result ≤ length c.args.text.now
    end-within = omega (arith, room, c.line_end-end.ensures, length-drop c.loop-at.at c.args.text.now, c.loop-at-test.true)

    not-passed : is_passed (front (lacks is_lf) (drop c.loop-at.at c.args.text.now)) ≡ false
    not-passed = ap is_passed (sym line) ∙ sym c.is_passed.ensures ∙ c.if-not-is_passed.true

    more : c.loop-at.at < c.line_end-end.result
    more = go (dec_lt c.loop-at.at c.line_end-end.result)
      where
        go : Dec (c.loop-at.at < c.line_end-end.result) → c.loop-at.at < c.line_end-end.result
        go (yes h) = h
        go (no h) = absurd (true≢false (sym (passed_empty _ (omega (arith, c.line_end-end.ensures))) ∙ not-passed))

pub loop-at-preserved : goal.loop-at-preserved
loop-at-preserved c =
    let line : take (c.line_end-end.result - c.loop-at.at) (drop c.loop-at.at c.args.text.now) ≡ front (lacks is_lf) (drop c.loop-at.at c.args.text.now) = run_part (lacks is_lf) c.args.text.now c.loop-at.at c.line_end-end.result c.line_end-end.ensures in
    let room : length (front (lacks is_lf) (drop c.loop-at.at c.args.text.now)) ≤ length (drop c.loop-at.at c.args.text.now) = front_length (lacks is_lf) (drop c.loop-at.at c.args.text.now) in
    let end-within : c.line_end-end.result ≤ length c.args.text.now = omega (arith, room, c.line_end-end.ensures, length-drop c.loop-at.at c.args.text.now, c.loop-at-test.true) in (
      c.loop-at.invariant.0
          ∙ heading_passed _ c.args.text.now c.loop-at.at (ap is_passed (sym line) ∙ sym c.is_passed.ensures ∙ c.if-not-is_passed.false)
          ∙ heading_behind c.args.text.now c.loop-at.at c.line_end-end.result c.line_end-end.ensures _,
      omega (arith, end-within),
    )
