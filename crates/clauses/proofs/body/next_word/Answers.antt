use Rattle.std.proofs.Common.{◌+◌, ◌≡◌, ◌≤◌, ◌<◌, ◌∙◌, ℕ, List, ap, arith, drop, eqb, false, get_or, length, not, sym, true}
use Rattle.clauses.proofs.Bodies.{line_comment, words_behind_blanks, words_behind_line}
use Rattle.clauses.proofs.Runs.{run_goes_on, run_low, run_stopped}
use Rattle.clauses.specs.Bytes.{front, is_blank, letter_c, lf}
use Rattle.clauses.specs.Scanning.{starts_line, words_from}
use Rattle.clauses.proofs.body.next_word.Goals as goal

-- a comment line and the blanks behind it are passed over
record Passed (text : List ℕ) (i line end : ℕ) : Type 0 where
  same_words : words_from text i ≡ words_from text end
  further : i < end
  within : end ≤ length text
  not_blank : end < length text → is_blank (get_or text end 0) ≡ false

passed : (text : List ℕ) (i line end : ℕ) → i < length text → get_or text i 0 ≡ letter_c → starts_line text i ≡ true
    → line ≡ i + length (front (λ b. not (eqb b lf)) (drop i text)) → end ≡ line + length (front is_blank (drop line text)) → Passed text i line end
passed text i line end h e s r q =
    record {
      same_words = line_comment text i s e ∙ words_behind_line text i line r more ∙ words_behind_blanks text line end q;
      further = omega (arith, more, q);
      within = run_low is_blank text line end q (run_low (λ b. not (eqb b lf)) text i line r (omega arith));
      not_blank = run_stopped is_blank text line end q;
    }
  where
    more : i < line
    more = omega (arith, r, ap length (run_goes_on (λ b. not (eqb b lf)) text i h (rw e)))

pub loop-i-preserved : goal.loop-i-preserved
loop-i-preserved c =
    let p = passed c.args.text.now c.loop-i.i _ _ c.loop-i-test.true c.if-text-i-eq99.true (sym c.if-starts_line.ensures) c.line_end.ensures c.blanks_end-i-in-loop-i.ensures in
    record { same_words = c.loop-i.invariant.same_words ∙ p.same_words; low = omega (arith, p.further); within = p.within; not_blank = p.not_blank }
