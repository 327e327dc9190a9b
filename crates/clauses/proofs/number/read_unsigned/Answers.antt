use Rattle.clauses.specs.Scanning.{is_in_word}
use Rattle.clauses.proofs.Runs.{run_none, run_stops}
use Rattle.clauses.proofs.Words.{word_stops}
use mathlib.Core.Bool.{not}
use mathlib.Core.Path.{◌∙◌, ap, sym}
use Rattle.clauses.proofs.number.read_unsigned.Goals as goal
use Rattle.clauses.proofs.number.read_unsigned.Goals.{else-number-text-via-then-number-text+else-not-is_blank, else-number-text-via-else-number-text}

pub returns : goal.returns
returns c =
    word_stops c.args.text.now c.args.at _ (sym c.in_ok-number.ensures) (elim c.else-number-text.branch [
      | else-number-text-via-then-number-text+else-not-is_blank w ↦
          run_stops is_in_word c.args.text.now c.in_ok-number.number.end w.if-number-text.true (ap not (sym w.is_blank.ensures ∙ w.if-not-is_blank.false))
      | else-number-text-via-else-number-text w ↦ run_none is_in_word c.args.text.now c.in_ok-number.number.end w.if-number-text.false
    ])
