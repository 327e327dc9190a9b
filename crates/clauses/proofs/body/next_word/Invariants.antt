use Rattle.std.proofs.Common.{◌-◌, ◌≡◌, ◌≤◌, ◌<◌, false, get_or, length}
use Rattle.clauses.specs.Bytes.{is_blank}
use Rattle.clauses.specs.Scanning.{words_from}
use Rattle.clauses.proofs.body.next_word.Given as goal

abbrev pub invariant-loop-i : goal.invariant-loop-i
invariant-loop-i l =
    record {
      same_words : words_from l.text l.at ≡ words_from l.text l.i;
      low : l.at ≤ l.i;
      within : l.i ≤ length l.text;
      not_blank : l.i < length l.text → is_blank (get_or l.text l.i 0) ≡ false;
    }

abbrev pub decreases-loop-i : goal.decreases-loop-i
decreases-loop-i l = length l.text - l.i
