use borrow.Author.Rules.{rules}
use Rattle.clauses.proofs.RefusalTexts.{refusal_written}
use Rattle.clauses.proofs.refusal.put_refusal.Goals as goal

pub returns : goal.returns
returns c =
    record { value = (refusal_written c.args.r (search rules) c.put_bytes-at.ensures (rw c.number.ensures at c.put_word-next.ensures) (rw c.place.ensures at c.put_word.ensures)).0; text_after = (refusal_written c.args.r (search rules) c.put_bytes-at.ensures (rw c.number.ensures at c.put_word-next.ensures) (rw c.place.ensures at c.put_word.ensures)).1 }
