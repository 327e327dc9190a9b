-- What a program prints, from what comparing answers and leaves in the buffer.
use Rattle.std.proofs.Common.{◌≡◌, ℕ, List, ap, sym, replicate}
use Rattle.sheet.specs.Comparing.{Outcome, comparing, comparing_aiger}
use Rattle.std.specs.Prelude.{Result}
use Rattle.clauses.specs.declared.refusal.Refusal.{Refusal}
use Rattle.console.specs.Printed.{answer_text, printed, printed_aiger}

pub printed_as : (input : List ℕ) (a : Result ℕ Refusal) (text : List ℕ) → record { result = a; text = text } ≡ comparing input (replicate 16384 0) → printed input ≡ answer_text a text
unfolding printed
printed_as input a text e = sym (ap (λ (o : Outcome). answer_text o.result o.text) e)

pub printed_aiger_as : (input : List ℕ) (a : Result ℕ Refusal) (text : List ℕ) → record { result = a; text = text } ≡ comparing_aiger input (replicate 16384 0) → printed_aiger input ≡ answer_text a text
unfolding printed_aiger
printed_aiger_as input a text e = sym (ap (λ (o : Outcome). answer_text o.result o.text) e)
