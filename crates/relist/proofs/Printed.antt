-- What the two functions that print answer, in the words of the definitions.
use Rattle.std.proofs.Common.{◌≡◌, ℕ, List, ap, ◌∙◌, sym, replicate, take}
use Rattle.std.specs.Prelude.{Result, Ok, Err, ℤ, pos}
use Rattle.clauses.specs.Printing.{printing}
use Rattle.clauses.specs.Reading.{reading}
use Rattle.clauses.specs.Refusal.{refusal_text}
use Rattle.clauses.specs.declared.refusal.Refusal.{Refusal}
use Rattle.clauses.specs.declared.reading.ListSize.{ListSize}
use Rattle.relist.specs.Relisting.{answer_text, list_printed, reading_printed, relisted}

pub list_refused : (v c : ℕ) (row : List ℤ) (a : Result ℕ Refusal) (r : Refusal) → a ≡ (printing v c row (replicate 65536 0)).result → a ≡ Err r → list_printed v c row ≡ refusal_text r
unfolding list_printed
list_refused v c row a r p q = ap (λ x. answer_text x (printing v c row (replicate 65536 0)).buffer) (sym p ∙ q)

pub list_written : (v c : ℕ) (row : List ℤ) (a : Result ℕ Refusal) (text : List ℕ) (n : ℕ) → a ≡ (printing v c row (replicate 65536 0)).result → text ≡ (printing v c row (replicate 65536 0)).buffer → a ≡ Ok n → list_printed v c row ≡ take n text
unfolding list_printed
list_written v c row a text n p q w = ap (λ x. answer_text x (printing v c row (replicate 65536 0)).buffer) (sym p ∙ w) ∙ ap (take n) (sym q)

pub text_refused : (text : List ℕ) (a : Result ListSize Refusal) (r : Refusal) → a ≡ (reading text (replicate 32763 (pos 0))).result → a ≡ Err r → relisted text ≡ refusal_text r
unfolding relisted
text_refused text a r p q = ap (λ x. reading_printed x (reading text (replicate 32763 (pos 0))).row) (sym p ∙ q)

pub text_accepted : (text : List ℕ) (a : Result ListSize Refusal) (row : List ℤ) (s : ListSize) → a ≡ (reading text (replicate 32763 (pos 0))).result → row ≡ (reading text (replicate 32763 (pos 0))).row → a ≡ Ok s → relisted text ≡ list_printed s.nets s.clauses (take s.entries row)
unfolding relisted
text_accepted text a row s p q w = ap (λ x. reading_printed x (reading text (replicate 32763 (pos 0))).row) (sym p ∙ w) ∙ ap (λ l. list_printed s.nets s.clauses (take s.entries l)) (sym q)
