-- How many numbers a text can have: a header takes at least nine bytes, and every number behind it two, with the byte that separates them.
-- Assumes nothing.
use mathlib.Core.Path.{◌≡◌, refl, sym, ◌∙◌, ap}
use mathlib.Core.Bool.{Bool, true}
use mathlib.Core.List.{List, [], ◌∷◌}
use Rattle.std.specs.Prelude.{Option, None, Some}
use Prim.Native.Nat.{ℕ, suc, ◌+◌, ◌*◌, ◌≤◌}
use native.Mathlib.Omega.{arith}
use borrow.Table.Steps.{cases}
use borrow.Author.Tests.{eqb-false}
use lib.Dec.{eqb}
use lib.IntN.{ℤ}
use lib.ListN.{length, length-append}
use Rattle.clauses.specs.Bytes.{lf, is_blank, is_gap, is_digit, front, behind, Stretch, widen, split}
use Rattle.clauses.specs.Number.{unsigned, number}
use Rattle.clauses.specs.Reading.{lines, is_comment, is_passed, after, after_gap, Sizes, after_format, sizes, header_line, sized, as_header, heading, non_empty, words, words_of, Body, body, heading_of}
use Rattle.clauses.specs.Scanning.{numbers_of}
use Rattle.clauses.proofs.Headers.{then_there}
use Rattle.clauses.proofs.Splitting.{front_behind}
use Rattle.clauses.proofs.Words.{unsigned_empty}
use Rattle.clauses.proofs.ReadingTests.{body_entries}

-- the bytes of stretches, with one for the end of each
span : List Stretch → ℕ
span [] = 0
span (s ∷ ss) = length s.bytes + 1 + span ss

split_span : (f : ℕ → Bool) (p : ℕ) (l : List ℕ) → span (split f p l) ≡ length l + 1
unfolding split span widen
split_span f p [] = refl
split_span f p (b ∷ l) = cases (f b) (λ e. rw e (omega (arith, split_span f (suc p) l))) (λ e. rw e (wider (split f (suc p) l) (split_span f (suc p) l)))
  where
    wider : (ss : List Stretch) → span ss ≡ length l + 1 → span (widen p b ss) ≡ length (b ∷ l) + 1
    wider [] h = absurd (omega arith)
    wider (s ∷ ss) h = omega arith

-- Words

-- words are not empty, so that each takes two bytes with what ends it
words_few : (ss : List Stretch) → 2 * length (non_empty ss) ≤ span ss
unfolding non_empty span
words_few [] = omega arith
words_few (s ∷ ss) =
    cases (eqb (length s.bytes) 0) (λ e. rw e (omega (arith, words_few ss)))
    (λ e. rw e (let some_byte = eqb-false (length s.bytes) 0 e in omega (arith, words_few ss)))

line_few : (l : Stretch) → 2 * length (words l) ≤ length l.bytes + 1
unfolding words
line_few l = omega (arith, words_few (split is_blank l.place l.bytes), split_span is_blank l.place l.bytes)

lines_few : (ls : List Stretch) → 2 * length (words_of ls) ≤ span ls
unfolding words_of span
lines_few [] = omega arith
lines_few (l ∷ ls) =
    cases (is_comment l.bytes) (λ e. rw e (omega (arith, lines_few ls)))
    (λ e. rw e (omega (arith, length-append (words l) (words_of ls), line_few l, lines_few ls)))

-- at most as many numbers as words
numbers_words : (ws : List Stretch) → length (numbers_of ws) ≤ length ws
unfolding numbers_of
numbers_words [] = omega arith
numbers_words (w ∷ ws) = go (number w.bytes) refl (numbers_words ws)
  where
    go : (o : Option ℤ) → number w.bytes ≡ o → length (numbers_of ws) ≤ length ws → length (numbers_of (w ∷ ws)) ≤ length (w ∷ ws)
    go None e h = rw (numbers_of, e) (omega arith)
    go (Some z) e h = rw (numbers_of, e) (omega arith)

-- The header

after_length : (w l r : List ℕ) → after w l ≡ Some r → length l ≡ length w + length r
unfolding after
after_length [] l r e = let same : l ≡ r = cc in rw same (omega arith)
after_length (x ∷ w) [] r e = let z : ◌≡◌ {A = ℕ} 0 1 = cc in absurd (omega arith)
after_length (x ∷ w) (b ∷ l) r e =
    cases (eqb b x) (λ t. let k = after_length w l r (rw t at e) in omega arith) (λ t. let k = rw t at e in let z : ◌≡◌ {A = ℕ} 0 1 = cc in absurd (omega arith))

behind_length : (f : ℕ → Bool) (l : List ℕ) → length (front f l) + length (behind f l) ≡ length l
behind_length f l = sym (length-append (front f l) (behind f l)) ∙ ap length (front_behind f l)

gap_length : (l r : List ℕ) → after_gap l ≡ Some r → length r + 1 ≤ length l
unfolding after_gap is_gap front
gap_length [] r e = let z : ◌≡◌ {A = ℕ} 0 1 = cc in absurd (omega arith)
gap_length (b ∷ l) r e =
    cases (is_gap b)
    (λ t. let same : behind is_gap (b ∷ l) ≡ r = cc (rw t at e) in omega (arith, behind_length is_gap (b ∷ l), ap length same, first_gap t))
    (λ t. let k = rw t at e in let z : ◌≡◌ {A = ℕ} 0 1 = cc in absurd (omega arith))
  where
    first_gap : is_gap b ≡ true → 1 ≤ length (front is_gap (b ∷ l))
    first_gap t = rw (t, front) (omega arith)

digits_length : (w : List ℕ) (n : ℕ) → unsigned w ≡ Some n → 1 ≤ length w
digits_length [] n e = let k = sym (unsigned_empty [] refl) ∙ e in let z : ◌≡◌ {A = ℕ} 0 1 = cc in absurd (omega arith)
digits_length (b ∷ w) n e = omega arith

-- `p`, a gap, `cnf` and a gap; V, a gap and C
format_length : (line r : List ℕ) → after_format line ≡ Some r → 6 + length r ≤ length line
unfolding after_format
format_length line r e =
    let p = then_there _ _ r e in
    let g = then_there _ _ r p.2 in
    let f = then_there _ _ r g.2 in
    omega (arith, after_length _ line p.0 p.1, gap_length p.0 g.0 g.1, after_length _ g.0 f.0 f.1, gap_length f.0 r f.2)

sizes_length : (l : List ℕ) (s : Sizes) → sizes l ≡ Some s → 3 ≤ length l
unfolding sizes
sizes_length l s e =
    let v = then_there _ _ s e in
    let g = then_there _ _ s v.2 in
    let c = then_there _ _ s g.2 in
    omega (arith, digits_length _ v.0 v.1, behind_length is_digit l, gap_length (behind is_digit l) g.0 g.1, digits_length _ c.0 c.1, behind_length is_digit g.0)

header_length : (line : List ℕ) (s : Sizes) → header_line line ≡ Some s → 9 ≤ length line
unfolding header_line
header_length line s e = let f = then_there _ _ s e in omega (arith, format_length line f.0 f.1, sizes_length f.0 s f.2)

heading_span : (n : ℕ) (ls : List Stretch) (s : Sizes) (rest : List Stretch) → heading n ls ≡ sized s rest → span rest + 10 ≤ span ls
unfolding heading span as_header
heading_span n [] s rest e = let z : ◌≡◌ {A = ℕ} 0 1 = cc in absurd (omega arith)
heading_span n (l ∷ ls) s rest e =
    cases (is_passed l.bytes) (λ t. let k = heading_span n ls s rest (rw t at e) in omega arith) (λ t. here (header_line l.bytes) refl (rw t at e))
  where
    here : (o : Option Sizes) → header_line l.bytes ≡ o → as_header l ls ≡ sized s rest → span rest + 10 ≤ length l.bytes + 1 + span ls
    here None q k = let f = rw (as_header, q) at k in let z : ◌≡◌ {A = ℕ} 0 1 = cc in absurd (omega arith)
    here (Some s') q k = let f = rw (as_header, q) at k in let same : ls ≡ rest = cc in omega (arith, header_length l.bytes s' q, ap span same)

-- The numbers of a text's body.
pub numbers_few : (text : List ℕ) (s : Sizes) (ls : List Stretch) (numbers : List ℤ) → heading_of text ≡ sized s ls → body (words_of ls) ≡ Body.entries numbers
    → 2 * length numbers + 9 ≤ length text
unfolding lines
numbers_few text s ls numbers h b =
    omega (arith, ap length (body_entries (words_of ls) numbers b), numbers_words (words_of ls), lines_few ls, heading_span (length text) (lines 0 text) s ls h, split_span (λ b. eqb b lf) 0 text)
