-- The numbers of a line, by the places where their digits end.
-- Assumes nothing.
use mathlib.Core.Path.{◌≡◌, sym, ◌∙◌, ap}
use mathlib.Core.List.{List, [], ◌∷◌}
use Rattle.std.specs.Prelude.{Some, None}
use Prim.Native.Nat.{ℕ, ◌+◌, ◌*◌, ◌≤◌, ◌<◌}
use native.Mathlib.Decide.{dec_lt}
use native.Mathlib.Omega.{arith}
use borrow.Author.Tests.{eqb-true, leb-true}
use borrow.Table.Steps.{cases}
use lib.Dec.{eqb, leb}
use lib.ListN.{length, get_or, drop, get_or-eq_default, length-drop}
use Rattle.std.proofs.lemmas.Option.{option_and_then_some}
use Rattle.clauses.specs.Bytes.{space, is_digit, front}
use Rattle.clauses.specs.Number.{unsigned}
use Rattle.clauses.specs.Reading.{after}
use Rattle.clauses.proofs.Magnitudes.{unsigned_small}
use Rattle.clauses.proofs.Words.{unsigned_empty}
use Rattle.aiger.specs.declared.line.Field.{Field}
use Rattle.aiger.specs.Line.{field_at, literal_at}

after_length : (w l r : List ℕ) → after w l ≡ Some r → length l ≡ length w + length r
unfolding after
after_length [] l r e = let same : l ≡ r = cc in omega (arith, ap length same)
after_length (x ∷ xs) [] r e = absurd cc
after_length (x ∷ xs) (b ∷ l) r e = cases (eqb b x) (λ t. let k = rw t at e in omega (arith, after_length xs l r k)) (λ t. let k = rw t at e in absurd cc)

-- the header's first number starts at place 4
pub header_start : (text : List ℕ) (p : ℕ) → after (97 ∷ 97 ∷ 103 ∷ space ∷ []) text ≡ Some (drop p text) → p ≤ length text → p ≡ 4
header_start text p e h = omega (arith, h, after_length (97 ∷ 97 ∷ 103 ∷ space ∷ []) text (drop p text) e, length-drop p text)

module _ (end : ℕ) (text : List ℕ) (p : ℕ) where
  abbrev Digits : List ℕ
  Digits = front is_digit (drop p text)

  -- a number that was read has at most nine digits, and a place further on in the text lies behind it
  pub record FieldRead (f : Field) : Type 0 where
    pub small : f.value < 1000000000
    pub further : p + 2 ≤ f.next
    pub within : f.next ≤ length text

  pub field_read : 0 < end → (f : Field) → field_at end text p ≡ Some f → FieldRead f
  unfolding field_at
  field_read h f e =
      option_and_then_some _ (unsigned Digits) f e (λ n u k.
      cases (eqb (get_or text (p + length Digits) 0) end)
      (λ t. let r = rw t at k in
      let v : n ≡ f.value = cc in
      let q : p + length Digits + 1 ≡ f.next = cc in
      record {
        small = rw (← v) (unsigned_small Digits n u);
        further = omega (arith, q, some_digit n u (dec_lt 0 (length Digits)));
        within = omega (arith, q, inside (eqb-true (get_or text (p + length Digits) 0) end t) (dec_lt (p + length Digits) (length text)));
      })
      (λ t. let r = rw t at k in absurd cc))
    where
      inside : get_or text (p + length Digits) 0 ≡ end → Dec (p + length Digits < length text) → p + length Digits < length text
      inside e (yes k) = k
      inside e (no k) = absurd (omega (arith, h, e, get_or-eq_default text 0 {n = p + length Digits} (omega arith)))

      some_digit : (n : ℕ) → unsigned Digits ≡ Some n → Dec (0 < length Digits) → 0 < length Digits
      some_digit n u (yes k) = k
      some_digit n u (no k) =
          let z : None ≡ Some n = sym (unsigned_empty Digits (omega arith)) ∙ u in
          absurd cc

  -- Literals

  module _ (m : ℕ) where
    -- a literal that was read is such a number, and at most 2M + 1
    pub literal_read : 0 < end → (f : Field) → literal_at m end text p ≡ Some f → FieldRead f × (f.value ≤ 2 * m + 1)
    unfolding literal_at
    literal_read h f e =
        option_and_then_some _ (field_at end text p) f e (λ (g : Field) u k.
        cases (leb g.value (2 * m + 1))
        (λ t. let q = rw t at k in
        let same : g ≡ f = cc in
        rw (← same) (field_read h g u, leb-true g.value (2 * m + 1) t))
        (λ t. let q = rw t at k in absurd cc))
