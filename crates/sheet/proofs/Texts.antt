-- The parts of the sheet's lines, and how long they are.
-- Assumes nothing.
use mathlib.Core.Path.{◌≡◌, refl, sym, ◌∙◌, ap}
use mathlib.Core.List.{List, [], ◌∷◌, ◌++◌, append_assoc, append-nil}
use Prim.Native.Nat.{ℕ, suc, ◌+◌, ◌/◌, ◌%◌, ◌≤◌, ◌<◌}
use native.Mathlib.Nat.{add-zero}
use native.Mathlib.Numerals.{add-one}
use native.Mathlib.Omega.{arith}
use borrow.Author.Tests.{eq-eqb, ne_eqb}
use lib.ListN.{length, get_or, take, drop, length-append, take-append-drop}
use lib.Seq.{take-suc, length-take-le, drop-cons}
use Rattle.clauses.specs.Bytes.{comma, lf, minus}
use Rattle.clauses.specs.Number.{decimal}
use Rattle.clauses.specs.Sign.{is_inverse}
use Rattle.closure.specs.declared.close.Summary.{Summary}
use Rattle.rules.specs.Answer.{Answer}
use Rattle.sheet.specs.Sheet.{names_line, verdict_text, numbers_text, values_line, lead_text, net_line, net_lines, lead_lines, sheet_text, answer_of}

module _ (code : ℕ) where
  pub lead_false : code ≡ 0 → lead_text code ≡ 70 ∷ []
  unfolding lead_text
  lead_false e = rw (eq-eqb _ _ e)

  module _ (p : code ≡ 0 → ⊥) where
    pub lead_true : code ≡ 1 → lead_text code ≡ 84 ∷ []
    unfolding lead_text
    lead_true e = rw (ne_eqb _ _ p, eq-eqb _ _ e)

    module _ (q : code ≡ 1 → ⊥) where
      pub lead_inverse : code % 2 ≡ 1 → lead_text code ≡ minus ∷ decimal (code / 2)
      unfolding lead_text is_inverse
      lead_inverse e = rw (ne_eqb _ _ p, ne_eqb _ _ q, eq-eqb _ _ e)

      pub lead_plain : (code % 2 ≡ 1 → ⊥) → lead_text code ≡ decimal (code / 2)
      unfolding lead_text is_inverse
      lead_plain e = rw (ne_eqb _ _ p, ne_eqb _ _ q, ne_eqb _ _ e)

pub net_length : (w code : ℕ) → length (net_line w code) ≡ length (decimal w ++ (comma ∷ [])) + (length (lead_text code) + 1)
unfolding net_line
net_length w code = length-append (decimal w ++ (comma ∷ [])) (lead_text code ++ (lf ∷ [])) ∙ ap (λ (n : ℕ). length (decimal w ++ (comma ∷ [])) + n) (length-append (lead_text code) (lf ∷ []))

nets_append : (xs ys : List ℕ) (w : ℕ) → net_lines w (xs ++ ys) ≡ net_lines w xs ++ net_lines (w + length xs) ys
unfolding net_lines
nets_append [] ys w = rw add-zero
nets_append (x ∷ xs) ys w =
    rw (nets_append xs ys (suc w))
    (sym (append_assoc (net_line w x) (net_lines (suc w) xs) _) ∙ ap (λ (k : ℕ). (net_line w x ++ net_lines (suc w) xs) ++ net_lines k ys) (omega arith))

module _ (leads : List ℕ) (i : ℕ) where
  -- one net more
  pub nets_next : i < length leads → net_lines 1 (take (i + 1) leads) ≡ net_lines 1 (take i leads) ++ net_line (i + 1) (get_or leads i 0)
  unfolding net_lines
  nets_next h =
      rw (add-one, take-suc leads i 0 h, nets_append (take i leads) (get_or leads i 0 ∷ []) 1, length-take-le i leads (omega arith))
      (ap (λ (l : List ℕ). net_lines 1 (take i leads) ++ l) (append-nil _ ∙ ap (λ (w : ℕ). net_line w (get_or leads i 0)) (omega arith)))

  pub nets_room : i < length leads → length (net_lines 1 (take i leads)) + length (net_line (i + 1) (get_or leads i 0)) ≤ length (net_lines 1 leads)
  unfolding net_lines
  nets_room h =
      let all = ap (λ (l : List ℕ). length (net_lines 1 l)) (sym (take-append-drop i leads)) ∙ ap length (nets_append (take i leads) (drop i leads) 1) in
      let line : net_lines (1 + length (take i leads)) (drop i leads) ≡ net_line (i + 1) (get_or leads i 0) ++ net_lines (suc (i + 1)) (drop (suc i) leads)
      = rw (drop-cons leads i 0 h, length-take-le i leads (omega arith)) (ap (λ (k : ℕ). net_line k (get_or leads i 0) ++ net_lines (suc k) (drop (suc i) leads)) (omega arith)) in
      omega (arith, all, length-append (net_lines 1 (take i leads)) (net_lines (1 + length (take i leads)) (drop i leads)), ap length line, length-append (net_line (i + 1) (get_or leads i 0)) (net_lines (suc (i + 1)) (drop (suc i) leads)))

abbrev word : ℕ → ℕ → ℕ
word n end = length (decimal n ++ (end ∷ []))

pub numbers_length : (v : ℕ) (a : Answer)
    → length (numbers_text v a) ≡ word a.rounds comma + (word v comma + (word a.ands comma + (word a.xors comma + (word a.ites comma + word a.groups lf))))
unfolding numbers_text
numbers_length v a = simp length-append

pub values_length : (v : ℕ) (a : Answer) → length (values_line v a) ≡ length (verdict_text a.verdict) + (1 + length (numbers_text v a))
unfolding values_line
values_length v a = length-append (verdict_text a.verdict) (comma ∷ numbers_text v a) ∙ ap (λ (n : ℕ). length (verdict_text a.verdict) + n) (omega arith)

pub sheet_length : (v : ℕ) (a : Answer) → length (sheet_text v a) ≡ length names_line + (length (values_line v a) + length (lead_lines a.verdict a.leads))
unfolding sheet_text
sheet_length v a = simp length-append

-- the line of values says nothing of the leads
pub values_alone : (v : ℕ) (s : Summary) (leads : List ℕ) → values_line v (answer_of s []) ≡ values_line v (answer_of s leads)
unfolding values_line numbers_text
values_alone v s leads = refl
