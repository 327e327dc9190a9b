-- The header line read from left to right.
-- Assumes nothing.
use mathlib.Core.Path.{◌≡◌, refl, sym, ◌∙◌, ap}
use mathlib.Core.Bool.{Bool, true, false, ◌&&◌}
use mathlib.Core.List.{List, [], ◌∷◌}
use Rattle.std.specs.List.{list_all, starts_with}
use Rattle.std.specs.Prelude.{Option, None, Some, nat_eq, cond, slice_range}
use Prim.Native.Nat.{ℕ, ◌+◌, ◌≤◌, ◌<◌}
use native.Mathlib.Omega.{arith}
use borrow.Author.Tests.{eq-eqb, ne_eqb, eqb-true, eqb-false}
use borrow.Table.Steps.{cases}
use lib.Dec.{eqb, eqb-suc-suc, eqb-zero-suc}
use lib.ListN.{length, get_or, drop, length-drop}
use lib.Seq.{drop-drop}
use Rattle.std.proofs.lemmas.List.{take_rest}
use Rattle.clauses.specs.Bytes.{letter_c, is_blank, is_gap, is_digit, every, front, behind}
use Rattle.clauses.specs.Number.{unsigned}
use Rattle.clauses.specs.Reading.{is_comment, is_passed, after, after_gap, then}
use Rattle.clauses.specs.Scanning.{digits_at}
use Rattle.clauses.specs.declared.number.Unsigned.{Unsigned}
use Rattle.clauses.proofs.Runs.{run_behind, run_within}
use Rattle.clauses.proofs.Words.{read_value, no_unsigned, unsigned_empty}

-- Two steps: where the first is missing, or there; and where both come to something

pub then_none : {A B : Type 0} {o : Option A} (f : A → Option B) → o ≡ None → then o f ≡ None
then_none f e = rw e

pub then_some : {A B : Type 0} {o : Option A} (f : A → Option B) (a : A) → o ≡ Some a → then o f ≡ f a
then_some f a e = rw e

pub then_there : {A B : Type 0} (o : Option A) (f : A → Option B) (b : B) → then o f ≡ Some b → (a : A) × (o ≡ Some a) × (f a ≡ Some b)
then_there None f b e = let z : ◌≡◌ {A = ℕ} 0 1 = cc in absurd (omega arith)
then_there (Some a) f b e = (a, refl, e)

pub then_elim : {A B P : Type 0} (o : Option A) (f : A → Option B) (b : B) → then o f ≡ Some b → ((a : A) → o ≡ Some a → f a ≡ Some b → P) → P
then_elim o f b e k = let t = then_there o f b e in k t.0 t.1 t.2

-- A word

-- what follows it, where the text starts with it
after_word : (word l : List ℕ) → after word l ≡ cond (starts_with nat_eq l word) (Some (drop (length word) l)) None
unfolding after
after_word [] l = refl
after_word (x ∷ xs) [] = refl
after_word (x ∷ xs) (b ∷ l) = cases (eqb b x) (λ t. rw (t, eq-eqb x b (sym (eqb-true b x t))) (after_word xs l)) (λ t. rw (t, ne_eqb x b (λ e. eqb-false b x t (sym e))))

module _ (word line : List ℕ) (at : ℕ) where
  after_at : after word (drop at line) ≡ cond (starts_with nat_eq (slice_range line at (length line)) word) (Some (drop (at + length word) line)) None
  after_at = after_word word (drop at line) ∙ rw (take_rest, drop-drop)

  pub word_there : starts_with nat_eq (slice_range line at (length line)) word ≡ true → after word (drop at line) ≡ Some (drop (at + length word) line)
  word_there e = after_at ∙ rw e

  pub word_missing : starts_with nat_eq (slice_range line at (length line)) word ≡ false → after word (drop at line) ≡ None
  word_missing e = after_at ∙ rw e

-- Gaps, digits and blanks, by the place where they end

gap_first : (l : List ℕ) → 0 < length (front is_gap l) → is_gap (get_or l 0 0) ≡ true
unfolding front
gap_first [] h = absurd (omega arith)
gap_first (b ∷ l) h = cases (is_gap b) (λ t. t) (λ t. absurd (omega (arith, rw t at h)))

gap_not_first : (l : List ℕ) → length (front is_gap l) ≡ 0 → is_gap (get_or l 0 0) ≡ false
unfolding front is_gap
gap_not_first [] h = refl
gap_not_first (b ∷ l) h = cases (is_gap b) (λ t. absurd (omega (arith, rw t at h))) (λ t. t)

module _ (line : List ℕ) (at end : ℕ) (e : end ≡ at + length (front is_gap (drop at line))) where
  pub gap_none : end ≡ at → after_gap (drop at line) ≡ None
  unfolding after_gap
  gap_none h = rw (gap_not_first (drop at line) (omega arith))

  pub gap_some : (end ≡ at → ⊥) → (after_gap (drop at line) ≡ Some (drop end line)) × (end ≤ length line)
  unfolding after_gap
  gap_some h = (rw (gap_first (drop at line) (omega arith), run_behind is_gap line at end e), run_within is_gap line at end e h)

module _ (line : List ℕ) (at : ℕ) where
  module _ (u : Unsigned) (e : digits_at (drop at line) at ≡ Some u) where
    pub digits_number : unsigned (front is_digit (drop at line)) ≡ Some u.value
    unfolding unsigned
    digits_number = let r = read_value (front is_digit (drop at line)) at u e in rw (r.1.1, r.0)

    pub digits_within : u.end ≤ length line
    digits_within = run_within is_digit line at u.end (sym (read_value (front is_digit (drop at line)) at u e).1.0) (λ h. empty (unsigned_empty (front is_digit (drop at line)) (omega (arith, (read_value (front is_digit (drop at line)) at u e).1.0))))
      where
        empty : unsigned (front is_digit (drop at line)) ≡ None → ⊥
        empty z = let k : None ≡ Some u.value = sym z ∙ digits_number in let q : ◌≡◌ {A = ℕ} 0 1 = cc in omega arith

    pub digits_behind : behind is_digit (drop at line) ≡ drop u.end line
    digits_behind = run_behind is_digit line at u.end (sym (read_value (front is_digit (drop at line)) at u e).1.0)

  pub digits_not : digits_at (drop at line) at ≡ None → unsigned (front is_digit (drop at line)) ≡ None
  unfolding unsigned
  digits_not e = rw (no_unsigned (front is_digit (drop at line)) at e)

every_run : (f : ℕ → Bool) (l : List ℕ) → every f l ≡ eqb (length (front f l)) (length l)
unfolding every front
every_run f [] = refl
every_run f (b ∷ l) = cases (f b) (λ t. rw t (every_run f l ∙ sym (eqb-suc-suc (length (front f l)) (length l)))) (λ t. rw t (sym (eqb-zero-suc (length l))))

-- the bytes from a place on are all blanks where their run ends with the line
pub blanks_to_end : (line : List ℕ) (at end : ℕ) → at ≤ length line → end ≡ at + length (front is_blank (drop at line)) → every is_blank (drop at line) ≡ eqb end (length line)
blanks_to_end line at end h e = every_run is_blank (drop at line) ∙ cases (eqb end (length line)) yes_end no_end
  where
    yes_end : eqb end (length line) ≡ true → eqb (length (front is_blank (drop at line))) (length (drop at line)) ≡ eqb end (length line)
    yes_end t = eq-eqb (length (front is_blank (drop at line))) (length (drop at line)) (omega (arith, e, h, eqb-true end (length line) t, length-drop at line)) ∙ sym t

    no_end : eqb end (length line) ≡ false → eqb (length (front is_blank (drop at line))) (length (drop at line)) ≡ eqb end (length line)
    no_end t = ne_eqb (length (front is_blank (drop at line))) (length (drop at line)) (λ k. eqb-false end (length line) t (omega (arith, e, h, k, length-drop at line))) ∙ sym t

-- Lines that are passed over

comment_is : (line : List ℕ) → starts_with nat_eq line (letter_c ∷ []) ≡ is_comment line
unfolding is_comment
comment_is [] = refl
comment_is (b ∷ l) = cases (eqb b letter_c) (λ t. rw (t, eq-eqb letter_c b (sym (eqb-true b letter_c t)))) (λ t. rw (t, ne_eqb letter_c b (λ e. eqb-false b letter_c t (sym e))))

every_is : (f : ℕ → Bool) (l : List ℕ) → list_all f l ≡ every f l
unfolding every
every_is f [] = refl
every_is f (b ∷ l) = ap (λ (t : Bool). f b && t) (every_is f l)

module _ (line : List ℕ) where
  pub comment_passed : starts_with nat_eq line (letter_c ∷ []) ≡ true → is_passed line ≡ true
  unfolding is_passed
  comment_passed h = rw (sym (comment_is line) ∙ h)

  pub blanks_passed : starts_with nat_eq line (letter_c ∷ []) ≡ false → is_passed line ≡ list_all is_blank line
  unfolding is_passed
  blanks_passed h = rw (sym (comment_is line) ∙ h, every_is)

-- V and C, part by part
pub ruleset size_parts = (digits_not, digits_number, digits_behind, digits_within, blanks_to_end)
