-- Bytes that are written one after another.
-- Assumes nothing.
use mathlib.Core.Path.{◌≡◌, refl, ap, sym, ◌∙◌}
use mathlib.Core.List.{List, [], ◌∷◌, ◌++◌}
use Prim.Native.Nat.{ℕ, suc, ◌+◌, ◌≤◌}
use native.Mathlib.Nat.{add-zero}
use native.Mathlib.Omega.{arith}
use lib.ListN.{length, set, drop, length-append}
use lib.Seq.{sets, sets-eq}
use Rattle.clauses.specs.Writing.{Wrote}

pub sets_append : {A : Type 0} (l : List A) (i : ℕ) (xs ys : List A) → sets l i (xs ++ ys) ≡ sets (sets l i xs) (i + length xs) ys
sets_append l i [] ys = rw add-zero
sets_append l i (x ∷ xs) ys =
    sets_append (set l i x) (suc i) xs ys
    ∙ ap (λ (k : ℕ). sets (sets (set l i x) (suc i) xs) k ys) (omega arith)

pub wrote_none : (l : List ℕ) (at : ℕ) → Wrote l at [] l at
wrote_none l at = record { content = refl; end = omega arith }

pub wrote_then : {l l' l'' xs ys : List ℕ} {at m n : ℕ} → Wrote l at xs l' m → Wrote l' m ys l'' n → Wrote l at (xs ++ ys) l'' n
wrote_then {l} {l'} {l''} {xs} {ys} {at} {m} {n} a b =
    record {
      content = b.content ∙ rw (a.content, a.end) (sym (sets_append l at xs ys));
      end = omega (arith, length-append xs ys, a.end, b.end);
    }

-- what is written from the start on stands there, and the rest is as it was
pub wrote_start : {l l' xs : List ℕ} {n : ℕ} → Wrote l 0 xs l' n → length xs ≤ length l → l' ≡ xs ++ drop (length xs) l
wrote_start {l} {l'} {xs} w h =
    let k : 0 + length xs ≡ length xs = omega arith in
    w.content ∙ sets-eq xs l 0 (rw k h) ∙ ap (λ (n : ℕ). xs ++ drop n l) k
