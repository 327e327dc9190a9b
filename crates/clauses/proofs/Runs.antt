-- Runs of bytes with a property, by their place in a text.
-- Assumes nothing.
use mathlib.Core.Path.{◌≡◌, refl, sym, ◌∙◌, ap}
use mathlib.Core.Bool.{Bool, true, false}
use mathlib.Core.List.{List, [], ◌∷◌}
use Prim.Native.Nat.{ℕ, zero, suc, ◌+◌, ◌-◌, ◌≤◌, ◌<◌}
use native.Mathlib.Decide.{dec_lt}
use native.Mathlib.Nat.{add-zero}
use native.Mathlib.Numerals.{add-one}
use native.Mathlib.Omega.{arith}
use borrow.Table.Steps.{cases}
use lib.ListN.{length, get_or, take, drop, drop_of_length-le, length-drop}
use lib.Seq.{drop-cons, drop-drop, take-append_seam}
use Rattle.clauses.specs.Bytes.{front, behind}
use Rattle.clauses.proofs.Splitting.{behind_head, front_behind}

pub front_length : (f : ℕ → Bool) (l : List ℕ) → length (front f l) ≤ length l
unfolding front
front_length f [] = omega arith
front_length f (b ∷ l) = let h : length (front f l) ≤ length l = front_length f l in cases (f b) (λ t. rw t (omega arith)) (λ t. rw t (omega arith))

-- a run item by item
module _ {A : Type 0} (f : A → Bool) (items : List A) (i : ℕ) where
  pub past_end : length items ≤ i → front f (drop i items) ≡ []
  unfolding front
  past_end h = rw (drop_of_length-le items h)

  module _ (x : A) (e : x ≡ get_or items i x) (h : i < length items) where
    pub stops_at : f x ≡ false → front f (drop i items) ≡ []
    unfolding front
    stops_at t = rw (drop-cons items i x h, ← e, t)

    pub goes_on_at : f x ≡ true → front f (drop i items) ≡ x ∷ front f (drop (i + 1) items)
    unfolding front
    goes_on_at t = rw (drop-cons items i x h, ← e, t, add-one)

module _ (f : ℕ → Bool) (text : List ℕ) (i : ℕ) where
  pub run_none : length text ≤ i → front f (drop i text) ≡ []
  unfolding front
  run_none h = rw (drop_of_length-le text h)

  pub run_stops : i < length text → f (get_or text i 0) ≡ false → front f (drop i text) ≡ []
  unfolding front
  run_stops h e = rw (drop-cons text i 0 h, e)

  pub run_goes_on : i < length text → f (get_or text i 0) ≡ true → front f (drop i text) ≡ get_or text i 0 ∷ front f (drop (i + 1) text)
  unfolding front
  run_goes_on h e = rw (drop-cons text i 0 h, e, add-one)

  -- a run that is not empty: the byte at hand is in it
  pub run_inside : 0 < length (front f (drop i text)) → (i < length text) × (f (get_or text i 0) ≡ true)
  run_inside h = go (dec_lt i (length text)) (f (get_or text i 0)) refl
    where
      go : Dec (i < length text) → (b : Bool) → f (get_or text i 0) ≡ b → (i < length text) × (f (get_or text i 0) ≡ true)
      go (no k) b e = absurd (omega (arith, ap length (run_none (omega arith))))
      go (yes k) true e = (k, e)
      go (yes k) false e = absurd (omega (arith, ap length (run_stops k e)))

-- a run that is not empty ends in the text
pub run_within : (f : ℕ → Bool) (text : List ℕ) (at end : ℕ) → end ≡ at + length (front f (drop at text)) → (end ≡ at → ⊥) → end ≤ length text
run_within f text at end e h =
    omega (arith, (run_inside f text at (omega arith)).0, front_length f (drop at text), length-drop at text)

-- every byte of a run has the property
pub run_byte : (f : ℕ → Bool) (text : List ℕ) (j i : ℕ) → j < length (front f (drop i text)) → f (get_or text (i + j) 0) ≡ true
run_byte f text zero i h = rw (add-zero) (run_inside f text i h).1
run_byte f text (suc j) i h =
    let here = run_inside f text i (omega arith) in
    let next : j < length (front f (drop (i + 1) text)) = omega (arith, ap length (run_goes_on f text i here.0 here.1)) in
    let place : i + suc j ≡ i + 1 + j = omega arith in
    rw place (run_byte f text j (i + 1) next)

-- where a run ends
module _ (f : ℕ → Bool) (text : List ℕ) (i end : ℕ) (e : end ≡ i + length (front f (drop i text))) where
  -- the run as a part of the text
  pub run_part : take (end - i) (drop i text) ≡ front f (drop i text)
  run_part =
      let n : end - i ≡ length (front f (drop i text)) = omega arith in
      rw n (ap (take (length (front f (drop i text)))) (sym (front_behind f (drop i text))) ∙ take-append_seam (front f (drop i text)) (behind f (drop i text)))

  -- .. is in the text or at its end
  pub run_low : i ≤ length text → end ≤ length text
  run_low h = omega (arith, front_length f (drop i text), length-drop i text)

  -- what is behind it
  pub run_behind : behind f (drop i text) ≡ drop end text
  unfolding behind
  run_behind = rw (drop-drop, ← e)

  -- the byte there has not the property
  pub run_stopped : end < length text → f (get_or text end 0) ≡ false
  run_stopped h = behind_head f (drop i text) (get_or text end 0) (drop (suc end) text) (run_behind ∙ drop-cons text end 0 h)

-- a run, byte by byte
pub ruleset runs = (past_end, stops_at, goes_on_at)
