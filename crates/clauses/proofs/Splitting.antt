-- Laws of the parts of a text: every, front, behind, split.
-- Assumes nothing.
use mathlib.Core.Path.{◌≡◌, refl, sym, ap, ◌∙◌}
use mathlib.Core.Bool.{Bool, true, false, cond, not, and-eq-true_iff}
use mathlib.Core.List.{List, [], ◌∷◌, ◌++◌, append-nil}
use Prim.Native.Nat.{ℕ, zero, suc, ◌+◌, ◌≤◌, ◌<◌}
use native.Mathlib.Nat.{add-zero}
use native.Mathlib.Numerals.{add-one}
use native.Mathlib.Omega.{arith}
use borrow.Author.Tests.{not-true}
use borrow.Table.Steps.{cases}
use lib.ListN.{length, get_or}
use Rattle.clauses.specs.Bytes.{every, front, behind, Stretch, widen, split}

-- every, front and behind
module _ (f : ℕ → Bool) where
  pub every_head : (b : ℕ) (l : List ℕ) → every f (b ∷ l) ≡ true → f b ≡ true
  unfolding every
  every_head b l e = ((and-eq-true_iff (f b) (every f l)).0 e).0

  pub every_tail : (b : ℕ) (l : List ℕ) → every f (b ∷ l) ≡ true → every f l ≡ true
  unfolding every
  every_tail b l e = ((and-eq-true_iff (f b) (every f l)).0 e).1

  pub every_cons : (b : ℕ) (l : List ℕ) → f b ≡ true → every f l ≡ true → every f (b ∷ l) ≡ true
  unfolding every
  every_cons b l h t = (and-eq-true_iff (f b) (every f l)).1 (h, t)

  pub every_append : (l r : List ℕ) → every f l ≡ true → every f r ≡ true → every f (l ++ r) ≡ true
  every_append [] r el er = er
  every_append (b ∷ l) r el er = every_cons b (l ++ r) (every_head b l el) (every_append l r (every_tail b l el) er)

  pub every_first : (l : List ℕ) (d : ℕ) → every f l ≡ true → 1 ≤ length l → f (get_or l 0 d) ≡ true
  every_first [] d e h = absurd (omega arith)
  every_first (b ∷ l) d e h = every_head b l e

  pub every_at : (l : List ℕ) (i : ℕ) → every f l ≡ true → i < length l → f (get_or l i 0) ≡ true
  every_at [] i e h = absurd (omega arith)
  every_at (b ∷ l) zero e h = every_head b l e
  every_at (b ∷ l) (suc i) e h = every_at l i (every_tail b l e) (omega arith)

  pub every_weaken : (g : ℕ → Bool) → ((b : ℕ) → g b ≡ true → f b ≡ true) → (l : List ℕ) → every g l ≡ true → every f l ≡ true
  unfolding every
  every_weaken g w [] e = refl
  every_weaken g w (b ∷ l) e =
      let both : (g b ≡ true) × (every g l ≡ true) = (and-eq-true_iff (g b) (every g l)).0 e in
      every_cons b l (w b both.0) (every_weaken g w l both.1)

  pub front_true : (b : ℕ) (l : List ℕ) → f b ≡ true → front f (b ∷ l) ≡ b ∷ front f l
  unfolding front
  front_true b l e = rw e

  pub front_false : (b : ℕ) (l : List ℕ) → f b ≡ false → front f (b ∷ l) ≡ []
  unfolding front
  front_false b l e = rw e

  pub behind_true : (b : ℕ) (l : List ℕ) → f b ≡ true → behind f (b ∷ l) ≡ behind f l
  unfolding behind
  behind_true b l e = rw (front_true b l e)

  behind_false : (b : ℕ) (l : List ℕ) → f b ≡ false → behind f (b ∷ l) ≡ b ∷ l
  unfolding behind
  behind_false b l e = rw (front_false b l e)

  pub behind_none : (l : List ℕ) → f (get_or l 0 0) ≡ false → behind f l ≡ l
  unfolding front behind
  behind_none [] e = refl
  behind_none (b ∷ l) e = behind_false b l e

  pub every_front : (l : List ℕ) → every f (front f l) ≡ true
  unfolding every front
  every_front [] = refl
  every_front (b ∷ l) =
      cases (f b) (λ e. rw (front_true b l e) (every_cons b (front f l) e (every_front l))) (λ e. rw e)

  -- what is behind starts with a byte that has not the property
  pub behind_head : (l : List ℕ) (b : ℕ) (r : List ℕ) → behind f l ≡ b ∷ r → f b ≡ false
  unfolding front behind
  behind_head [] b r e = let z : ◌≡◌ {A = ℕ} 0 1 = cc in absurd (omega arith)
  behind_head (x ∷ l) b r e = cases (f x) (λ t. behind_head l b r (sym (behind_true x l t) ∙ e)) (λ t. let s : x ≡ b = cc (behind_false x l t) in rw (← s) t)

  pub front_behind : (l : List ℕ) → front f l ++ behind f l ≡ l
  unfolding front behind
  front_behind [] = refl
  front_behind (b ∷ l) = cases (f b) (λ e. rw (front_true b l e) (ap (λ (k : List ℕ). b ∷ k) (front_behind l))) (λ e. rw (front_false b l e))

  pub front_append : (l r : List ℕ) → every f l ≡ true → front f (l ++ r) ≡ l ++ front f r
  front_append [] r e = refl
  front_append (b ∷ l) r e =
      front_true b (l ++ r) (every_head b l e) ∙ ap (λ (k : List ℕ). b ∷ k) (front_append l r (every_tail b l e))

  behind_append : (l r : List ℕ) → every f l ≡ true → behind f (l ++ r) ≡ behind f r
  behind_append [] r e = refl
  behind_append (b ∷ l) r e = behind_true b (l ++ r) (every_head b l e) ∙ behind_append l r (every_tail b l e)

  pub front_all : (l : List ℕ) → every f l ≡ true → front f l ≡ l
  unfolding front
  front_all l e = ap (front f) (sym (append-nil l)) ∙ front_append l [] e ∙ append-nil l

  pub behind_all : (l : List ℕ) → every f l ≡ true → behind f l ≡ []
  unfolding front behind
  behind_all l e = ap (behind f) (sym (append-nil l)) ∙ behind_append l [] e

  pub front_stop : (l : List ℕ) (b : ℕ) (r : List ℕ) → every f l ≡ true → f b ≡ false → front f (l ++ b ∷ r) ≡ l
  front_stop l b r e h = front_append l (b ∷ r) e ∙ rw (front_false b r h) (append-nil l)

  pub behind_stop : (l : List ℕ) (b : ℕ) (r : List ℕ) → every f l ≡ true → f b ≡ false → behind f (l ++ b ∷ r) ≡ b ∷ r
  behind_stop l b r e h = behind_append l (b ∷ r) e ∙ behind_false b r h

-- split

-- the stretches after the first
unfoldable pub following : (ℕ → Bool) → ℕ → List ℕ → List Stretch
following f p [] = []
following f p (b ∷ l) = cond (f b) (split f (suc p) l) (following f (suc p) l)

module _ (f : ℕ → Bool) where
  -- the bytes that lack the property
  abbrev pub lacks : ℕ → Bool
  lacks b = not (f b)

  pub split_true : (p b : ℕ) (l : List ℕ) → f b ≡ true → split f p (b ∷ l) ≡ record { place = p; bytes = [] } ∷ split f (suc p) l
  unfolding split
  split_true p b l e = rw e

  pub split_first : (p : ℕ) (l : List ℕ) → split f p l ≡ record { place = p; bytes = front lacks l } ∷ following f p l
  unfolding split following front widen
  split_first p [] = refl
  split_first p (b ∷ l) = cases (f b) (λ e. rw e) (λ e. rw (e, split_first (suc p) l))

  lacks_head : (b : ℕ) (l : List ℕ) → every lacks (b ∷ l) ≡ true → f b ≡ false
  lacks_head b l e = not-true (f b) (every_head lacks b l e)

  pub following_true : (p b : ℕ) (l : List ℕ) → f b ≡ true → following f p (b ∷ l) ≡ split f (suc p) l
  unfolding following
  following_true p b l e = rw e

  pub following_false : (p b : ℕ) (l : List ℕ) → f b ≡ false → following f p (b ∷ l) ≡ following f (suc p) l
  unfolding following
  following_false p b l e = rw e

  pub following_append : (p : ℕ) (l r : List ℕ) → every lacks l ≡ true → following f p (l ++ r) ≡ following f (p + length l) r
  unfolding following
  following_append p [] r e = rw add-zero
  following_append p (b ∷ l) r e =
      rw (lacks_head b l e)
      (following_append (suc p) l r (every_tail lacks b l e) ∙ ap (λ (q : ℕ). following f q r) (omega arith))

  pub following_at : (p : ℕ) (l : List ℕ) (b : ℕ) (r : List ℕ) → every lacks l ≡ true → f b ≡ true → following f p (l ++ b ∷ r) ≡ split f (p + length l + 1) r
  unfolding following
  following_at p l b r e h = following_append p l (b ∷ r) e ∙ rw (h, add-one)

  pub following_none : (p : ℕ) (l : List ℕ) → every lacks l ≡ true → following f p l ≡ []
  unfolding following
  following_none p l e = ap (following f p) (sym (append-nil l)) ∙ following_append p l [] e

  -- a stretch that ends at the byte b, and one that ends with the text
  pub split_at : (p : ℕ) (l : List ℕ) (b : ℕ) (r : List ℕ) → every lacks l ≡ true → f b ≡ true → split f p (l ++ b ∷ r) ≡ record { place = p; bytes = l } ∷ split f (p + length l + 1) r
  split_at p l b r e h =
      split_first p (l ++ b ∷ r) ∙ rw (front_stop lacks l b r e (ap not h), following_at p l b r e h)

  pub split_none : (p : ℕ) (l : List ℕ) → every lacks l ≡ true → split f p l ≡ record { place = p; bytes = l } ∷ []
  split_none p l e = split_first p l ∙ rw (front_all lacks l e, following_none p l e)
