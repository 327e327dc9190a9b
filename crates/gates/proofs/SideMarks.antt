-- The marks of the sides and the count of the ITEs, as they are made for some places after others.
-- Assumes nothing.
use mathlib.Core.Path.{◌≡◌, refl, sym, ◌∙◌, ap, subst}
use mathlib.Core.Bool.{Bool, true, false, cond, ◌&&◌, true≢false}
use mathlib.Core.List.{List, [], ◌∷◌}
use Prim.Native.Nat.{ℕ, zero, suc, ◌+◌, ◌*◌, ◌≤◌, ◌<◌}
use native.Mathlib.Omega.{arith}
use native.Mathlib.Decide.{ℕ_discrete, dec_lt}
use borrow.Author.Tests.{eq-eqb, ne_eqb, lt-ltb, le-ltb, le-leb, lt-leb}
use borrow.Table.Steps.{cases}
use lib.Dec.{eqb, leb, ltb}
use lib.ListN.{length, get_or, set, length-set}
use lib.Seq.{get_or-set_same, get_or-set_other}
use Rattle.clauses.specs.Lists.{keep}
use Rattle.clauses.proofs.Lists.{keep_yes, keep_no, keep_none}
use Rattle.gates.specs.Normal.{Normal, max_code}
use Rattle.gates.specs.Ites.{is_paired, is_paired_at, Half, halves_at, halves, all_halves, mates, side_mark, Sided, SidesAt, is_plain_half, pairs_of}
use Rattle.gates.proofs.Halves.{two_more, place_inside, pairs_none, pairs_one, no_mark}
use Rattle.gates.proofs.Sizes.{paired_at, LastWith}

-- what passes the third test passes the first or the second, and not both
abbrev pub Adds : (ℕ → Bool) → (ℕ → Bool) → (ℕ → Bool) → Type 0
Adds f g t = (p : ℕ) → cond (t p) 1 0 ≡ cond (f p) 1 0 + cond (g p) 1 0

cond_adds : (a b c : Bool) (v : ℕ) → cond c 1 0 ≡ cond a 1 0 + cond b 1 0 → cond c v 0 ≡ cond a v 0 + cond b v 0
cond_adds true true true v e = absurd (omega arith)
cond_adds true true false v e = absurd (omega arith)
cond_adds true false true v e = omega arith
cond_adds true false false v e = absurd (omega arith)
cond_adds false true true v e = omega arith
cond_adds false true false v e = absurd (omega arith)
cond_adds false false true v e = absurd (omega arith)
cond_adds false false false v e = refl

module _ (row : List ℕ) where
  -- The pairs of halves at some places

  abbrev counted : (ℕ → Bool) → List Half → ℕ
  counted f hs = length (pairs_of row (keep (λ h. f h.place) hs))

  abbrev pairs : Half → ℕ
  pairs h = cond (is_plain_half row h) (length (mates row h)) 0

  counted_none : (f : ℕ → Bool) → counted f [] ≡ 0
  unfolding keep
  counted_none f = pairs_none row

  counted_one : (f : ℕ → Bool) (h : Half) (hs : List Half) → counted f (h ∷ hs) ≡ cond (f h.place) (pairs h) 0 + counted f hs
  counted_one f h hs =
      cases (f h.place) (λ t. rw (t, keep_yes (λ k. f k.place) h hs t) (pairs_one row h (keep (λ k. f k.place) hs)))
      (λ t. rw (t, keep_no (λ k. f k.place) h hs t) (omega arith))

  counted_adds : (f g t : ℕ → Bool) → Adds f g t → (hs : List Half) → counted t hs ≡ counted f hs + counted g hs
  counted_adds f g t a [] = omega (arith, counted_none f, counted_none g, counted_none t)
  counted_adds f g t a (h ∷ hs) =
      omega (
        arith,
        counted_one f h hs,
        counted_one g h hs,
        counted_one t h hs,
        cond_adds (f h.place) (g h.place) (t h.place) (pairs h) (a h.place),
        counted_adds f g t a hs,
      )

  counted_all : (f : ℕ → Bool) → ((p : ℕ) → is_paired row p ≡ true → f p ≡ true) → (hs : List Half) → counted f hs ≡ length (pairs_of row hs)
  unfolding is_plain_half
  counted_all f a [] = omega (arith, counted_none f, pairs_none row)
  counted_all f a (h ∷ hs) =
      let e : cond (f h.place) (pairs h) 0 ≡ pairs h = cases (is_paired row h.place) (λ t. rw (a h.place t)) (λ t. rw t (cases (f h.place) (λ u. rw u) (λ u. rw u))) in
      omega (arith, counted_one f h hs, pairs_one row h hs, e, counted_all f a hs)

  -- at one place
  abbrev is : ℕ → ℕ → Bool
  is p q = eqb q p

  counted_place : (p q : ℕ) → counted (is p) (halves (2 * (q + 1)))
      ≡ cond (is p q) (pairs (record { place = q; after = true })) 0 + (cond (is p q) (pairs (record { place = q; after = false })) 0 + counted (is p) (halves (2 * q)))
  counted_place p q =
      rw (two_more q, counted_one (is p) (record { place = q; after = true }) (record { place = q; after = false } ∷ halves (2 * q)), counted_one (is p) (record { place = q; after = false }) (halves (2 * q)))

  counted_before : (p q : ℕ) → q ≤ p → counted (is p) (halves (2 * q)) ≡ 0
  unfolding halves
  counted_before p zero l = counted_none (is p)
  counted_before p (suc q) l =
      let e : suc q ≡ q + 1 = omega arith in
      rw (e, counted_place p q, ne_eqb q p (omega arith)) (omega (arith, counted_before p q (omega arith)))

  pairs_at : (p : ℕ) → length (pairs_of row (halves_at p)) ≡ pairs (record { place = p; after = true }) + pairs (record { place = p; after = false })
  unfolding halves_at
  pairs_at p =
      rw (pairs_one row (record { place = p; after = false }) (record { place = p; after = true } ∷ []), pairs_one row (record { place = p; after = true }) [])
      (omega (arith, pairs_none row))

  counted_at : (p q : ℕ) → p < q → counted (is p) (halves (2 * q)) ≡ length (pairs_of row (halves_at p))
  counted_at p zero l = absurd (omega arith)
  counted_at p (suc q) l = go (ℕ_discrete q p) (counted_at p q)
    where
      e : suc q ≡ q + 1
      e = omega arith

      go : Dec (q ≡ p) → (p < q → counted (is p) (halves (2 * q)) ≡ length (pairs_of row (halves_at p))) → counted (is p) (halves (2 * suc q)) ≡ length (pairs_of row (halves_at p))
      go (yes i) ih = rw (e, counted_place p q, eq-eqb q p i, i) (omega (arith, counted_before p p (omega arith), pairs_at p))
      go (no n) ih = rw (e, counted_place p q, ne_eqb q p n) (omega (arith, ih (omega arith)))

  -- The marks and the count for some places

  pub sides_none : (f : ℕ → Bool) (marks : List ℕ) (total : ℕ) → ((p : ℕ) → f p ≡ false) → SidesAt row f marks marks total total
  sides_none f marks total n =
      record {
        size = refl;
        at = λ p. rw (n p) (omega arith);
        count = rw (keep_none (λ h. f h.place) (all_halves row) (λ h m. n h.place)) (omega (arith, pairs_none row));
      }

  -- .. then for others
  pub sides_then : (f g t : ℕ → Bool) → Adds f g t → {before marks after : List ℕ} {i j k : ℕ} → SidesAt row f before marks i j → SidesAt row g marks after j k → SidesAt row t before after i k
  sides_then f g t a s u =
      record {
        size = u.size ∙ s.size;
        at = λ p. omega (arith, u.at p, s.at p, cond_adds (f p) (g p) (t p) (side_mark row p) (a p));
        count = omega (arith, u.count, s.count, counted_adds f g t a (all_halves row));
      }

  -- .. at one place
  pub sides_one : (p : ℕ) → p < length row → (marks : List ℕ) → p < length marks → (m n total : ℕ) → m ≡ side_mark row p → n ≡ length (pairs_of row (halves_at p))
      → SidesAt row (is p) marks (set marks p (get_or marks p 0 + m)) total (total + n)
  unfolding all_halves
  sides_one p l marks h m n total e f =
      record { size = length-set marks p _; at = λ q. at q (ℕ_discrete q p); count = omega (arith, f, counted_at p (length row) l) }
    where
      at : (q : ℕ) → Dec (q ≡ p) → get_or (set marks p (get_or marks p 0 + m)) q 0 ≡ get_or marks q 0 + cond (is p q) (side_mark row q) 0
      at q (yes i) = rw (i, get_or-set_same marks p (get_or marks p 0 + m) 0 h, eq-eqb p p refl, e)
      at q (no i) = rw (get_or-set_other marks p q (get_or marks p 0 + m) 0 i, ne_eqb q p i) (omega arith)

  -- .. at all paired places
  pub sides_end : (f : ℕ → Bool) → ((p : ℕ) → is_paired row p ≡ true → f p ≡ true) → (before after : List ℕ) (total : ℕ) → SidesAt row f before after 0 total
      → (total ≡ length (pairs_of row (all_halves row))) × Sided row before after
  sides_end f a before after total s = (
    omega (arith, s.count, counted_all f a (all_halves row)),
    record { size = s.size; at = λ p. s.at p ∙ ap (λ (i : ℕ). get_or before p 0 + i) (all p) },
  )
    where
      all : (p : ℕ) → cond (f p) (side_mark row p) 0 ≡ side_mark row p
      all p = cases (is_paired row p) (λ t. rw (a p t)) (λ t. rw (no_mark row p t) (cases (f p) (λ u. rw u) (λ u. rw u)))

  -- Along the chain of literal x

  -- a paired place of literal x that is not before k
  unfoldable pub isFrom : ℕ → ℕ → ℕ → Bool
  isFrom x k p = is_paired_at row x p && leb k p

  pub from_begin : (x k : ℕ) → LastWith row x (length row) k → (p : ℕ) → isFrom x k p ≡ false
  unfolding isFrom
  from_begin x k o p =
      cases (is_paired_at row x p)
      (λ t. rw (t, lt-leb k p (o.none p (place_inside row p (paired_at row p x t).0) t)))
      (λ t. rw t)

  pub from_on : (x p r : ℕ) → is_paired_at row x p ≡ true → LastWith row x p r → Adds (isFrom x (p + 1)) (is p) (isFrom x r)
  unfolding isFrom
  from_on x p r h o q = cases (is_paired_at row x q) (λ t. here t (ℕ_discrete q p) (dec_lt q (p + 1))) (λ t. rw (t, ne_eqb q p (λ e. true≢false (sym h ∙ rw e at t))))
    where
      here : is_paired_at row x q ≡ true → Dec (q ≡ p) → Dec (q < p + 1) → cond (is_paired_at row x q && leb r q) 1 0 ≡ cond (is_paired_at row x q && leb (p + 1) q) 1 0 + cond (is p q) 1 0
      here t (yes e) d = rw (t, le-leb r q (omega (arith, o.low)), lt-leb (p + 1) q (omega arith), eq-eqb q p e)
      here t (no n) (yes d) = rw (t, lt-leb r q (o.none q (omega arith) t), lt-leb (p + 1) q d, ne_eqb q p n)
      here t (no n) (no d) = rw (t, le-leb r q (omega (arith, o.low)), le-leb (p + 1) q (omega arith), ne_eqb q p n)

  pub from_before : (x p : ℕ) → {before after : List ℕ} {i j : ℕ} → SidesAt row (isFrom x (p + 1)) before after i j → get_or after p 0 ≡ get_or before p 0
  unfolding isFrom
  from_before x p s =
      let e : isFrom x (p + 1) p ≡ false = rw (lt-leb (p + 1) p (omega arith)) (cases (is_paired_at row x p) (λ t. rw t) (λ t. rw t)) in
      omega (arith, rw e at (s.at p))

  from_all : (x k : ℕ) → k ≤ 0 → (p : ℕ) → isFrom x k p ≡ is_paired_at row x p
  unfolding isFrom
  from_all x k l p = rw (le-leb k p (omega arith)) (cases (is_paired_at row x p) (λ t. rw t) (λ t. rw t))

  pub from_end : (x k : ℕ) → k ≤ 0 → {before after : List ℕ} {i j : ℕ} → SidesAt row (isFrom x k) before after i j → SidesAt row (is_paired_at row x) before after i j
  from_end x k l {before} {after} {i} {j} s = subst (λ (f : ℕ → Bool). SidesAt row f before after i j) (λ u p. from_all x k l p u) s

  -- From literal to literal

  -- a paired place of a literal below x
  unfoldable pub isBelow : ℕ → ℕ → Bool
  isBelow x p = is_paired row p && ltb (get_or row p 0) x

  pub below_begin : (p : ℕ) → isBelow 0 p ≡ false
  unfolding isBelow
  below_begin p = cases (is_paired row p) (λ t. rw (t, le-ltb (get_or row p 0) 0 (omega arith))) (λ t. rw t)

  pub below_before : (x p : ℕ) → is_paired_at row x p ≡ true → {before after : List ℕ} {i j : ℕ} → SidesAt row (isBelow x) before after i j → get_or after p 0 ≡ get_or before p 0
  unfolding isBelow
  below_before x p t s =
      let a = paired_at row p x t in
      let e : isBelow x p ≡ false = rw (a.0, le-ltb (get_or row p 0) x (omega (arith, a.1))) in
      omega (arith, rw e at (s.at p))

  pub below_on : (x : ℕ) → Adds (isBelow x) (is_paired_at row x) (isBelow (x + 1))
  unfolding isBelow is_paired_at
  below_on x p = cases (is_paired row p) (λ t. rw t (here (ℕ_discrete (get_or row p 0) x) (dec_lt (get_or row p 0) x))) (λ t. rw t)
    where
      here : Dec (get_or row p 0 ≡ x) → Dec (get_or row p 0 < x) → cond (ltb (get_or row p 0) (x + 1)) 1 0 ≡ cond (ltb (get_or row p 0) x) 1 0 + cond (eqb (get_or row p 0) x) 1 0
      here (yes e) d = rw (lt-ltb (get_or row p 0) (x + 1) (omega arith), le-ltb (get_or row p 0) x (omega arith), eq-eqb (get_or row p 0) x e)
      here (no n) (yes d) = rw (lt-ltb (get_or row p 0) (x + 1) (omega arith), lt-ltb (get_or row p 0) x d, ne_eqb (get_or row p 0) x n)
      here (no n) (no d) = rw (le-ltb (get_or row p 0) (x + 1) (omega arith), le-ltb (get_or row p 0) x (omega arith), ne_eqb (get_or row p 0) x n)

  pub below_end : Normal row → (x : ℕ) → max_code < x → (p : ℕ) → is_paired row p ≡ true → isBelow x p ≡ true
  unfolding isBelow
  below_end n x l p t = rw (t, lt-ltb (get_or row p 0) x (omega (arith, n.small p)))
