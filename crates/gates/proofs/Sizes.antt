-- The halves with one literal by their outputs: how they are counted, and the counts cleared, along the chain of the literal's places.
-- Assumes nothing.
use mathlib.Core.Path.{◌≡◌, refl, sym, ◌∙◌, ap}
use mathlib.Core.Bool.{Bool, true, false, not, cond, true≢false}
use mathlib.Core.List.{List, ◌∷◌}
use Prim.Native.Nat.{ℕ, zero, suc, ◌+◌, ◌*◌, ◌≤◌, ◌<◌}
use native.Mathlib.Omega.{arith}
use native.Mathlib.Decide.{ℕ_discrete}
use borrow.Author.Tests.{eq-eqb, ne_eqb, eqb-true}
use borrow.Table.Steps.{cases}
use lib.Dec.{eqb}
use lib.ListN.{length, get_or, set, length-set}
use lib.Seq.{get_or-set_same, get_or-set_other}
use Rattle.clauses.specs.Lists.{keep}
use Rattle.clauses.specs.Chains.{Last}
use Rattle.clauses.proofs.Lists.{and_both, both_and, keep_one, keep_length, has_keep}
use Rattle.clauses.proofs.Chains.{chain_passed, chain_linked}
use Rattle.gates.specs.Ites.{other, is_paired, is_paired_at, halves, all_halves, output, side, is_of, is_half, size_of, PlacesChained, Sized}
use Rattle.gates.proofs.Halves.{halves_length, two_more, place_inside}
use Rattle.gates.proofs.Mates.{in_all, of_some}

module _ (row : List ℕ) where
  -- The chains

  pub paired_at : (p x : ℕ) → is_paired_at row x p ≡ true → (is_paired row p ≡ true) × (get_or row p 0 ≡ x)
  unfolding is_paired_at
  paired_at p x h = let a = and_both (is_paired row p) _ h in (a.0, eqb-true (get_or row p 0) x a.1)

  pub at_paired : (p : ℕ) → is_paired row p ≡ true → is_paired_at row (get_or row p 0) p ≡ true
  unfolding is_paired_at
  at_paired p h = both_and h (eq-eqb (get_or row p 0) (get_or row p 0) refl)

  module _ (p : ℕ) (heads chain : List ℕ) (c : PlacesChained row p heads chain) where
    pub place_linked : is_paired row p ≡ true → get_or row p 0 < length heads → p < length chain → (heads' chain' : List ℕ) → heads' ≡ set heads (get_or row p 0) (p + 1)
        → chain' ≡ set chain p (get_or heads (get_or row p 0) 0) → PlacesChained row (p + 1) heads' chain'
    place_linked t = chain_linked _ p heads chain c (get_or row p 0) (at_paired p t) (λ x h. sym (paired_at p x h).1)

    pub place_passed : is_paired row p ≡ false → PlacesChained row (p + 1) heads chain
    place_passed f = chain_passed _ p heads chain c (λ x h. true≢false (sym (paired_at p x h).0 ∙ f))

module _ (row : List ℕ) (x : ℕ) where
  -- k is the last place before m with literal x, counted from 1
  abbrev pub LastWith : ℕ → ℕ → Type 0
  LastWith = Last (λ p y. is_paired_at row y p ≡ true) x

  -- The sizes

  -- halves at places of another literal, and at places that are not paired
  elsewhere : (y p : ℕ) (a : Bool) → is_paired_at row x p ≡ false → is_of row x y (record { place = p; after = a }) ≡ false
  unfolding is_of
  elsewhere y p a f = rw f

  here : (y p : ℕ) (a : Bool) → is_paired_at row x p ≡ true → is_of row x y (record { place = p; after = a }) ≡ eqb (other row p a) y
  unfolding is_of output
  here y p a t = rw t

  size_place : (y p : ℕ) → size_of row x y (2 * (p + 1))
      ≡ cond (is_of row x y (record { place = p; after = true })) 1 0 + (cond (is_of row x y (record { place = p; after = false })) 1 0 + size_of row x y (2 * p))
  unfolding size_of
  size_place y p =
      rw (two_more p, keep_one (is_of row x y) (record { place = p; after = true }) (record { place = p; after = false } ∷ halves (2 * p)), keep_one (is_of row x y) (record { place = p; after = false }) (halves (2 * p)))

  size_passed : (y p : ℕ) → is_paired_at row x p ≡ false → size_of row x y (2 * (p + 1)) ≡ size_of row x y (2 * p)
  size_passed y p f = size_place y p ∙ rw (elsewhere y p true f, elsewhere y p false f) (omega arith)

  size_here : (y p : ℕ) → is_paired_at row x p ≡ true
      → size_of row x y (2 * (p + 1)) ≡ cond (eqb (other row p true) y) 1 0 + (cond (eqb (other row p false) y) 1 0 + size_of row x y (2 * p))
  size_here y p t = size_place y p ∙ rw (here y p true t, here y p false t)

  pub size_few : (y : ℕ) → size_of row x y (2 * length row) ≤ 2 * length row
  unfolding size_of
  size_few y = omega (arith, keep_length (is_of row x y) (halves (2 * length row)), halves_length (2 * length row))

  size_none : (y : ℕ) → size_of row x y (2 * 0) ≡ 0
  unfolding size_of halves keep
  size_none y = refl

  size_last : (y k r : ℕ) → Last (λ p u. is_paired_at row u p ≡ true) x k r → size_of row x y (2 * k) ≡ size_of row x y (2 * r)
  size_last y zero r o = let e : r ≡ 0 = omega (arith, o.low) in rw e
  size_last y (suc k) r o = go (ℕ_discrete r (suc k)) (size_last y k r)
    where
      go : Dec (r ≡ suc k) → (Last (λ p u. is_paired_at row u p ≡ true) x k r → size_of row x y (2 * k) ≡ size_of row x y (2 * r)) → size_of row x y (2 * suc k) ≡ size_of row x y (2 * r)
      go (yes e) ih = rw e
      go (no n) ih =
          let f : is_paired_at row x k ≡ false = cases (is_paired_at row x k) (λ t. absurd (omega (arith, o.low, o.none k (omega arith) t))) (λ t. t) in
          let e : suc k ≡ k + 1 = omega arith in
          rw e (size_passed y k f) ∙ ih (record { low = omega (arith, o.low); at = o.at; none = λ i l. o.none i (omega arith) })

  -- Counting

  half_here : (p : ℕ) (a : Bool) → is_paired_at row x p ≡ true → 0 < length (keep (is_half row x (other row p a) (other row p (not a))) (all_halves row))
  unfolding is_half output side
  half_here p a t =
      of_some (keep (is_half row x (other row p a) (other row p (not a))) (all_halves row))
      (has_keep _ (all_halves row) (in_all row (record { place = p; after = a }) (place_inside row p (paired_at row p x t).0))
      (both_and (here (other row p a) p a t ∙ eq-eqb (other row p a) (other row p a) refl) (eq-eqb (other row p (not a)) (other row p (not a)) refl)))

  -- the halves at the places from k on are counted
  pub record Counting (sizes sides : List ℕ) (k : ℕ) : Type 0 where
    pub rest : (y : ℕ) → size_of row x y (2 * length row) ≡ get_or sizes y 0 + size_of row x y (2 * k)
    pub some : (y : ℕ) → 0 < get_or sizes y 0 → 0 < length (keep (is_half row x y (get_or sides y 0)) (all_halves row))

  pub counting_end : (sizes sides : List ℕ) (k : ℕ) → Counting sizes sides k → k ≤ 0 → Sized row x sizes sides
  counting_end sizes sides k c l =
      let e : k ≡ 0 = omega arith in
      record { size = λ y. omega (arith, c.rest y, ap (λ (i : ℕ). size_of row x y (2 * i)) e, size_none y); some = c.some }

  pub counting_few : (sizes sides : List ℕ) (k : ℕ) → Counting sizes sides k → (y : ℕ) → get_or sizes y 0 ≤ 2 * length row
  counting_few sizes sides k c y = omega (arith, c.rest y, size_few y)

  -- one half more
  add_size : (sizes : List ℕ) (v y : ℕ) → v < length sizes → get_or (set sizes v (get_or sizes v 0 + 1)) y 0 ≡ cond (eqb v y) 1 0 + get_or sizes y 0
  add_size sizes v y l = go (ℕ_discrete y v)
    where
      go : Dec (y ≡ v) → get_or (set sizes v (get_or sizes v 0 + 1)) y 0 ≡ cond (eqb v y) 1 0 + get_or sizes y 0
      go (yes e) = rw (e, get_or-set_same sizes v (get_or sizes v 0 + 1) 0 l, eq-eqb v v refl) (omega arith)
      go (no n) = rw (get_or-set_other sizes v y (get_or sizes v 0 + 1) 0 n, ne_eqb v y (λ e. n (sym e))) (omega arith)

  pub added_few : (sizes sides : List ℕ) (k : ℕ) → Counting sizes sides k → (v y : ℕ) → v < length sizes → get_or (set sizes v (get_or sizes v 0 + 1)) y 0 ≤ 2 * length row + 1
  added_few sizes sides k c v y l = rw (add_size sizes v y l) (cases (eqb v y) (λ t. rw t (omega (arith, counting_few sizes sides k c y))) (λ t. rw t (omega (arith, counting_few sizes sides k c y))))

  -- Clearing

  -- what has no half at a place before k is cleared
  pub record Clearing (sizes : List ℕ) (k : ℕ) : Type 0 where
    pub zero : (y : ℕ) → size_of row x y (2 * k) ≡ 0 → get_or sizes y 0 ≡ 0

  pub clearing_end : (sizes : List ℕ) (k : ℕ) → Clearing sizes k → k ≤ 0 → (y : ℕ) → get_or sizes y 0 ≡ 0
  clearing_end sizes k c l y = let e : k ≡ 0 = omega arith in c.zero y (ap (λ (i : ℕ). size_of row x y (2 * i)) e ∙ size_none y)

  -- Along the chain

  pub counting_begin : (k : ℕ) → LastWith (length row) k → (sizes sides : List ℕ) → ((y : ℕ) → get_or sizes y 0 ≡ 0) → Counting sizes sides k
  counting_begin k o sizes sides z =
      record { rest = λ y. omega (arith, z y, size_last y (length row) k o); some = λ y s. absurd (omega (arith, z y)) }

  pub clearing_begin : (k : ℕ) → LastWith (length row) k → (sizes : List ℕ) → ((y : ℕ) → get_or sizes y 0 ≡ size_of row x y (2 * length row)) → Clearing sizes k
  clearing_begin k o sizes s = record { zero = λ y h. s y ∙ size_last y (length row) k o ∙ h }

  -- from place p to the one before it, r counted from 1; a and b are the other two literals at p
  module _ (p r : ℕ) (h : is_paired_at row x p ≡ true) (o : LastWith p r) (a b : ℕ) (e : a ≡ other row p false) (f : b ≡ other row p true) where
    this_size : (y : ℕ) → size_of row x y (2 * (p + 1)) ≡ cond (eqb b y) 1 0 + (cond (eqb a y) 1 0 + size_of row x y (2 * r))
    this_size y = size_here y p h ∙ rw (size_last y p r o, e, f)

    module _ (sizes sides sizes₁ sizes₂ sides₁ sides₂ : List ℕ) (u : sizes₁ ≡ set sizes b (get_or sizes b 0 + 1)) (v : sizes₂ ≡ set sizes₁ a (get_or sizes₁ a 0 + 1))
        (s : sides₁ ≡ set sides b a) (t : sides₂ ≡ set sides₁ a b) (b-size : b < length sizes) (a-size : a < length sizes) (b-side : b < length sides) (a-side : a < length sides) where
      size_added : (y : ℕ) → get_or sizes₂ y 0 ≡ cond (eqb a y) 1 0 + (cond (eqb b y) 1 0 + get_or sizes y 0)
      size_added y =
          let inside : a < length sizes₁ = rw (u, length-set) a-size in
          rw (v, add_size sizes₁ a y inside, u, add_size sizes b y b-size)

      pub counting_on : Counting sizes sides (p + 1) → Counting sizes₂ sides₂ r
      counting_on g = record { rest = λ y. rw (size_added y) (omega (arith, g.rest y, this_size y)); some = λ y. some y (ℕ_discrete y a) (ℕ_discrete y b) }
        where
          some : (y : ℕ) → Dec (y ≡ a) → Dec (y ≡ b) → 0 < get_or sizes₂ y 0 → 0 < length (keep (is_half row x y (get_or sides₂ y 0)) (all_halves row))
          some y (yes i) j k = rw (i, t, get_or-set_same sides₁ a b 0 (rw (s, length-set) a-side), e, f) (half_here p false h)
          some y (no m) (yes j) k = rw (j, t, get_or-set_other sides₁ a b b 0 (λ i. m (j ∙ i)), s, get_or-set_same sides b a 0 b-side, e, f) (half_here p true h)
          some y (no m) (no n) k =
              rw (t, get_or-set_other sides₁ a y b 0 m, s, get_or-set_other sides b y a 0 n)
              (g.some y (omega (arith, rw (size_added y, ne_eqb a y (λ i. m (sym i)), ne_eqb b y (λ i. n (sym i))) at k)))

    pub clearing_on : (sizes : List ℕ) → Clearing sizes (p + 1) → a < length sizes → b < length sizes → Clearing (set (set sizes b 0) a 0) r
    clearing_on sizes g a-size b-size = record { zero = λ y. zero y (ℕ_discrete y a) (ℕ_discrete y b) }
      where
        zero : (y : ℕ) → Dec (y ≡ a) → Dec (y ≡ b) → size_of row x y (2 * r) ≡ 0 → get_or (set (set sizes b 0) a 0) y 0 ≡ 0
        zero y (yes i) j k = rw (i, get_or-set_same (set sizes b 0) a 0 0 (rw length-set a-size))
        zero y (no m) (yes j) k = rw (j, get_or-set_other (set sizes b 0) a b 0 0 (λ i. m (j ∙ i)), get_or-set_same sizes b 0 0 b-size)
        zero y (no m) (no n) k =
            rw (get_or-set_other (set sizes b 0) a y 0 0 m, get_or-set_other sizes b y 0 0 n)
            (g.zero y (this_size y ∙ rw (ne_eqb a y (λ i. m (sym i)), ne_eqb b y (λ i. n (sym i)), k)))
