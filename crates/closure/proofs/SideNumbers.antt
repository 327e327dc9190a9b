-- The sides of the ITEs of a row by number: what the program reads of one at the places of its clause.
-- Assumes nothing.
use mathlib.Core.Path.{◌≡◌, sym, ◌∙◌, ap, subst, subst⁻¹}
use mathlib.Core.Logic.{◌≢◌, ◌⊎◌, inl, inr}
use mathlib.Core.Bool.{Bool, true, false, cond, true≢false}
use mathlib.Core.List.{List}
use Prim.Native.Nat.{ℕ, ◌+◌, ◌-◌, ◌*◌, ◌/◌, ◌%◌, ◌≤◌, ◌<◌}
use native.Mathlib.Omega.{arith}
use native.Mathlib.Decide.{ℕ_discrete}
use borrow.Author.Tests.{eq-eqb, ne_eqb}
use lib.Dec.{eqb}
use lib.ListN.{length, get_or, set}
use Rattle.clauses.specs.Code.{negate}
use Rattle.clauses.specs.Sign.{flip}
use Rattle.gates.specs.Found.{is_select_next, is_select_after}
use Rattle.clauses.specs.Row.{clause_at, LiteralAt, around}
use Rattle.clauses.specs.Row.{start_of}
use Rattle.clauses.specs.Chains.{ChainedIn}
use Rattle.clauses.proofs.Chains.{chain_passed, chain_linked}
use Rattle.clauses.proofs.Rows.{literal_some, clause_ended}
use Rattle.clauses.proofs.StartOf.{literal_start}
use Rattle.clauses.proofs.Around.{around_last, around_next}
use Rattle.closure.specs.Marked.{Marked}
use Rattle.closure.specs.Passing.{Tells}
use Rattle.closure.specs.IteSides.{InThree, next_to, after_next, is_next, select_at, output_at, then_at, tells_of, IsSide, pair_key, InHub}
use Rattle.clauses.proofs.Starts.{start_is, around_literal}

-- The marks

module _ (s mark : ℕ) where
  pub tells_next : s % 2 ≡ 0 → is_select_next mark ≡ tells_of s mark
  unfolding tells_of
  tells_next e = rw (eq-eqb (s % 2) 0 e)

  pub tells_after : s % 2 ≢ 0 → is_select_after mark ≡ tells_of s mark
  unfolding tells_of
  tells_after n = rw (ne_eqb (s % 2) 0 n)

  pub next_told : s % 2 ≡ 0 → eqb (mark / 2 % 2) 1 ≡ tells_of s mark
  unfolding is_select_next
  next_told e = tells_next e

  pub after_told : s % 2 ≢ 0 → eqb (mark / 4 % 2) 1 ≡ tells_of s mark
  unfolding is_select_after
  after_told n = tells_after n

  pub told_either : tells_of s mark ≡ true → (is_select_next mark ≡ true) ⊎ (is_select_after mark ≡ true)
  told_either t = go (ℕ_discrete (s % 2) 0)
    where
      go : Dec (s % 2 ≡ 0) → (is_select_next mark ≡ true) ⊎ (is_select_after mark ≡ true)
      go (yes e) = inl (tells_next e ∙ t)
      go (no n) = inr (tells_after n ∙ t)

module _ {row marks : List ℕ} {s : ℕ} where
  pub no_side : get_or row (s / 2) 0 ≡ 0 → ¬ IsSide row marks s
  no_side e i = let k = i.in-three.at in literal_some row (start_of row (s / 2)) (s / 2) k.low k.high e

  pub side_is : {cs : List (List ℕ)} → Marked cs row marks → s < 2 * length row → get_or row (s / 2) 0 ≢ 0 → tells_of s (get_or marks (s / 2) 0) ≡ true → IsSide row marks s
  side_is m h n t =
      let k = literal_start row (s / 2) (omega arith) n in
      let e = m.select_three (start_of row (s / 2)) (s / 2) k (told_either s (get_or marks (s / 2) 0) t) in
      record { in-three = record { at = k; three = e; ended = omega (arith, m.ended (start_of row (s / 2)) k.start, e) }; marked = t }

  pub side_told : {cs : List (List ℕ)} → Marked cs row marks → s < 2 * length row → get_or row (s / 2) 0 ≢ 0 → (r : Bool) → r ≡ tells_of s (get_or marks (s / 2) 0)
      → Tells (IsSide row marks s) r
  side_told m h n true e = side_is m h n (sym e)
  side_told m h n false e = λ i. true≢false (sym i.marked ∙ sym e)

-- The places

module _ {row : List ℕ} {p : ℕ} (i : InThree row p) where
  next_at : LiteralAt row (start_of row p) (next_to row p)
  next_at = around_literal i.three i.at

  pub next_start : start_of row (next_to row p) ≡ start_of row p
  next_start = sym (start_is row (start_of row p) (next_to row p) next_at)

  pub next_three : InThree row (next_to row p)
  next_three =
      record {
        at = subst⁻¹ (λ (b : ℕ). LiteralAt row b (next_to row p)) next_start next_at;
        three = ap (λ (b : ℕ). length (clause_at row b)) next_start ∙ i.three;
        ended = subst⁻¹ (λ (b : ℕ). b + 3 < length row) next_start i.ended;
      }

  pub after_is : {q : ℕ} → q ≡ next_to row p → next_to row q ≡ after_next row p
  after_is e = ap (next_to row) e ∙ ap (λ (b : ℕ). around b (next_to row p)) next_start

  pub place_inside : p + 1 < length row
  place_inside = omega (arith, i.at.high, i.three, i.ended)

  -- behind the last place of the clause is its end
  module _ (e : get_or row (p + 1) 0 ≡ 0) where
    last_place : p ≡ start_of row p + 2
    last_place = go (ℕ_discrete p (start_of row p + 2))
      where
        go : Dec (p ≡ start_of row p + 2) → p ≡ start_of row p + 2
        go (yes d) = d
        go (no n) = absurd (literal_some row (start_of row p) (p + 1) (omega (arith, i.at.low)) (omega (arith, i.at.high, i.three)) e)

    pub last_high : 2 ≤ p
    last_high = omega (arith, last_place)

    pub last_next : p - 2 ≡ next_to row p
    last_next = omega (arith, last_place, around_last (start_of row p) p last_place)

  pub other_next : get_or row (p + 1) 0 ≢ 0 → p + 1 ≡ next_to row p
  other_next n = sym (around_next (start_of row p) p (λ e. n (ended e)))
    where
      ended : p ≡ start_of row p + 2 → get_or row (p + 1) 0 ≡ 0
      ended e = literal_end (start_of row p) (omega (arith, i.three))
        where
          literal_end : (b : ℕ) → b + length (clause_at row b) ≡ p + 1 → get_or row (p + 1) 0 ≡ 0
          literal_end b d = subst (λ (q : ℕ). get_or row q 0 ≡ 0) d (clause_ended row b)

pub placed : {row : List ℕ} {p q : ℕ} → InThree row p → q ≡ next_to row p → (q ≡ next_to row p) × InThree row q
placed {row} i e = (e, subst⁻¹ (InThree row) e (next_three i))

-- The literals

module _ (row : List ℕ) (p : ℕ) where
  pub other_is_next : (next : Bool) {q : ℕ} → next ≡ true → q ≡ next_to row p → get_or row q 0 ≡ get_or row (cond next (next_to row p) (after_next row p)) 0
  other_is_next next t e = rw (t, e)

  pub other_is_after : (next : Bool) {q : ℕ} → next ≡ false → q ≡ after_next row p → get_or row q 0 ≡ get_or row (cond next (next_to row p) (after_next row p)) 0
  other_is_after next t e = rw (t, e)

module _ (row : List ℕ) (s : ℕ) where
  pub output_is : (r x : ℕ) → r ≡ flip true x → x ≡ get_or row (cond (is_next s) (next_to row (s / 2)) (after_next row (s / 2))) 0 → r ≡ output_at row s
  unfolding output_at
  output_is r x e d = e ∙ ap negate d

  pub then_is : (x : ℕ) → x ≡ get_or row (cond (eqb (s % 2) 1) (next_to row (s / 2)) (after_next row (s / 2))) 0 → x ≡ then_at row s
  unfolding then_at
  then_is x e = go (ℕ_discrete (s % 2) 0)
    where
      go : Dec (s % 2 ≡ 0) → x ≡ get_or row (cond (is_next s) (after_next row (s / 2)) (next_to row (s / 2))) 0
      go (yes d) = rw (eq-eqb (s % 2) 0 d) (rw (ne_eqb (s % 2) 1 (λ o. omega arith)) at e)
      go (no n) = rw (ne_eqb (s % 2) 0 n) (rw (eq-eqb (s % 2) 1 (omega arith)) at e)

-- The hubs

module _ {m : ℕ} {row marks heads links : List ℕ} {s : ℕ} (c : ChainedIn (InHub row marks m) s heads links) where
  pub hub_passed : ¬ IsSide row marks s → ChainedIn (InHub row marks m) (s + 1) heads links
  hub_passed n = chain_passed _ s heads links c (λ b d. n d.is-side)

  pub hub_linked : IsSide row marks s → (key x y : ℕ) → key ≡ pair_key x y → x ≡ select_at row s → y ≡ output_at row s → key % m < length heads → s < length links
      → (heads' links' : List ℕ) → heads' ≡ set heads (key % m) (s + 1) → links' ≡ set links s (get_or heads (key % m) 0)
      → ChainedIn (InHub row marks m) (s + 1) heads' links'
  hub_linked i key x y e p q low room =
      chain_linked _ s heads links c (key % m) (record { is-side = i; bucket = here }) (λ b d. sym d.bucket ∙ here) low room
    where
      here : pair_key (select_at row s) (output_at row s) % m ≡ key % m
      here = rw (e, p, q)
