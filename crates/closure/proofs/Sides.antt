-- The sides of the ITEs of a row by number and at their places: each is a side of an ITE of the list, and two that fit make one.
-- Assumes nothing.
use mathlib.Core.Path.{◌≡◌, refl, sym, ◌∙◌, ap, subst}
use mathlib.Core.Logic.{◌⊎◌, inl, inr}
use mathlib.Core.Bool.{Bool, true, false, cond}
use mathlib.Core.List.{List}
use Prim.Native.Nat.{ℕ, ◌+◌, ◌*◌, ◌/◌, ◌%◌, ◌≤◌, ◌<◌}
use native.Mathlib.Omega.{arith}
use lib.ListN.{length, get_or}
use Rattle.clauses.specs.Code.{negate, net}
use Rattle.clauses.proofs.Codes.{negate_negate}
use Rattle.clauses.proofs.Clauses.{fits_present}
use Rattle.clauses.proofs.Lists.{in_second, in_third}
use Rattle.gates.specs.Found.{is_select_next, is_select_after}
use Rattle.clauses.specs.Row.{clause_at, around}
use Rattle.gates.specs.Gate.{IteGate}
use Rattle.clauses.specs.Row.{start_of}
use Rattle.gates.proofs.Sides.{sides_ite, ite_sides}
use Rattle.closure.specs.Marked.{Marked, Ready}
use Rattle.closure.specs.RowJoined.{Turned, SideAt, IteAt}
use Rattle.closure.specs.IteSides.{InThree, is_next, next_to, after_next, select_at, output_at, then_at, tells_of, IsSide, clause_of, Pair, pair_key}
use Rattle.closure.specs.declared.tally.Tally.{Tally}
use Rattle.clauses.proofs.Starts.{start_is}
use Rattle.closure.proofs.SideNumbers.{place_inside}

-- two codes in one number
pub pair_once : (c x d y : ℕ) → x < 4294967296 → y < 4294967296 → pair_key c x ≡ pair_key d y → (c ≡ d) × (x ≡ y)
pair_once c x d y h k e = (omega arith, omega arith)

pub side_inside : {row marks : List ℕ} {s : ℕ} → IsSide row marks s → s < 2 * length row
side_inside i = omega (arith, place_inside i.in-three)

-- ITEs of the list

-- a side is a side of some ITE, whatever list the marks are right for
pub side_gate : {cs : List (List ℕ)} {row marks : List ℕ} {s : ℕ} → Marked cs row marks → IsSide row marks s
    → (e : ℕ) × IteGate cs (output_at row s) (select_at row s) (then_at row s) e
unfolding output_at then_at tells_of
side_gate {cs} {row} {marks} {s} m i = go (is_next s) i.marked
  where
    go : (b : Bool) → cond b (is_select_next (get_or marks (s / 2) 0)) (is_select_after (get_or marks (s / 2) 0)) ≡ true
        → (e : ℕ)
        × IteGate cs (negate (get_or row (cond b (next_to row (s / 2)) (after_next row (s / 2))) 0)) (select_at row s) (get_or row (cond b (after_next row (s / 2)) (next_to row (s / 2))) 0) e
    go true h = m.next_is (clause_of row s) (s / 2) i.in-three.at h
    go false h = m.after_is (clause_of row s) (s / 2) i.in-three.at h

-- two sides that make an ITE make it in the list
pub pair_gate : {cs : List (List ℕ)} {row marks : List ℕ} {k j : ℕ} → Marked cs row marks → Pair row marks k j
    → IteGate cs (output_at row k) (select_at row k) (then_at row k) (then_at row j)
pair_gate {cs} {row} {marks} {k} {j} m p =
    let g = (side_gate m p.first).1 in
    let h = (side_gate m p.second).1 in
    sides_ite (ite_sides g).0 (rw (← p.selects, ← p.outputs) (ite_sides h).0) p.not_inverses

pub pair_back : {row marks : List ℕ} {k j : ℕ} → Pair row marks k j → Pair row marks j k
pair_back {row} {k = k} {j = j} p =
    record {
      first = p.second;
      second = p.first;
      selects = sym (ap negate p.selects ∙ negate_negate (select_at row k));
      outputs = sym p.outputs;
      not_inverses = λ z. p.not_inverses (sym (negate_negate (then_at row j)) ∙ ap negate (sym z));
    }

-- the nets of a side have leads
module _ {row marks old new : List ℕ} {t : Tally} (r : Ready row marks old new t) {s : ℕ} (i : IsSide row marks s) where
  pub output_net : net (output_at row s) ≤ length old
  output_net = (fits_present r.fits (side_gate r.marked i).1.then_down (output_at row s) in_second).1

  pub then_net : net (then_at row s) ≤ length old
  then_net = (fits_present r.fits (side_gate r.marked i).1.then_up (then_at row s) in_third).1

-- Sides at a place

-- the side with a number
pub side_turned : {row marks : List ℕ} {s : ℕ} → IsSide row marks s → Turned row marks (clause_of row s) (s / 2) (output_at row s) (then_at row s)
unfolding tells_of output_at then_at
side_turned {row} {marks} {s} i = go (is_next s) i.marked
  where
    go : (b : Bool) → cond b (is_select_next (get_or marks (s / 2) 0)) (is_select_after (get_or marks (s / 2) 0)) ≡ true
        → Turned row marks (clause_of row s) (s / 2) (negate (get_or row (cond b (next_to row (s / 2)) (after_next row (s / 2))) 0)) (get_or row (cond b (after_next row (s / 2)) (next_to row (s / 2))) 0)
    go true h = inl (h, sym (negate_negate (get_or row (next_to row (s / 2)) 0)), refl)
    go false h = inr (h, sym (negate_negate (get_or row (after_next row (s / 2)) 0)), refl)

abbrev pub side_at : {row marks : List ℕ} {s : ℕ} → IsSide row marks s → SideAt row marks (output_at row s) (select_at row s) (then_at row s)
side_at {row} {marks} {s} i =
    record { start = clause_of row s; place = s / 2; at = i.in-three.at; select = sym (negate_negate (get_or row (s / 2) 0)); marked = side_turned i }

-- two sides that make an ITE
pub pair-at : {row marks : List ℕ} {k j : ℕ} → Pair row marks k j → IteAt row marks (output_at row k) (select_at row k) (then_at row k) (then_at row j)
pair-at {row} {marks} {k} {j} p =
    record {
      then_side = side_at p.first;
      else_side =
          subst (λ (l : ℕ). SideAt row marks l (negate (select_at row k)) (then_at row j)) p.outputs
          (subst (λ (c : ℕ). SideAt row marks (output_at row j) c (then_at row j)) p.selects (side_at p.second));
      not_inverses = p.not_inverses;
    }

-- the number of a side of the clause at b
pub record Numbered (row marks : List ℕ) (b l c u : ℕ) : Type 0 where
  pub side : ℕ
  pub is-side : IsSide row marks side
  pub clause : clause_of row side ≡ b
  pub output : output_at row side ≡ l
  pub select : select_at row side ≡ c
  pub then : then_at row side ≡ u

module _ (row marks : List ℕ) (b p l c u : ℕ) (i : InThree row p) (e : start_of row p ≡ b) (d : get_or row p 0 ≡ negate c) where
  next_numbered : is_select_next (get_or marks p 0) ≡ true → get_or row (around b p) 0 ≡ negate l → get_or row (around b (around b p)) 0 ≡ u → Numbered row marks b l c u
  unfolding tells_of output_at then_at
  next_numbered h x y =
      let z : 2 * p / 2 ≡ p = omega arith in
      let o : 2 * p % 2 ≡ 0 = omega arith in
      record {
        side = 2 * p;
        is-side = record { in-three = rw z i; marked = rw (o, z) h };
        clause = rw z e;
        output = rw (o, z, e, x) (negate_negate l);
        select = rw (z, d) (negate_negate c);
        then = rw (o, z, e) y;
      }

  after_numbered : is_select_after (get_or marks p 0) ≡ true → get_or row (around b (around b p)) 0 ≡ negate l → get_or row (around b p) 0 ≡ u → Numbered row marks b l c u
  unfolding tells_of output_at then_at
  after_numbered h x y =
      let z : (2 * p + 1) / 2 ≡ p = omega arith in
      let o : (2 * p + 1) % 2 ≡ 1 = omega arith in
      record {
        side = 2 * p + 1;
        is-side = record { in-three = rw z i; marked = rw (o, z) h };
        clause = rw z e;
        output = rw (o, z, e, x) (negate_negate l);
        select = rw (z, d) (negate_negate c);
        then = rw (o, z, e) y;
      }

pub side_numbered : {cs : List (List ℕ)} {row marks : List ℕ} {l c u : ℕ} → Marked cs row marks → (s : SideAt row marks l c u) → Numbered row marks s.start l c u
side_numbered {row = row} {marks = marks} {l = l} {c = c} {u = u} m s = go s.marked
  where
    b : ℕ
    b = s.start

    p : ℕ
    p = s.place

    ended : b + length (clause_at row b) < length row
    ended = m.ended b s.at.start

    start : start_of row p ≡ b
    start = sym (start_is row b p s.at)

    three : (is_select_next (get_or marks p 0) ≡ true) ⊎ (is_select_after (get_or marks p 0) ≡ true) → InThree row p
    three h =
        let n : length (clause_at row b) ≡ 3 = m.select_three b p s.at h in
        record { at = rw start s.at; three = rw start n; ended = rw start (omega (arith, ended, n)) }

    go : Turned row marks b p l u → Numbered row marks b l c u
    go (inl (h, x, y)) = next_numbered row marks b p l c u (three (inl h)) start s.select h x y
    go (inr (h, x, y)) = after_numbered row marks b p l c u (three (inr h)) start s.select h x y
