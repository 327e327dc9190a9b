-- The sides of ITEs: a side is two clauses that are present, and each stands at one half of the row.
-- Assumes nothing.
use mathlib.Core.Path.{◌≡◌, refl, sym, ◌∙◌, ap, subst, subst⁻¹}
use mathlib.Core.Logic.{◌≢◌}
use mathlib.Core.Bool.{Bool, true, false, not, true≢false}
use mathlib.Core.List.Memᴰ
use mathlib.Core.List.{List, [], ◌∷◌}
use Prim.Native.Nat.{ℕ, ◌+◌, ◌≤◌, ◌<◌}
use native.Mathlib.Omega.{arith}
use native.Mathlib.Decide.{ℕ_discrete}
use lib.ListN.{length, get_or}
use Rattle.clauses.specs.Code.{negate, net}
use Rattle.clauses.specs.Clause.{clauses_in, Mem, Same, Tautology, Present}
use Rattle.clauses.specs.Row.{clause_at, Starts, LiteralAt, start_of, around}
use Rattle.clauses.proofs.Lists.{and_both, both_and, in_first, in_second, in_third}
use Rattle.clauses.proofs.Codes.{negate_negate}
use Rattle.clauses.proofs.Clauses.{present_is, is_present, same_refl, same_sym, same_trans, present_same, present_proper}
use Rattle.clauses.proofs.Picks.{perm_of_same, perm_length}
use Rattle.clauses.proofs.Rows.{LiteralOf, literal_in, literal_of, starts_listed}
use Rattle.clauses.proofs.Around.{around_in, around_apart}
use Rattle.gates.specs.Gate.{Apart, IteGate}
use Rattle.gates.specs.Search.{first_place}
use Rattle.gates.specs.Normal.{Normal}
use Rattle.gates.specs.Mark.{is_first}
use Rattle.gates.specs.Ites.{in_three, other, is_paired}
use Rattle.std.proofs.Common.{Option, Some, None}
use Rattle.gates.proofs.ItesListed.{nets_apart, apart_nets, apart_signs}
use Rattle.gates.proofs.Places.{First, place_first, first_only, nothing_present}
use Rattle.gates.proofs.Firsts.{first_same, first_is, is-first}
use Rattle.gates.proofs.Marks.{clause_distinct}
use Rattle.gates.proofs.Queries.{three_distinct, nets_differ}
use Rattle.gates.proofs.Threes.{within_three, swap, Three, InThree, in_three_is, is_in_three, start_in_three}

three_equal : {a b c d e f : ℕ} → a ≡ d → b ≡ e → c ≡ f → a ∷ b ∷ c ∷ [] ≡ d ∷ e ∷ f ∷ []
three_equal p q r = rw (p, q, r)

-- A side

pub record Side (cs : List (List ℕ)) (l c t : ℕ) : Type 0 where
  pub apart : Apart (l ∷ c ∷ t ∷ [])
  pub up : Present cs (negate c ∷ negate l ∷ t ∷ [])
  pub down : Present cs (negate c ∷ l ∷ negate t ∷ [])

present_equal : {cs : List (List ℕ)} {c d : List ℕ} → d ≡ c → Present cs c → Present cs d
present_equal {cs} e h = subst⁻¹ (Present cs) e h

-- where c is true, l and t are equal: that reads the same with the two turned round
pub side_turned : {cs : List (List ℕ)} {l c t : ℕ} → Side cs l c t → Side cs t c l
side_turned s =
    let f = apart_nets s.apart in
    record {
      apart = nets_apart (record { cl = λ z. f.tc (sym z); tl = λ z. f.tl (sym z); tc = λ z. f.cl (sym z) });
      up = present_same (swap _ _ _) s.down;
      down = present_same (swap _ _ _) s.up;
    }

pub sides_ite : {cs : List (List ℕ)} {l c t e : ℕ} → Side cs l c t → Side cs l (negate c) e → e ≢ negate t → IteGate cs l c t e
sides_ite {c = c} s r n =
    record {
      then_apart = s.apart;
      else_apart = apart_signs refl (omega arith) refl r.apart;
      not_inverses = n;
      then_up = s.up;
      then_down = s.down;
      else_up = present_equal (three_equal (sym (negate_negate c)) refl refl) r.up;
      else_down = present_equal (three_equal (sym (negate_negate c)) refl refl) r.down;
    }

pub ite_sides : {cs : List (List ℕ)} {l c t e : ℕ} → IteGate cs l c t e → Side cs l c t × Side cs l (negate c) e × (e ≢ negate t)
ite_sides {c = c} g = (
  record { apart = g.then_apart; up = g.then_up; down = g.then_down },
  record {
    apart = apart_signs refl (omega arith) refl g.else_apart;
    up = present_equal (three_equal (negate_negate c) refl refl) g.else_up;
    down = present_equal (three_equal (negate_negate c) refl refl) g.else_down;
  },
  g.not_inverses,
)

-- The halves of a row

module _ {row : List ℕ} (normal : Normal row) where
  -- the literal at a place of a clause of three, with the other two
  abbrev clause-of : ℕ → List ℕ
  clause-of p = get_or row p 0 ∷ other row p false ∷ other row p true ∷ []

  literal_here : (b q : ℕ) → Starts row b → Three row b → b ≤ q → q < b + 3 → LiteralAt row b q
  literal_here b q s t l u = record { start = s; low = l; high = omega (arith, t.size) }

  -- the places around are all of the clause
  around_same : (p : ℕ) → InThree row p → Starts row (start_of row p) → Same (clause-of p) (clause_at row (start_of row p))
  unfolding other
  around_same p t s =
      record {
        left = within_three _ _ _ _ (here p t.low t.high) (here next r.0 r.1) (here after u.0 u.1);
        right = λ x m. let l = literal_of row b s x m in back x l.place l.is l.at.low (omega (arith, l.at.high, t.clause.size)) (ℕ_discrete l.place p) (ℕ_discrete l.place next);
      }
    where
      b : ℕ
      b = start_of row p

      next : ℕ
      next = around b p

      after : ℕ
      after = around b (around b p)

      r : (b ≤ next) × (next < b + 3)
      r = around_in b p t.low t.high

      u : (b ≤ after) × (after < b + 3)
      u = around_in b next r.0 r.1

      here : (q : ℕ) → b ≤ q → q < b + 3 → Mem (get_or row q 0) (clause_at row b)
      here q l h = literal_in row b q (literal_here b q s t.clause l h)

      back : (x q : ℕ) → get_or row q 0 ≡ x → b ≤ q → q < b + 3 → Dec (q ≡ p) → Dec (q ≡ next) → Mem x (clause-of p)
      back x q e l h (yes i) d = Memᴰ.cast (sym e ∙ ap (λ (k : ℕ). get_or row k 0) i) in_first
      back x q e l h (no m) (yes i) = Memᴰ.cast (sym e ∙ ap (λ (k : ℕ). get_or row k 0) i) in_second
      back x q e l h (no m) (no n) =
          let i : q ≡ after = omega (arith, r, u, t.low, t.high, around_apart b p t.low t.high) in
          Memᴰ.cast (sym e ∙ ap (λ (k : ℕ). get_or row k 0) i) in_third

  record Paired (p : ℕ) : Type 0 where
    three : InThree row p
    clause : First row (clause-of p) (start_of row p)
    companion : Present (clauses_in row) (get_or row p 0 ∷ negate (other row p false) ∷ negate (other row p true) ∷ [])

  paired_is : (p : ℕ) → is_paired row p ≡ true → Paired p
  unfolding is_paired
  paired_is p h =
      let a = and_both (in_three row p) _ h in
      let d = and_both (is_first row (start_of row p)) _ a.1 in
      let t = in_three_is row p a.0 in
      let f = first_is row (start_of row p) d.0 in
      record { three = t; clause = first_same row (same_sym (around_same p t f.start)) f; companion = present_is _ _ d.1 }

  is-paired : (p b : ℕ) → start_of row p ≡ b → in_three row p ≡ true → First row (clause-of p) b
      → Present (clauses_in row) (get_or row p 0 ∷ negate (other row p false) ∷ negate (other row p true) ∷ []) → is_paired row p ≡ true
  unfolding is_paired
  is-paired p b e h f k =
      let t = in_three_is row p h in
      let g = rw (← e) at f in
      both_and h (both_and (is-first row (start_of row p) (first_same row (around_same p t g.start) g)) (is_present _ _ k))

  -- the clause of a paired place is present
  clause_present : (p : ℕ) → Paired p → Present (clauses_in row) (clause-of p)
  clause_present p k =
      let m = starts_listed row (start_of row p) k.clause.start in
      record { found = clause_at row (start_of row p); listed = m; proper = normal.proper _ m; same = k.clause.same }

  pub half_literal : (p : ℕ) → is_paired row p ≡ true → LiteralAt row (start_of row p) p
  half_literal p h = let k = paired_is p h in literal_here (start_of row p) p k.clause.start k.three.clause k.three.low k.three.high

  record Differ (p : ℕ) : Type 0 where
    next : get_or row p 0 ≢ other row p false
    after : get_or row p 0 ≢ other row p true
    others : other row p false ≢ other row p true

  differ : (p : ℕ) → InThree row p → Starts row (start_of row p) → Differ p
  unfolding other
  differ p t start =
      let b = start_of row p in
      let r = around_in b p t.low t.high in
      let s = around_in b (around b p) r.0 r.1 in
      let d = around_apart b p t.low t.high in
      let at_p = literal_here b p start t.clause t.low t.high in
      let at_next = literal_here b (around b p) start t.clause r.0 r.1 in
      let at_after = literal_here b (around b (around b p)) start t.clause s.0 s.1 in
      record {
        next = λ e. d.0 (sym (normal.once b p (around b p) at_p at_next e));
        after = λ e. d.1 (sym (normal.once b p (around b (around b p)) at_p at_after e));
        others = λ e. d.2 (sym (normal.once b (around b p) (around b (around b p)) at_next at_after e));
      }

  -- a half is a side
  pub half_side : (p : ℕ) → is_paired row p ≡ true → (a : Bool) → Side (clauses_in row) (negate (other row p a)) (negate (get_or row p 0)) (other row p (not a))
  half_side p h a = go a
    where
      k : Paired p
      k = paired_is p h

      d : Differ p
      d = differ p k.three k.clause.start

      proper : ¬ Tautology (clause-of p)
      proper = present_proper (clause_present p k)

      xy : net (get_or row p 0) ≢ net (other row p false)
      xy = nets_differ proper _ _ in_first in_second d.next

      xz : net (get_or row p 0) ≢ net (other row p true)
      xz = nets_differ proper _ _ in_first in_third d.after

      yz : net (other row p false) ≢ net (other row p true)
      yz = nets_differ proper _ _ in_second in_third d.others

      go : (a : Bool) → Side (clauses_in row) (negate (other row p a)) (negate (get_or row p 0)) (other row p (not a))
      go false =
          record {
            apart = nets_apart (record { cl = λ e. xy (omega arith); tl = λ e. yz (omega arith); tc = λ e. xz (omega arith) });
            up = present_equal (three_equal (negate_negate _) (negate_negate _) refl) (clause_present p k);
            down = present_equal (three_equal (negate_negate _) refl refl) k.companion;
          }
      go true =
          record {
            apart = nets_apart (record { cl = λ e. xz (omega arith); tl = λ e. yz (omega arith); tc = λ e. xy (omega arith) });
            up = present_equal (three_equal (negate_negate _) (negate_negate _) refl) (present_same (swap _ _ _) (clause_present p k));
            down = present_equal (three_equal (negate_negate _) refl refl) (present_same (swap _ _ _) k.companion);
          }

  -- The place of a side

  -- a half whose place has literal x, and whose other literals are y and z
  pub record HalfOf (x y z : ℕ) : Type 0 where
    pub place : ℕ
    pub after : Bool
    pub paired : is_paired row place ≡ true
    pub select : get_or row place 0 ≡ x
    pub output : other row place after ≡ y
    pub side : other row place (not after) ≡ z

  found : (q : List ℕ) → Present (clauses_in row) q → (b : ℕ) × First row q b
  found q h = go (first_place row q) refl
    where
      go : (r : Option ℕ) → first_place row q ≡ r → (b : ℕ) × First row q b
      go (Some b) e = (b, place_first row q e)
      go None e = absurd (true≢false (sym (is_present (clauses_in row) q h) ∙ nothing_present row q e))

  module _ (x y z : ℕ) (xy : x ≢ y) (xz : x ≢ z) (yz : y ≢ z) (b : ℕ) (f : First row (x ∷ y ∷ z ∷ []) b)
      (companion : Present (clauses_in row) (x ∷ negate y ∷ negate z ∷ [])) where
    of_x : LiteralOf row b x
    of_x = literal_of row b f.start x (f.same.left x in_first)

    of_y : LiteralOf row b y
    of_y = literal_of row b f.start y (f.same.left y in_second)

    of_z : LiteralOf row b z
    of_z = literal_of row b f.start z (f.same.left z in_third)

    places_differ : (u v : ℕ) (i : LiteralOf row b u) (j : LiteralOf row b v) → u ≢ v → i.place ≢ j.place
    places_differ u v i j d e = d (sym i.is ∙ ap (λ (p : ℕ). get_or row p 0) e ∙ j.is)

    xy_places : of_x.place ≢ of_y.place
    xy_places = places_differ x y of_x of_y xy

    xz_places : of_x.place ≢ of_z.place
    xz_places = places_differ x z of_x of_z xz

    yz_places : of_y.place ≢ of_z.place
    yz_places = places_differ y z of_y of_z yz

    three_literals : length (clause_at row b) ≡ 3
    three_literals =
        sym (perm_length (perm_of_same (x ∷ y ∷ z ∷ []) (clause_at row b) (three_distinct xy xz yz) (clause_distinct normal b f.start) f.same))

    three : Three row b
    three = record { inside = rw three_literals at (normal.ended b f.start); size = three_literals }

    high : (u : ℕ) (i : LiteralOf row b u) → i.place < b + 3
    high u i = rw three_literals at i.at.high

    start : start_of row of_x.place ≡ b
    start = start_in_three row b of_x.place f.start three of_x.at.low (high x of_x)

    abbrev next : ℕ
    next = around b of_x.place

    abbrev after : ℕ
    after = around b (around b of_x.place)

    other_next : other row of_x.place false ≡ get_or row next 0
    unfolding other
    other_next = rw start

    other_after : other row of_x.place true ≡ get_or row after 0
    unfolding other
    other_after = rw start

    in-three : in_three row of_x.place ≡ true
    in-three = is_in_three row b of_x.place start (high x of_x) three

    settled : (next ≡ of_y.place) × (after ≡ of_z.place) → HalfOf x y z
    settled (e, g) =
        let u : other row of_x.place false ≡ y = other_next ∙ ap (λ (p : ℕ). get_or row p 0) e ∙ of_y.is in
        let v : other row of_x.place true ≡ z = other_after ∙ ap (λ (p : ℕ). get_or row p 0) g ∙ of_z.is in
        record {
          place = of_x.place;
          after = false;
          paired = is-paired of_x.place b start in-three (rw (of_x.is, u, v) f) (rw (of_x.is, u, v) companion);
          select = of_x.is;
          output = u;
          side = v;
        }

    crossed : (next ≡ of_z.place) × (after ≡ of_y.place) → HalfOf x y z
    crossed (e, g) =
        let u : other row of_x.place false ≡ z = other_next ∙ ap (λ (p : ℕ). get_or row p 0) e ∙ of_z.is in
        let v : other row of_x.place true ≡ y = other_after ∙ ap (λ (p : ℕ). get_or row p 0) g ∙ of_y.is in
        record {
          place = of_x.place;
          after = true;
          paired = is-paired of_x.place b start in-three (rw (of_x.is, u, v) (first_same row (swap x y z) f)) (rw (of_x.is, u, v) (present_same (swap _ _ _) companion));
          select = of_x.is;
          output = v;
          side = u;
        }

    half_of : HalfOf x y z
    half_of = go (ℕ_discrete next of_y.place) (around_in b of_x.place of_x.at.low (high x of_x)) (around_apart b of_x.place of_x.at.low (high x of_x))
      where
        go : Dec (next ≡ of_y.place) → (b ≤ next) × (next < b + 3) → (next ≢ of_x.place) × (after ≢ of_x.place) × (after ≢ next) → HalfOf x y z
        go (yes e) r d = settled (e, omega (arith, around_in b next r.0 r.1, d.1, d.2, xy_places, xz_places, yz_places, of_x.at.low, of_y.at.low, of_z.at.low, high x of_x, high y of_y, high z of_z))
        go (no m) r d =
            let e : next ≡ of_z.place = omega (arith, r, d.0, xy_places, xz_places, yz_places, of_x.at.low, of_y.at.low, of_z.at.low, high x of_x, high y of_y, high z of_z) in
            crossed (e, omega (arith, around_in b next r.0 r.1, d.1, d.2, xy_places, xz_places, yz_places, of_x.at.low, of_y.at.low, of_z.at.low, high x of_x, high y of_y, high z of_z))

  -- a side is a half
  pub side_half : (l c t : ℕ) → Side (clauses_in row) l c t → HalfOf (negate c) (negate l) t
  side_half l c t s =
      let f = found (negate c ∷ negate l ∷ t ∷ []) s.up in
      let n = apart_nets s.apart in
      half_of (negate c) (negate l) t (λ e. n.cl (omega arith)) (λ e. n.tc (omega arith)) (λ e. n.tl (omega arith)) f.0 f.1
      (present_equal (three_equal refl (negate_negate l) refl) s.down)

  -- .. and one only
  clause_as : (p : ℕ) (a : Bool) → Same (clause-of p) (get_or row p 0 ∷ other row p a ∷ other row p (not a) ∷ [])
  clause_as p false = same_refl _
  clause_as p true = swap _ _ _

  pub half_once : (p q : ℕ) (a d : Bool) → is_paired row p ≡ true → is_paired row q ≡ true → get_or row p 0 ≡ get_or row q 0 → other row p a ≡ other row q d
      → other row p (not a) ≡ other row q (not d) → (p ≡ q) × (a ≡ d)
  half_once p q a d h k e f g = (same_place, same_after a d f)
    where
      i : Paired p
      i = paired_is p h

      j : Paired q
      j = paired_is q k

      sets : Same (clause-of p) (clause-of q)
      sets =
          same_trans (clause_as p a)
          (subst⁻¹ (λ (c : List ℕ). Same c (clause-of q)) (three_equal e f g) (same_sym (clause_as q d)))

      same_start : start_of row p ≡ start_of row q
      same_start = first_only row (clause-of q) (first_same row sets i.clause) j.clause

      same_place : p ≡ q
      same_place =
          normal.once (start_of row q) p q
          (subst (λ (b : ℕ). LiteralAt row b p) same_start (half_literal p h)) (half_literal q k) e

      same_after : (a d : Bool) → other row p a ≡ other row q d → a ≡ d
      same_after false false r = refl
      same_after true true r = refl
      same_after false true r = absurd ((differ p i.three i.clause.start).others (r ∙ ap (λ (u : ℕ). other row u true) (sym same_place)))
      same_after true false r = absurd ((differ p i.three i.clause.start).others (sym (r ∙ ap (λ (u : ℕ). other row u false) (sym same_place))))
