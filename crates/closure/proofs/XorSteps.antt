-- One literal of an XOR is taken: the steps that this takes, and rule 5, by which a sum of at most one net is joined to it.
-- Assumes nothing.
use mathlib.Core.Path.{◌≡◌, subst, subst⁻¹, subst₂}
use mathlib.Core.Logic.{◌⊎◌, inl, inr}
use mathlib.Core.Bool.{not}
use mathlib.Core.List.{List, [], ◌∷◌}
use Prim.Native.Nat.{ℕ, ◌+◌, ◌*◌, ◌≤◌, ◌<◌}
use native.Mathlib.Omega.{arith}
use native.Mathlib.Decide.{dec_lt}
use borrow.Author.Tests.{lt-ltb, le-ltb}
use borrow.Table.Steps.{cases}
use lib.Dec.{eqb}
use lib.ListN.{length, get_or}
use Rattle.clauses.specs.Code.{net}
use Rattle.clauses.specs.Clause.{Mem}
use Rattle.clauses.proofs.Clauses.{fits_present}
use Rattle.clauses.proofs.Codes.{net_double}
use Rattle.clauses.proofs.Lists.{in_first}
use Rattle.clauses.specs.Row.{clause_at, LiteralAt}
use Rattle.clauses.proofs.Rows.{literal_in}
use Rattle.clauses.proofs.Signs.{net_flip}
use Rattle.rules.specs.Answer.{lead_of}
use Rattle.closure.specs.Making.{Drawn, Making, JoinedBy, Later}
use Rattle.closure.specs.Joining.{State, join_state}
use Rattle.closure.specs.Xors.{odd_nets, odd_sign, packed, Digits, Packable, XorAt, rest_at, key_at, sum_at}
use Rattle.closure.specs.XorMatching.{XorsOf, join_alone, Placed, Stepped}
use Rattle.closure.specs.declared.table.KeyTable.{KeyTable}
use Rattle.closure.specs.declared.tally.Tally.{Tally}
use Rattle.rules.proofs.Groups.{own_length}
use Rattle.closure.proofs.Making.{Carried, join_makes}
use Rattle.closure.proofs.OddNets.{odd_bounded, packed_few}
use Rattle.closure.proofs.XorItems.{Xored, xored_none, xored_one}
use Rattle.closure.proofs.XorPlaces.{others_at}
use Rattle.closure.proofs.XorRests.{rest_digits}
use Rattle.closure.proofs.XorRules.{xor-at}

-- A sum of at most one net

pub alone_joined : (leads : List ℕ) (t : Tally) (key sum : ℕ) → key < 65536 → join_state leads t sum (2 * key) ≡ join_alone leads t key sum
unfolding join_alone
alone_joined leads t key sum h = rw (lt-ltb key 65536 h)

pub alone_kept : (leads : List ℕ) (t : Tally) (key sum : ℕ) → 65536 ≤ key → record { row = leads; tally = t } ≡ join_alone leads t key sum
unfolding join_alone
alone_kept leads t key sum h = rw (le-ltb key 65536 h)

-- one join at most is counted
join_joins : (leads : List ℕ) (t : Tally) (a b : ℕ) → (join_state leads t a b).tally.joins ≤ t.joins + 1
unfolding join_state
join_joins leads t a b =
    cases t.clash (λ e. rw e (omega arith))
    (λ e. rw e (cases (eqb x y) (λ q. rw q (omega arith)) (λ q. rw q (cases (eqb (net x) (net y)) (λ z. rw z (omega arith)) (λ z. rw z (omega arith))))))
  where
    x : ℕ
    x = lead_of leads a

    y : ℕ
    y = lead_of leads b

pub alone_joins : (leads : List ℕ) (t : Tally) (key sum : ℕ) → (join_alone leads t key sum).tally.joins ≤ t.joins + 1
alone_joins leads t key sum = go (dec_lt key 65536)
  where
    go : Dec (key < 65536) → (join_alone leads t key sum).tally.joins ≤ t.joins + 1
    go (yes h) = subst (λ (s : State). s.tally.joins ≤ t.joins + 1) (alone_joined leads t key sum h) (join_joins leads t sum (2 * key))
    go (no h) = subst (λ (s : State). s.tally.joins ≤ t.joins + 1) (alone_kept leads t key sum (omega arith)) (omega arith)

-- the two steps of taking a literal, with the values that were computed
pub stepped : {S B : ℕ} {xors xors' : KeyTable S B} (s : State) {s' mid : State} {key key' sum sum' : ℕ} → key ≡ key' → sum ≡ sum' → mid ≡ join_alone s.row s.tally key sum
    → Placed key sum xors mid xors' s' → Stepped key' sum' xors s xors' s'
stepped {xors = xors} {xors'} s {s'} {key = key} {sum = sum} e d j h =
    subst₂ (λ (k v : ℕ). Stepped k v xors s xors' s') e d (subst (λ (m : State). Placed key sum xors m xors' s') j h)

-- a sum has been joined to the only net that is left
pub record AloneMade (cs : List (List ℕ)) (old leads : List ℕ) (t : Tally) (key sum : ℕ) (s : State) : Type 0 where
  pub making : Making cs old s.row s.tally
  pub later : Later leads t s.row s.tally
  pub joined : key < 65536 → JoinedBy s.row s.tally sum (2 * key)

module _ {cs : List (List ℕ)} {row marks old : List ℕ} (ready : XorsOf cs row marks old) where
  abbrev f : ℕ → ℕ
  f = lead_of old

  -- The XORs of the row

  literal_high : {b p : ℕ} → LiteralAt row b p → net (get_or row p 0) ≤ length old
  literal_high {b} {p} l = (fits_present ready.fits (ready.marked.clause_is b l.start) (get_or row p 0) (literal_in row b p l)).1

  lead_high : {b p : ℕ} → LiteralAt row b p → net (f (get_or row p 0)) ≤ length old
  lead_high {b} {p} l = omega (arith, ready.leads.low (get_or row p 0), literal_high l)

  module _ {b p : ℕ} (x : XorAt row marks b p) where
    abbrev len : ℕ
    len = length (clause_at row b)

    at_place : (i : ℕ) → i < len → LiteralAt row b (b + i)
    at_place i h = record { start = x.place.start; low = omega arith; high = omega arith }

    pub xor_packable : Packable old row b len p
    xor_packable =
        record {
          inside = omega (arith, ready.marked.ended b x.place.start);
          five = (ready.marked.xor_is b x.place.start x.marked).five;
          low = x.place.low;
          high = x.place.high;
          nets = λ i h. omega (arith, lead_high (at_place i h), ready.nets);
        }

    nets_packed : Digits (odd_nets f (rest_at row b p))
    unfolding rest_at
    nets_packed = rest_digits xor_packable len (omega arith)

    nets_high : (w : ℕ) → Mem w (odd_nets f (rest_at row b p)) → w ≤ length old
    unfolding rest_at
    nets_high w m = odd_bounded f (rest_at row b p) (length old) (λ y k. high y (others_at row p b len y k)) w m
      where
        high : (y : ℕ) → (i : ℕ) × (i < len) × (y ≡ get_or row (b + i) 0) → net (f y) ≤ length old
        high y t = subst⁻¹ (λ (z : ℕ). net (f z) ≤ length old) t.2 (lead_high (at_place t.0 t.1))

    -- through whatever leads
    pub sum_high : (leads : List ℕ) → net (sum_at leads row b p) ≤ length old
    unfolding sum_at
    sum_high leads = subst⁻¹ (λ (n : ℕ). n ≤ length old) (net_flip (not (odd_sign (lead_of leads) (rest_at row b p))) (get_or row p 0)) (literal_high x.place)

    stands : Xored cs f (odd_nets f (rest_at row b p)) (sum_at old row b p)
    stands = xor-at old ready.marked x

    -- rule 5 joins a sum of at most one net to it
    alone_drawn : key_at old row b p < 65536 → Drawn cs old (sum_at old row b p) (2 * key_at old row b p) × (key_at old row b p ≤ length old)
    unfolding key_at packed
    alone_drawn h = go (packed_few (odd_nets f (rest_at row b p)) nets_packed h)
      where
        Goal : List ℕ → Type 0
        Goal l = Drawn cs old (sum_at old row b p) (2 * packed l) × (packed l ≤ length old)

        go : (odd_nets f (rest_at row b p) ≡ []) ⊎ ((w : ℕ) × (0 < w) × (odd_nets f (rest_at row b p) ≡ w ∷ [])) → Goal (odd_nets f (rest_at row b p))
        go (inl e) =
            subst⁻¹ Goal e
            (xored_none ready.leads (subst (λ (l : List ℕ). Xored cs f l (sum_at old row b p)) e stands), omega arith)
        go (inr (w, p0, e)) =
            subst⁻¹ Goal e (
              subst⁻¹ (λ (n : ℕ). Drawn cs old (sum_at old row b p) (2 * n)) single
                  (xored_one ready.leads (subst (λ (l : List ℕ). Xored cs f l (sum_at old row b p)) e stands) (λ z. omega arith)),
              subst⁻¹ (λ (n : ℕ). n ≤ length old) single (nets_high w (subst⁻¹ (Mem w) e in_first)),
            )
          where
            single : packed (w ∷ []) ≡ w
            single = omega arith

  -- One literal is taken

  pub alone_made : {leads : List ℕ} {t : Tally} → Making cs old leads t → {b p : ℕ} → XorAt row marks b p
      → AloneMade cs old leads t (key_at old row b p) (sum_at old row b p) (join_alone leads t (key_at old row b p) (sum_at old row b p))
  alone_made {leads} {t} k {b} {p} x = go (dec_lt key 65536)
    where
      key : ℕ
      key = key_at old row b p

      sum : ℕ
      sum = sum_at old row b p

      go : Dec (key < 65536) → AloneMade cs old leads t key sum (join_alone leads t key sum)
      go (yes h) = subst (AloneMade cs old leads t key sum) (alone_joined leads t key sum h) (record { making = c.making; later = c.later; joined = λ l. c.joined })
        where
          d : Drawn cs old sum (2 * key) × (key ≤ length old)
          d = alone_drawn x h

          c : Carried cs old leads t sum (2 * key) (join_state leads t sum (2 * key))
          c = join_makes cs old leads t k sum (2 * key) d.0 (sum_high x old) (subst⁻¹ (λ (n : ℕ). n ≤ length old) (net_double key) d.1)
      go (no h) = subst (AloneMade cs old leads t key sum) (alone_kept leads t key sum (omega arith)) (record { making = k; later = λ a b j. j; joined = λ l. absurd (h l) })

  -- the counter of joins has room for both of them
  pub joins_few : {leads : List ℕ} {t : Tally} → Making cs old leads t → t.joins < 4294967294
  joins_few making = let n = own_length (length old) old in let e = making.joins_are in omega (arith, ready.nets)
