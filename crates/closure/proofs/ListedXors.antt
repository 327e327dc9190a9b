-- A pass over a list of clauses takes every literal of their XORs, with a table that is kept: what is joined then, rules 5 and 6 conclude.
-- Assumes nothing.
use mathlib.Core.Path.{◌≡◌, sym, ◌∙◌, ap, subst, subst⁻¹, subst₂}
use mathlib.Core.Logic.{◌≢◌, ◌⊎◌, inl, inr}
use mathlib.Core.Bool.{not}
use mathlib.Core.List.{List}
use Prim.Native.Nat.{ℕ, ◌+◌, ◌-◌, ◌*◌, ◌≤◌, ◌<◌}
use native.Mathlib.Omega.{arith}
use native.Mathlib.Decide.{ℕ_discrete}
use borrow.Author.Tests.{eq-eqb, eqb-true}
use lib.Dec.{eqb}
use lib.ListN.{length, get_or}
use Rattle.clauses.specs.Code.{net}
use Rattle.clauses.specs.Listing.{Fits}
use Rattle.clauses.proofs.Clauses.{fits_present}
use Rattle.gates.specs.Found.{is_xor}
use Rattle.clauses.specs.Row.{clause_at, Starts}
use Rattle.clauses.specs.Sign.{flip}
use Rattle.rules.specs.Answer.{lead_of}
use Rattle.closure.specs.Making.{Drawn, Making, JoinedBy, Later}
use Rattle.closure.specs.Joining.{State}
use Rattle.closure.specs.Marked.{Marked, Ready, Went}
use Rattle.closure.specs.Xors.{LeadRow, odd_nets, odd_sign, packed, Digits, others, rest_of, Packable, XorAt, rest_at, key_at, sum_at}
use Rattle.closure.specs.XorMatching.{XorsOf, join_alone, Again, Opened, Stepped, rest_along, sum_along}
use Rattle.closure.specs.Worklist.{Past}
use Rattle.closure.specs.KeptXors.{XorSlot, XorTable, SummedAt, XorsKnown}
use Rattle.closure.specs.declared.table.KeyTable.{KeyTable}
use Rattle.closure.specs.declared.tally.Tally.{Tally}
use Rattle.closure.proofs.Making.{Carried, join_makes}
use Rattle.closure.proofs.JoinedBy.{joined_sym}
use Rattle.closure.proofs.Going.{went_none, went_making}
use Rattle.closure.proofs.OddNets.{odd_digits, packed_unique}
use Rattle.closure.proofs.XorItems.{Xored}
use Rattle.closure.proofs.XorRules.{xor-at}
use Rattle.closure.proofs.XorSteps.{xor_packable, sum_high, AloneMade, alone_made, joins_few}
use Rattle.closure.proofs.UnchangedClauses.{rest_in}
use Rattle.closure.proofs.KeptXors.{odd_own, xored_kept}
use Rattle.closure.proofs.Worklists.{past_or_here}

-- One literal of a listed clause

-- the literals of the XORs of the clauses that the pass is done with, and those of the clause at b below place `at`, have been matched
pub record Summed {S B : ℕ} (row marks old list : List ℕ) (i b at : ℕ) (xors : KeyTable S B) (s : State) : Type 0 where
  pub summed : (c q : ℕ) → XorAt row marks c q → Past list i c ⊎ ((b ≡ c) × (q < at)) → SummedAt row old s.row s.tally xors c q
  pub alone : (c q : ℕ) → XorAt row marks c q → Past list i c ⊎ ((b ≡ c) × (q < at)) → key_at old row c q < 65536
      → JoinedBy s.row s.tally (sum_at old row c q) (2 * key_at old row c q)

-- the literal at place `at` of the clause at b has been taken: the round goes on, and whatever was matched below it, is matched with it
record Added {S B : ℕ} (cs : List (List ℕ)) (row marks old : List ℕ) (b at : ℕ) (xors : KeyTable S B) (s : State) (xors' : KeyTable S B) (s' : State) : Type 0 where
  making : Making cs old s'.row s'.tally
  later : Later s.row s.tally s'.row s'.tally
  table : XorTable row marks old xors'
  summed : (list : List ℕ) (i : ℕ) → Summed row marks old list i b at xors s → Summed row marks old list i b (at + 1) xors' s'
  few : xors'.count ≤ xors.count + 1

module _ {cs : List (List ℕ)} {row marks old : List ℕ} (ready : XorsOf cs row marks old) where
  slot_digits : {leads : List ℕ} → LeadRow leads → {b p : ℕ} → XorAt row marks b p → Digits (odd_nets (lead_of leads) (rest_at row b p))
  slot_digits {leads} l {b} {p} x =
      odd_digits (lead_of leads) (rest_at row b p)
      (λ y m. omega (arith, l.low y, (fits_present ready.fits (ready.marked.clause_is b x.place.start) y (rest_in row b p y m)).1, ready.nets))

  -- rule 6 joins a sum to that in a slot of its key
  slot_drawn : {b p key sum : ℕ} → XorAt row marks b p → XorSlot row marks old key sum → key ≡ key_at old row b p → Drawn cs old (sum_at old row b p) sum
  unfolding key_at
  slot_drawn {b} {p} x s e =
      subst⁻¹ (Drawn cs old (sum_at old row b p)) s.sum_is
      (xored_kept s.are ready.leads s.grown (odd_nets (lead_of old) (rest_at row b p)) (odd_own ready.leads (rest_at row b p))
      (subst (λ (l : List ℕ). Xored cs (lead_of s.leads) l (sum_at s.leads row s.start s.place))
      (packed_unique (odd_nets (lead_of s.leads) (rest_at row s.start s.place)) (odd_nets (lead_of old) (rest_at row b p)) (slot_digits s.are s.at) (slot_digits ready.leads x) (sym s.key_is ∙ e))
      (xor-at s.leads ready.marked s.at))
      (xor-at old ready.marked x))

  module _ {S B b at : ℕ} {xors : KeyTable S B} {s : State} (making : Making cs old s.row s.tally) (table : XorTable row marks old xors)
      (x : XorAt row marks b at) where
    abbrev key : ℕ
    key = key_at old row b at

    abbrev sum : ℕ
    sum = sum_at old row b at

    abbrev mid : State
    mid = join_alone s.row s.tally key sum

    alone_here : AloneMade cs old s.row s.tally key sum mid
    alone_here = alone_made ready making x

    -- what has been matched is what was, or the literal's
    upto : (list : List ℕ) (i : ℕ) (P : ℕ → ℕ → Type 0) → ((c q : ℕ) → XorAt row marks c q → Past list i c ⊎ ((b ≡ c) × (q < at)) → P c q) → P b at
        → (c q : ℕ) → XorAt row marks c q → Past list i c ⊎ ((b ≡ c) × (q < at + 1)) → P c q
    upto list i P below here c q y (inl d) = below c q y (inl d)
    upto list i P below here c q y (inr (e, l)) = go (ℕ_discrete at q)
      where
        go : Dec (at ≡ q) → P c q
        go (yes f) = subst₂ P e f here
        go (no n) = below c q y (inr (e, omega arith))

    module _ (xors' : KeyTable S B) (s' : State) where
      abbrev Sums : ℕ → ℕ → Type 0
      Sums = SummedAt row old s'.row s'.tally xors'

      abbrev Alone : ℕ → ℕ → Type 0
      Alone c q = key_at old row c q < 65536 → JoinedBy s'.row s'.tally (sum_at old row c q) (2 * key_at old row c q)

      again_added : Again key sum xors mid xors' s' → Added cs row marks old b at xors s xors' s'
      again_added a =
          record {
            making = c.making;
            later = later;
            table = rw a.kept table;
            summed = λ list i k. record {
              summed = upto list i Sums (λ d q y l. below (k.summed d q y l)) (subst⁻¹ (λ (w : KeyTable S B). SummedAt row old s'.row s'.tally w b at) a.kept (record { slot = a.slot; taken = a.taken; key = a.same; joined = joined_sym s'.row s'.tally sum other c.joined }));
              alone = upto list i Alone (λ d q y l h. later _ _ (k.alone d q y l h)) (λ h. c.later _ _ (alone_here.joined h));
            };
            few = rw a.kept (omega arith);
          }
        where
          o : XorSlot row marks old (get_or xors.keys a.slot 0) (get_or xors.values a.slot 0)
          o = table.are a.slot a.taken

          other : ℕ
          other = get_or xors.values a.slot 0

          other_high : net other ≤ length old
          other_high = subst⁻¹ (λ (n : ℕ). net n ≤ length old) o.sum_is (sum_high ready o.at o.leads)

          c : Carried cs old mid.row mid.tally sum other s'
          c =
              subst⁻¹ (Carried cs old mid.row mid.tally sum other) a.joined
              (join_makes cs old mid.row mid.tally alone_here.making sum other (slot_drawn x o a.same) (sum_high ready x old) other_high)

          later : Later s.row s.tally s'.row s'.tally
          later u v j = c.later u v (alone_here.later u v j)

          below : {d q : ℕ} → SummedAt row old s.row s.tally xors d q → Sums d q
          below {d} {q} z =
              subst⁻¹ (λ (w : KeyTable S B). SummedAt row old s'.row s'.tally w d q) a.kept
              (record { slot = z.slot; taken = z.taken; key = z.key; joined = later _ _ z.joined })

      opened_added : Opened key sum xors mid xors' s' → Added cs row marks old b at xors s xors' s'
      opened_added a =
          record {
            making = subst⁻¹ (λ (w : State). Making cs old w.row w.tally) a.same alone_here.making;
            later = later;
            table = record {
              are = λ j l. are j (ℕ_discrete j xors.count) (omega (arith, l, a.entered.count));
              once = λ i j u v e. once i j (ℕ_discrete i xors.count) (ℕ_discrete j xors.count) (omega (arith, u, a.entered.count)) (omega (arith, v, a.entered.count)) e;
            };
            summed = λ list i k. record {
              summed = upto list i Sums (λ d q y l. below (k.summed d q y l)) (record { slot = xors.count; taken = omega (arith, a.entered.count); key = a.entered.key_is; joined = inr (ap (lead_of s'.row) a.entered.value_is) });
              alone = upto list i Alone (λ d q y l h. later _ _ (k.alone d q y l h)) (λ h. after _ _ (alone_here.joined h));
            };
            few = omega (arith, a.entered.count);
          }
        where
          after : Later mid.row mid.tally s'.row s'.tally
          after u v j = subst⁻¹ (λ (w : State). JoinedBy w.row w.tally u v) a.same j

          later : Later s.row s.tally s'.row s'.tally
          later u v j = after u v (alone_here.later u v j)

          are : (j : ℕ) → Dec (j ≡ xors.count) → j ≤ xors.count → XorSlot row marks old (get_or xors'.keys j 0) (get_or xors'.values j 0)
          are j (yes e) l =
              record {
                leads = old;
                are = ready.leads;
                grown = λ u v g. g;
                start = b;
                place = at;
                at = x;
                key_is = ap (λ (i : ℕ). get_or xors'.keys i 0) e ∙ a.entered.key_is;
                sum_is = ap (λ (i : ℕ). get_or xors'.values i 0) e ∙ a.entered.value_is;
              }
          are j (no n) l =
              let h : j < xors.count = omega arith in
              subst₂ (XorSlot row marks old) (sym (a.entered.keeps.key j h)) (sym (a.entered.keeps.value j h)) (table.are j h)

          once : (i j : ℕ) → Dec (i ≡ xors.count) → Dec (j ≡ xors.count) → i ≤ xors.count → j ≤ xors.count → get_or xors'.keys i 0 ≡ get_or xors'.keys j 0 → i ≡ j
          once i j (yes d) (yes e) u v q = d ∙ sym e
          once i j (yes d) (no n) u v q =
              let h : j < xors.count = omega arith in
              absurd (a.none j h (sym (a.entered.keeps.key j h) ∙ sym q ∙ ap (λ (i : ℕ). get_or xors'.keys i 0) d ∙ a.entered.key_is))
          once i j (no n) (yes e) u v q =
              let h : i < xors.count = omega arith in
              absurd (a.none i h (sym (a.entered.keeps.key i h) ∙ q ∙ ap (λ (i : ℕ). get_or xors'.keys i 0) e ∙ a.entered.key_is))
          once i j (no n) (no o) u v q =
              let h : i < xors.count = omega arith in
              let g : j < xors.count = omega arith in
              table.once i j h g (sym (a.entered.keeps.key i h) ∙ q ∙ a.entered.keeps.key j g)

          below : {d q : ℕ} → SummedAt row old s.row s.tally xors d q → Sums d q
          below {d} {q} z =
              record {
                slot = z.slot;
                taken = omega (arith, a.entered.count, z.taken);
                key = a.entered.keeps.key z.slot z.taken ∙ z.key;
                joined = subst⁻¹ (λ (v : ℕ). JoinedBy s'.row s'.tally v (sum_at old row d q)) (a.entered.keeps.value z.slot z.taken) (later _ _ z.joined);
              }

    added : {xors' : KeyTable S B} {s' : State} → Stepped key sum xors s xors' s' → Added cs row marks old b at xors s xors' s'
    added {xors'} {s'} (inl a) = again_added xors' s' a
    added {xors'} {s'} (inr a) = opened_added xors' s' a

module _ {row marks old leads : List ℕ} {t : Tally} (ready : Ready row marks old leads t) where
  pub xors_of : (cs : List (List ℕ)) → Marked cs row marks → Fits (length old) cs → XorsOf cs row marks old
  xors_of cs d f = record { marked = d; fits = f; leads = ready.leads; nets = ready.nets; entries = ready.entries }

  pub xors_here : XorsOf ready.of row marks old
  xors_here = xors_of ready.of ready.marked ready.fits

-- A listed clause

module _ {row marks : List ℕ} {b end : ℕ} (s : Starts row b) (e : end ≡ b + length (clause_at row b)) where
  mark_xor : get_or marks end 0 ≡ 1 → (q : ℕ) → b ≤ q → q < end → XorAt row marks b q
  unfolding is_xor
  mark_xor mark q l h =
      record {
        place = record { start = s; low = l; high = omega arith };
        marked = ap (λ (i : ℕ). eqb (get_or marks i 0) 1) (sym e) ∙ eq-eqb (get_or marks end 0) 1 mark;
      }

  xor_mark : {q : ℕ} → XorAt row marks b q → get_or marks end 0 ≡ 1
  unfolding is_xor
  xor_mark x = eqb-true (get_or marks end 0) 1 (ap (λ (i : ℕ). eqb (get_or marks i 0) 1) e ∙ x.marked)

-- the literals of the clause at b are being taken, and place `at` is reached
pub record ClauseTo {S B : ℕ} (row marks old : List ℕ) (b : ℕ) (xors : KeyTable S B) (s : State) (at : ℕ) (xors' : KeyTable S B) (s' : State) : Type 0 where
  pub went : Went row marks old s.row s.tally s'.row s'.tally
  pub table : XorTable row marks old xors'
  pub summed : (list : List ℕ) (i : ℕ) → XorsKnown row marks old s.row s.tally list i xors → Summed row marks old list i b at xors' s'
  pub few : xors'.count + b ≤ xors.count + at

-- the clause is no XOR
pub clause_skipped : {S B : ℕ} {row marks old new : List ℕ} {t : Tally} {xors : KeyTable S B} {b end : ℕ} → Starts row b → end ≡ b + length (clause_at row b) → get_or marks end 0 ≢ 1
    → {list : List ℕ} {i : ℕ} → get_or list i 0 ≡ b → XorsKnown row marks old new t list i xors → XorsKnown row marks old new t list (i + 1) xors
clause_skipped {row = row} {marks} {b = b} starts e mark {list} {i} is known =
    record {
      summed = λ c q x d. known.summed c q x (past c q x (past_or_here list i c d));
      alone = λ c q x d. known.alone c q x (past c q x (past_or_here list i c d));
    }
  where
    past : (c q : ℕ) → XorAt row marks c q → (get_or list i 0 ≡ c) ⊎ Past list i c → Past list i c
    past c q x (inl f) = absurd (mark (xor_mark starts e (subst (λ (a : ℕ). XorAt row marks a q) (sym f ∙ is) x)))
    past c q x (inr d) = d

pub clause_begins : {S B : ℕ} {row marks old : List ℕ} (b : ℕ) {xors : KeyTable S B} {s : State} → XorTable row marks old xors → ClauseTo row marks old b xors s b xors s
clause_begins {row = row} {marks} b table =
    record {
      went = went_none;
      table = table;
      summed = λ list i known. record {
        summed = λ c q x d. known.summed c q x (past list i c q x d);
        alone = λ c q x d. known.alone c q x (past list i c q x d);
      };
      few = omega arith;
    }
  where
    past : (list : List ℕ) (i c q : ℕ) → XorAt row marks c q → Past list i c ⊎ ((b ≡ c) × (q < b)) → Past list i c
    past list i c q x (inl d) = d
    past list i c q x (inr (f, l)) = absurd (omega (arith, f, l, x.place.low))

module _ {S B : ℕ} {row marks old : List ℕ} {b : ℕ} {xors : KeyTable S B} {s : State} {at : ℕ} {xors' : KeyTable S B} {s' : State}
    (t : ClauseTo row marks old b xors s at xors' s') {end : ℕ} (e : end ≡ b + length (clause_at row b)) where
  pub clause_known : end ≤ at → (list : List ℕ) (i : ℕ) → get_or list i 0 ≡ b → XorsKnown row marks old s.row s.tally list i xors
      → XorsKnown row marks old s'.row s'.tally list (i + 1) xors'
  clause_known h list i is known =
      let k = t.summed list i known in
      record {
        summed = λ c q x d. k.summed c q x (past c q x (past_or_here list i c d));
        alone = λ c q x d. k.alone c q x (past c q x (past_or_here list i c d));
      }
    where
      past : (c q : ℕ) → XorAt row marks c q → (get_or list i 0 ≡ c) ⊎ Past list i c → Past list i c ⊎ ((b ≡ c) × (q < at))
      past c q x (inl f) = let g = sym is ∙ f in inr (g, omega (arith, h, e, (subst⁻¹ (λ (a : ℕ). XorAt row marks a q) g x).place.high))
      past c q x (inr d) = inl d

  module _ (ready : Ready row marks old s.row s.tally) (starts : Starts row b) (marked : get_or marks end 0 ≡ 1) (low : b ≤ at) (more : at < end) where
    literal_here : XorAt row marks b at
    literal_here = mark_xor starts e marked at low more

    literals : end - b ≡ length (clause_at row b)
    literals = omega (arith, e)

    -- what taking the literal asks
    pub clause_packable : Packable old row b (end - b) at
    clause_packable = subst⁻¹ (λ (n : ℕ). Packable old row b n at) literals (xor_packable (xors_here ready) literal_here)

    pub clause_joins : s'.tally.joins < 4294967294
    clause_joins = joins_few (xors_here ready) (went_making ready t.went)

    pub clause_on : {xors'' : KeyTable S B} {s'' : State} → Stepped (rest_along old row b (end - b) at).key (sum_along old row b (end - b) at) xors' s' xors'' s'' → ClauseTo row marks old b xors s (at + 1) xors'' s''
    unfolding rest_of key_at sum_at rest_at
    clause_on {xors''} {s''} h =
        record {
          went = record { making = λ cs u v g. (added_for (xors_of ready cs u v) (t.went.making cs u v g)).making; later = λ u v j. d.later u v (t.went.later u v j) };
          table = d.table;
          summed = λ list i k. d.summed list i (t.summed list i k);
          few = omega (arith, t.few, d.few);
        }
      where
        added_for : {cs : List (List ℕ)} → XorsOf cs row marks old → Making cs old s'.row s'.tally → Added cs row marks old b at xors' s' xors'' s''
        added_for o g =
            added o g t.table literal_here
            (subst₂ (λ (x y : ℕ). Stepped x y xors' s' xors'' s'')
            (ap (λ (n : ℕ). packed (odd_nets (lead_of old) (others row at b n))) literals)
            (ap (λ (n : ℕ). flip (not (odd_sign (lead_of old) (others row at b n))) (get_or row at 0)) literals) h)

        d : Added ready.of row marks old b at xors' s' xors'' s''
        d = added_for (xors_here ready) (went_making ready t.went)
