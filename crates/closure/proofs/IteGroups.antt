-- Rule 8 by groups of entries with one key: what has been matched in a group is joined, and every conclusion of rules 7 and 8 is in the end.
-- Assumes nothing.
use mathlib.Core.Path.{◌≡◌, refl, sym, ◌∙◌, ap, subst, subst⁻¹}
use mathlib.Core.Logic.{◌≢◌, ◌⊎◌, inl, inr}
use mathlib.Core.Bool.{true, false, not, true≢false}
use mathlib.Core.List.{List}
use Rattle.std.specs.Prelude.{Option, Some, None}
use Rattle.std.specs.Option.{option_eq}
use Prim.Native.Nat.{ℕ, zero, suc, ◌+◌, ◌-◌, ◌*◌, ◌/◌, ◌%◌, ◌≤◌, ◌<◌}
use native.Mathlib.Omega.{arith}
use native.Mathlib.Decide.{dec_lt, ℕ_discrete}
use borrow.Author.Tests.{eq-eqb, ne_eqb}
use lib.Dec.{eqb}
use lib.ListN.{length, get_or, set, replicate, length-set}
use lib.Seq.{get_or-set_same, get_or-set_other}
use Rattle.clauses.specs.Code.{negate}
use Rattle.clauses.proofs.Codes.{negate_negate}
use Rattle.clauses.proofs.Chains as Chains
use Rattle.clauses.proofs.Chains.{WalkIn, walk_begin, walk_end, walk_falls}
use Rattle.clauses.proofs.Fills.{zero_at}
use Rattle.rules.specs.Rule.{Concludes}
use Rattle.rules.specs.Answer.{lead_of}
use Rattle.closure.specs.Making.{Kernel, Making, fresh, JoinedBy}
use Rattle.closure.specs.Joining.{join_state}
use Rattle.closure.specs.Marked.{Marked, Ready, Went}
use Rattle.closure.specs.Table.{LastSlot}
use Rattle.closure.specs.IteSides.{InThree, select_at, output_at, then_at, IsSide, clause_of, Pair, pair_key, InHub, Hubs}
use Rattle.closure.specs.RowJoined.{SideAt, IteAt, ItesJoined}
use Rattle.closure.specs.Changes.{ChangedIn, ReadAt}
use Rattle.closure.specs.Worklist.{OnList, Changed, HoldsChanged, HoldsAll}
use Rattle.closure.specs.SideTable.{like_of, SideSlot, EntryOff, SidesKnown, SideGroups, GroupJoined}
use Rattle.closure.specs.IteGroups.{Alike, Held, Holders, Served, Matching, Matchable, IsLast, OneOutput}
use Rattle.closure.specs.declared.table.KeyTable.{KeyTable}
use Rattle.closure.specs.declared.hubs.SideHubs.{SideHubs}
use Rattle.closure.specs.declared.tally.Tally.{Tally}
use Rattle.closure.proofs.Tables.{KeyWalk, walk_begins, walk_inside, walk_next, walk_ends, walk_map}
use Rattle.closure.proofs.Searches.{lead_negate}
use Rattle.closure.proofs.JoinedBy.{drawn_new, joined_sym, joined_trans, joined_same}
use Rattle.closure.proofs.Worklists.{past_end}
use Rattle.closure.proofs.UnchangedClauses.{SideUnchanged, side_unchanged_or_changed, kernel_before, kept_true, joined_before}
use Rattle.closure.proofs.Going.{went_none, went_then, ready_on, join_went}
use Rattle.closure.proofs.Sides.{pair_once, side_inside, pair_gate, pair_back, output_net, then_net, pair-at, Numbered, side_numbered}

-- the lead of a side's literal t has a holder's place
pub then_lead : {row marks old new : List ℕ} {t : Tally} → Ready row marks old new t → {s : ℕ} → IsSide row marks s → lead_of old (then_at row s) < 2 * length old + 2
then_lead {row} r {s} i = omega (arith, then_net r i, r.leads.low (then_at row s))

-- Sides that are alike

module _ (row old : List ℕ) where
  pub alike_self : (i : ℕ) → Alike row old i i
  alike_self i = record { selects = refl; thens = refl }

  pub alike_back : {i k : ℕ} → Alike row old i k → Alike row old k i
  alike_back a = record { selects = sym a.selects; thens = sym a.thens }

  pub alike_chain : {i k m : ℕ} → Alike row old i k → Alike row old k m → Alike row old i m
  alike_chain a b = record { selects = a.selects ∙ b.selects; thens = a.thens ∙ b.thens }

-- entries with one key are alike, whenever they were entered
pub slots_alike : {row marks old : List ℕ} {like like' s s' : ℕ} → SideSlot row marks old like s → SideSlot row marks old like' s' → like ≡ like' → Alike row old s s'
slots_alike {old = old} h k q =
    let e = pair_once h.select h.then k.select k.then h.then_low k.then_low (sym h.like_is ∙ q ∙ k.like_is) in
    record { selects = h.select_is ∙ ap (lead_of old) e.0 ∙ sym k.select_is; thens = h.then_is ∙ ap (lead_of old) e.1 ∙ sym k.then_is }

-- An ITE is matched with the holder of its e's lead

module _ (row marks old holders new : List ℕ) (t : Tally) (r : Ready row marks old new t) (hs : Holders row marks old holders) (k j : ℕ) (p : Pair row marks k j) where
  -- side f is the holder, and like k
  module _ (f : ℕ) (in_row : get_or holders (lead_of old (then_at row j)) 0 ≡ suc f) (a : Alike row old k f) {new' : List ℕ} {t' : Tally}
      (e : record { row = new'; tally = t' } ≡ join_state new t (output_at row k) (output_at row f)) where
    joined_held : Went row marks old new t new' t' × JoinedBy new' t' (output_at row k) (output_at row f)
    joined_held =
        let (i, q, l) = hs.held (lead_of old (then_at row j)) f in_row in
        join_went r
        (λ cs m. drawn_new cs old _ _ (Concludes.ite_ite (pair_gate m p) (pair_gate m q) a.selects a.thens (sym l)))
        (output_net r p.first) (output_net r q.first) e

    held_matching : Matching row marks old k holders new t holders new' t'
    held_matching = record { went = joined_held.0; holds = hs; keeps = λ y m h b. h }

    held_served : Served row old holders new' t' k j
    held_served = record { holder = f; in_row = in_row; alike = a; joined = joined_held.1 }

  -- there is no holder like k, and k becomes it
  module _ (other : (f : ℕ) → get_or holders (lead_of old (then_at row j)) 0 ≡ suc f → ¬ Alike row old k f) where
    abbrev given : List ℕ
    given = set holders (lead_of old (then_at row j)) (k + 1)

    here : get_or given (lead_of old (then_at row j)) 0 ≡ suc k
    here =
        get_or-set_same holders (lead_of old (then_at row j)) (k + 1) 0 (omega (arith, then_lead r p.second, hs.room)) ∙ omega arith

    given_matching : Matching row marks old k holders new t given new t
    given_matching =
        record {
          went = went_none;
          holds = record { room = simp length-set hs.room; held = λ y m h. held y m h (ℕ_discrete y (lead_of old (then_at row j))) };
          keeps = λ y m h a. keeps y m h a (ℕ_discrete y (lead_of old (then_at row j)));
        }
      where
        held : (y m : ℕ) → get_or given y 0 ≡ suc m → Dec (y ≡ lead_of old (then_at row j)) → (i : ℕ) × Pair row marks m i × (lead_of old (then_at row i) ≡ y)
        held y m h (yes e) =
            let q : m ≡ k = omega (arith, sym h ∙ ap (λ (x : ℕ). get_or given x 0) e ∙ here) in
            (j, rw q p, sym e)
        held y m h (no n) = hs.held y m (sym (get_or-set_other holders (lead_of old (then_at row j)) y (k + 1) 0 n) ∙ h)

        keeps : (y m : ℕ) → get_or holders y 0 ≡ suc m → Alike row old k m → Dec (y ≡ lead_of old (then_at row j)) → get_or given y 0 ≡ suc m
        keeps y m h a (yes e) = absurd (other m (ap (λ (x : ℕ). get_or holders x 0) (sym e) ∙ h) a)
        keeps y m h a (no n) = get_or-set_other holders (lead_of old (then_at row j)) y (k + 1) 0 n ∙ h

    given_served : Served row old given new t k j
    given_served = record { holder = k; in_row = here; alike = alike_self row old k; joined = inr refl }

  -- the same in terms of the lead y
  module _ (y : ℕ) (e : y ≡ lead_of old (then_at row j)) where
    pub pair_held : Held row old k (get_or holders y 0) → {new' : List ℕ} {t' : Tally} (a b : ℕ) → record { row = new'; tally = t' } ≡ join_state new t a b
        → a ≡ output_at row k → b ≡ output_at row (get_or holders y 0 - 1)
        → Matching row marks old k holders new t holders new' t' × Served row old holders new' t' k j
    pair_held h a b f x z =
        let i : get_or holders (lead_of old (then_at row j)) 0 ≡ suc (get_or holders y 0 - 1) = ap (λ (z : ℕ). get_or holders z 0) (sym e) ∙ omega (arith, h.some) in
        let q = rw (x, z) at f in
        (held_matching (get_or holders y 0 - 1) i h.alike q, held_served (get_or holders y 0 - 1) i h.alike q)

    pub pair_given : ¬ Held row old k (get_or holders y 0)
        → Matching row marks old k holders new t (set holders y (k + 1)) new t × Served row old (set holders y (k + 1)) new t k j
    pair_given n = rw e (given_matching other, given_served other)
      where
        other : (f : ℕ) → get_or holders (lead_of old (then_at row j)) 0 ≡ suc f → ¬ Alike row old k f
        other f x a =
            let q : get_or holders y 0 ≡ suc f = ap (λ (z : ℕ). get_or holders z 0) e ∙ x in
            let z : get_or holders y 0 - 1 ≡ f = omega arith in
            n (record { some = omega arith; alike = rw z a })

-- nobody is a holder
pub holders_none : (row marks old holders : List ℕ) (n : ℕ) → holders ≡ replicate n 0 → 2 * length old + 2 ≤ length holders → Holders row marks old holders
holders_none row marks old holders n e l =
    record { room = l; held = λ y k h. absurd (omega (arith, sym (zero_at n y) ∙ ap (λ (x : List ℕ). get_or x y 0) (sym e) ∙ h)) }

-- a holder is a side
pub holder_three : {row marks old holders : List ℕ} → Holders row marks old holders → (y : ℕ) → 0 < get_or holders y 0 → InThree row ((get_or holders y 0 - 1) / 2)
holder_three {row} {holders = holders} hs y l =
    let (j, p, e) = hs.held y (get_or holders y 0 - 1) (omega arith) in p.first.in-three

-- Matching goes on

module _ {row marks old : List ℕ} where
  pub matching_none : {holders new : List ℕ} {t : Tally} (k : ℕ) → Holders row marks old holders → Matching row marks old k holders new t holders new t
  matching_none k hs = record { went = went_none; holds = hs; keeps = λ y f h a. h }

  pub matching_then : {holders holders' holders'' new new' new'' : List ℕ} {t t' t'' : Tally} {k : ℕ} → Matching row marks old k holders new t holders' new' t'
      → Matching row marks old k holders' new' t' holders'' new'' t'' → Matching row marks old k holders new t holders'' new'' t''
  matching_then p q = record { went = went_then p.went q.went; holds = q.holds; keeps = λ y f h a. q.keeps y f (p.keeps y f h a) a }

  pub matching_alike : {holders holders' new new' : List ℕ} {t t' : Tally} {i k : ℕ} → Alike row old i k → Matching row marks old k holders new t holders' new' t'
      → Matching row marks old i holders new t holders' new' t'
  matching_alike a m =
      record { went = m.went; holds = m.holds; keeps = λ y f h b. m.keeps y f h (alike_chain row old (alike_back row old a) b) }

  -- an ITE that has been matched stays so while others like it are
  served_on : {holders holders' new new' : List ℕ} {t t' : Tally} {i k j : ℕ} → Matching row marks old i holders new t holders' new' t' → Alike row old i k
      → Served row old holders new t k j → Served row old holders' new' t' k j
  served_on {j = j} m a v =
      record {
        holder = v.holder;
        in_row = m.keeps (lead_of old (then_at row j)) v.holder v.in_row (alike_chain row old a v.alike);
        alike = v.alike;
        joined = m.went.later _ _ v.joined;
      }

  pub matchable_on : {N B : ℕ} {hubs : SideHubs N B} {holders holders' new new' : List ℕ} {t t' : Tally} → Matchable row marks hubs old holders new t → Went row marks old new t new' t'
      → Holders row marks old holders' → Matchable row marks hubs old holders' new' t'
  matchable_on m w h = record { ready = ready_on m.ready w; holds = h; hubs_are = m.hubs_are }

-- two ITEs with one holder
served_joined : {row old holders new : List ℕ} {t : Tally} {k j m n : ℕ} → Served row old holders new t k j → Served row old holders new t m n → Kernel old (then_at row j) (then_at row n)
    → JoinedBy new t (output_at row k) (output_at row m)
served_joined {row} {old} {holders} {new} {t} {k} {j} {m} {n} u v e =
    let f : u.holder ≡ v.holder = omega (arith, sym u.in_row ∙ ap (λ (x : ℕ). get_or holders x 0) e ∙ v.in_row) in
    joined_trans new t (output_at row k) (output_at row u.holder) (output_at row m) u.joined
    (joined_sym new t (output_at row m) (output_at row u.holder) (rw f v.joined))

-- The second sides of a side's ITEs, along a chain of the hubs

-- those of side k, which are in bucket b of m
abbrev pub MatesTo : ℕ → List ℕ → List ℕ → List ℕ → List ℕ → List ℕ → Tally → ℕ → ℕ → ℕ → Type 0
MatesTo m row marks old holders new t b k = WalkIn (InHub row marks m) (2 * length row) b (λ j. Pair row marks k j → Served row old holders new t k j)

pub record Mating (m : ℕ) (row marks old : List ℕ) (k : ℕ) (holders new : List ℕ) (t : Tally) (b : ℕ) (holders' new' : List ℕ) (t' : Tally) (j : ℕ) : Type 0 where
  pub matching : Matching row marks old k holders new t holders' new' t'
  pub mates : MatesTo m row marks old holders' new' t' b k j

module _ {N B : ℕ} {row marks old : List ℕ} {hubs : SideHubs N B} (h : Hubs row marks hubs) where
  pub mating_begins : {holders new : List ℕ} {t : Tally} {b k : ℕ} → Holders row marks old holders → b < length hubs.heads
      → Mating B row marks old k holders new t b holders new t (get_or hubs.heads b 0)
  mating_begins {b = b} {k = k} hs l =
      record { matching = matching_none k hs; mates = walk_begin _ (2 * length row) b hubs.heads hubs.links h.chains _ l }

  module _ {holders new holders' new' : List ℕ} {t t' : Tally} {b k j : ℕ} (m : Mating B row marks old k holders new t b holders' new' t' j) (l : 0 < j) where
    pub mating_side : IsSide row marks (j - 1)
    mating_side = (m.mates.at l).is-side

    pub mating_less : get_or hubs.links (j - 1) 0 < j
    mating_less = walk_falls _ (2 * length row) b hubs.heads hubs.links h.chains m.mates l

    -- j makes no ITE with k
    pub mating_skips : ¬ Pair row marks k (j - 1) → Mating B row marks old k holders new t b holders' new' t' (get_or hubs.links (j - 1) 0)
    mating_skips n = record { matching = m.matching; mates = Chains.walk_next _ (2 * length row) b hubs.heads hubs.links h.chains m.mates l (λ p. absurd (n p)) }

    -- it does, and has been matched
    pub mating_on : {holders'' new'' : List ℕ} {t'' : Tally} → Matching row marks old k holders' new' t' holders'' new'' t'' × Served row old holders'' new'' t'' k (j - 1)
        → Mating B row marks old k holders new t b holders'' new'' t'' (get_or hubs.links (j - 1) 0)
    mating_on (n, v) =
        record {
          matching = matching_then m.matching n;
          mates =
              Chains.walk_next _ (2 * length row) b hubs.heads hubs.links h.chains
              (Chains.walk_map _ (2 * length row) b (λ i f p. served_on n (alike_self row old k) (f p)) m.mates) l (λ p. v);
        }

  pub mating_ends : {holders new holders' new' : List ℕ} {t t' : Tally} {b k j : ℕ} → Mating B row marks old k holders new t b holders' new' t' j → j ≤ 0
      → b ≡ pair_key (negate (select_at row k)) (output_at row k) % B → (i : ℕ) → Pair row marks k i → Served row old holders' new' t' k i
  mating_ends {b = b} m l e i p =
      walk_end _ (2 * length row) b m.mates l i (side_inside p.second)
      (record { is-side = p.second; bucket = rw (p.selects, p.outputs) (sym e) }) p

-- The entries with one key

-- the last slot with a key
pub last_below : (keys : List ℕ) (key n : ℕ) → (o : Option ℕ) × LastSlot keys key n o
last_below keys key zero = (None, λ i l. absurd (omega arith))
last_below keys key (suc n) = go (ℕ_discrete (get_or keys n 0) key) (last_below keys key n)
  where
    go : Dec (get_or keys n 0 ≡ key) → (o : Option ℕ) × LastSlot keys key n o → (o : Option ℕ) × LastSlot keys key (suc n) o
    go (yes e) _ = (Some n, (omega arith, e, λ i l d. omega arith))
    go (no d) (None, h) = (None, λ i l f. none i l f (ℕ_discrete i n))
      where
        none : (i : ℕ) → i < suc n → get_or keys i 0 ≡ key → Dec (i ≡ n) → ⊥
        none i l f (yes q) = d (sym (ap (λ (x : ℕ). get_or keys x 0) q) ∙ f)
        none i l f (no q) = h i (omega arith) f
    go (no d) (Some k, h) = (Some k, (omega (arith, h.0), h.1, λ i l f. before i l f (ℕ_discrete i n)))
      where
        before : (i : ℕ) → i < suc n → get_or keys i 0 ≡ key → Dec (i ≡ n) → i ≤ k
        before i l f (yes q) = absurd (d (sym (ap (λ (x : ℕ). get_or keys x 0) q) ∙ f))
        before i l f (no q) = h.2 i (omega arith) f

-- the test whether it is number i
pub is_last : (keys : List ℕ) (key n i : ℕ) (o : Option ℕ) → false ≡ not (option_eq eqb o (Some i)) → LastSlot keys key n o → LastSlot keys key n (Some i)
is_last keys key n i None e h = absurd (true≢false (sym e))
is_last keys key n i (Some j) e h = go (ℕ_discrete j i)
  where
    go : Dec (j ≡ i) → LastSlot keys key n (Some i)
    go (yes d) = subst (λ (k : ℕ). LastSlot keys key n (Some k)) d h
    go (no d) = absurd (true≢false (sym (rw (ne_eqb j i d) at e)))

pub not_last : (keys : List ℕ) (key n i : ℕ) (o : Option ℕ) → true ≡ not (option_eq eqb o (Some i)) → LastSlot keys key n o → ¬ LastSlot keys key n (Some i)
not_last keys key n i None e h g = h i g.0 g.1
not_last keys key n i (Some j) e h g = let d : j ≡ i = omega (arith, h.2 i g.0 g.1, g.2 j h.0 h.1) in true≢false (rw (eq-eqb j i d) at e)

-- Outputs of one new lead

-- .. of which x is
abbrev pub OutputsTo : {S B : ℕ} → List ℕ → List ℕ → KeyTable S B → ℕ → ℕ → Option ℕ → Type 0
OutputsTo row new table x like = KeyWalk table like (λ i. lead_of new (output_at row (get_or table.values i 0)) ≡ x)

-- ITEs whose first sides are in entries with one key

abbrev pub ServedAt : {S B : ℕ} → List ℕ → List ℕ → List ℕ → List ℕ → List ℕ → Tally → KeyTable S B → ℕ → Type 0
ServedAt row marks old holders new t table i = (j : ℕ) → Pair row marks (get_or table.values i 0) j → Served row old holders new t (get_or table.values i 0) j

-- those of the entries behind `at` have been matched; the holders like the last one are still holders
pub record Grouping {S B : ℕ} (row marks old : List ℕ) (table : KeyTable S B) (last : ℕ) (holders new : List ℕ) (t : Tally) (holders' new' : List ℕ) (t' : Tally) (at : Option ℕ) : Type 0 where
  pub matching : Matching row marks old (get_or table.values last 0) holders new t holders' new' t'
  pub served : KeyWalk table (get_or table.keys last 0) (ServedAt row marks old holders' new' t' table) at

module _ {S B : ℕ} {row marks old : List ℕ} {table : KeyTable S B} (g : SideGroups row marks old table) (last : ℕ) (o : IsLast table last) where
  -- entry i is alike the last one
  group_alike : (i : ℕ) → i < table.count → get_or table.keys i 0 ≡ get_or table.keys last 0 → Alike row old (get_or table.values last 0) (get_or table.values i 0)
  group_alike i l e = slots_alike (g.are last o.0) (g.are i l) (sym e)

  pub grouping_begins : {holders new : List ℕ} {t : Tally} → Holders row marks old holders → Grouping row marks old table last holders new t holders new t (Some last)
  grouping_begins h = record { matching = matching_none (get_or table.values last 0) h; served = walk_begins table (get_or table.keys last 0) _ (Some last) o }

  module _ {holders new holders' new' : List ℕ} {t t' : Tally} where
    pub grouping_inside : {k : ℕ} → Grouping row marks old table last holders new t holders' new' t' (Some k) → k < table.count
    grouping_inside w = walk_inside table _ _ w.served

    pub grouping_side : {k : ℕ} → Grouping row marks old table last holders new t holders' new' t' (Some k) → IsSide row marks (get_or table.values k 0)
    grouping_side w = (g.are _ (grouping_inside w)).is-side

    pub grouping_on : {k : ℕ} → Grouping row marks old table last holders new t holders' new' t' (Some k) → {holders'' new'' : List ℕ} {t'' : Tally}
        → Matching row marks old (get_or table.values k 0) holders' new' t' holders'' new'' t'' × ServedAt row marks old holders'' new'' t'' table k
        → (r : Option ℕ) → LastSlot table.keys (get_or table.keys k 0) k r → Grouping row marks old table last holders new t holders'' new'' t'' r
    grouping_on {k} w {holders''} {new''} {t''} (n, v) r q =
        record {
          matching = matching_then w.matching on;
          served = walk_next table _ _ (walk_map (λ i l d f j p. served_on on (group_alike i l d) (f j p)) w.served) r q v;
        }
      where
        on : Matching row marks old (get_or table.values last 0) holders' new' t' holders'' new'' t''
        on = matching_alike (group_alike k (grouping_inside w) w.served.key_is) n

    pub grouping_ends : Grouping row marks old table last holders new t holders' new' t' None → GroupJoined row marks old new' t' table (get_or table.keys last 0)
    grouping_ends w i m j f h n d e p q z =
        served_joined
        (walk_ends table (get_or table.keys last 0) _ w.served i h d j p)
        (walk_ends table (get_or table.keys last 0) _ w.served m n e f q) z

-- Groups

pub one_joined : {S B : ℕ} (row marks old new : List ℕ) (t : Tally) (table : KeyTable S B) (like : ℕ) → OneOutput row new table like → GroupJoined row marks old new t table like
one_joined row marks old new t table like one i k j g h l d e p q z = inr (one i k h l d e)

-- the groups whose last entries are from number `from` on and below i
abbrev pub GroupsTo : {S B : ℕ} → List ℕ → List ℕ → List ℕ → List ℕ → Tally → KeyTable S B → ℕ → ℕ → Type 0
GroupsTo row marks old new t table from i = (k : ℕ) → from ≤ k → k < i → IsLast table k → GroupJoined row marks old new t table (get_or table.keys k 0)

module _ {S B : ℕ} (row marks old : List ℕ) (table : KeyTable S B) {from : ℕ} where
  -- one entry more
  pub groups_on : {new new' : List ℕ} {t t' : Tally} {i : ℕ} → GroupsTo row marks old new t table from i → Went row marks old new t new' t'
      → (IsLast table i → GroupJoined row marks old new' t' table (get_or table.keys i 0)) → GroupsTo row marks old new' t' table from (i + 1)
  groups_on {new} {new'} {t} {t'} {i} all w d k h l = go (ℕ_discrete k i)
    where
      go : Dec (k ≡ i) → IsLast table k → GroupJoined row marks old new' t' table (get_or table.keys k 0)
      go (yes e) o = rw e (d (rw e at o))
      go (no n) o = λ a b j g x y p q u v z. w.later _ _ (all k h (omega arith) o a b j g x y p q u v z)

  -- all entries
  pub groups_end : (new : List ℕ) (t : Tally) → GroupsTo row marks old new t table from table.count
      → (i : ℕ) → from ≤ i → i < table.count → GroupJoined row marks old new t table (get_or table.keys i 0)
  groups_end new t all i h l = go (last_below table.keys (get_or table.keys i 0) table.count)
    where
      go : (o : Option ℕ) × LastSlot table.keys (get_or table.keys i 0) table.count o → GroupJoined row marks old new t table (get_or table.keys i 0)
      go (None, o) = absurd (o i l refl)
      go (Some r, o) =
          subst (GroupJoined row marks old new t table) o.1
          (all r (omega (arith, o.2 i l refl)) o.0 (subst⁻¹ (λ (x : ℕ). LastSlot table.keys x table.count (Some r)) o.1 o))

-- All conclusions of rules 7 and 8

-- the round goes over all clauses and the table was empty; or it goes over those that changed, the round before has joined all that it draws, and the
-- first entries are of that round or an earlier one
pub data SidesBefore {S B : ℕ} (row marks older old list : List ℕ) (from : ℕ) (table : KeyTable S B) : Type 0 where
  first : HoldsAll row list → from ≡ 0 → SidesBefore row marks older old list from table
  later : HoldsChanged row marks older old list → ItesJoined row marks older old (fresh 0) → ((i : ℕ) → i < from → SideSlot row marks older (get_or table.keys i 0) (get_or table.values i 0))
      → SidesBefore row marks older old list from table

negated : (a b : ℕ) → a ≢ negate b → b ≢ negate a
negated a b n e = n (sym (negate_negate a) ∙ ap negate (sym e))

module _ {S B : ℕ} {cs : List (List ℕ)} {row marks older old new list : List ℕ} {table : KeyTable S B} {t : Tally} {from : ℕ} (marked : Marked cs row marks) (making : Making cs old new t)
    (known : SidesKnown row marks old new t list (length list) table) (slots : SideGroups row marks old table)
    (joined : (i : ℕ) → from ≤ i → i < table.count → GroupJoined row marks old new t table (get_or table.keys i 0)) (before : SidesBefore row marks older old list from table) where
  listed_or_unchanged : {l c u : ℕ} (s : SideAt row marks l c u) → OnList list s.start ⊎ (ItesJoined row marks older old (fresh 0) × SideUnchanged older old c u)
  listed_or_unchanged {l} {c} {u} s = go before
    where
      changed : HoldsChanged row marks older old list → ItesJoined row marks older old (fresh 0) → SideUnchanged older old c u ⊎ ChangedIn (ReadAt row marks) row older old s.start
          → OnList list s.start ⊎ (¬ Changed row marks older old s.start) → OnList list s.start ⊎ (ItesJoined row marks older old (fresh 0) × SideUnchanged older old c u)
      changed h j d (inl o) = inl o
      changed h j (inl d) (inr n) = inr (j, d)
      changed h j (inr d) (inr n) = absurd (n (Changed.side d))

      go : SidesBefore row marks older old list from table → OnList list s.start ⊎ (ItesJoined row marks older old (fresh 0) × SideUnchanged older old c u)
      go (SidesBefore.first h z) = inl (h s.start s.at.start)
      go (SidesBefore.later h j k) = changed h j (side_unchanged_or_changed older old marked s) (h s.start s.at.start)

  -- Rule 7

  selects_all : (l c u : ℕ) → SideAt row marks l c u → Kernel old c 1 → JoinedBy new t l u
  selects_all l c u s k = go (listed_or_unchanged s)
    where
      go : OnList list s.start ⊎ (ItesJoined row marks older old (fresh 0) × SideUnchanged older old c u) → JoinedBy new t l u
      go (inl o) =
          let n = side_numbered marked s in
          joined_same making n.output n.then
          (known.selects n.side n.is-side (past_end list (clause_of row n.side)) (rw n.clause o) (ap (lead_of old) n.select ∙ k))
      go (inr (j, h)) = joined_before making l u (j.selects l c u s (kernel_before older old c 1 h.select (kept_true older old) k))

  module _ {l c u e : ℕ} (i : IteAt row marks l c u e) where
    abbrev then_number : Numbered row marks i.then_side.start l c u
    then_number = side_numbered marked i.then_side

    abbrev else_number : Numbered row marks i.else_side.start l (negate c) e
    else_number = side_numbered marked i.else_side

    pair_of : Pair row marks then_number.side else_number.side
    pair_of =
        record {
          first = then_number.is-side;
          second = else_number.is-side;
          selects = else_number.select ∙ ap negate (sym then_number.select);
          outputs = else_number.output ∙ sym then_number.output;
          not_inverses = λ z. i.not_inverses (sym else_number.then ∙ z ∙ ap negate then_number.then);
        }

  thens_all : (l c u e : ℕ) → IteAt row marks l c u e → Kernel old u e → JoinedBy new t l u
  thens_all l c u e i k = go (listed_or_unchanged i.then_side) (listed_or_unchanged i.else_side)
    where
      a : Numbered row marks i.then_side.start l c u
      a = side_numbered marked i.then_side

      b : Numbered row marks i.else_side.start l (negate c) e
      b = side_numbered marked i.else_side

      by_list : OnList list (clause_of row a.side) ⊎ OnList list (clause_of row b.side) → JoinedBy new t l u
      by_list o =
          joined_same making a.output a.then
          (known.thens a.side b.side (pair_of i) (past_end list (clause_of row a.side)) (past_end list (clause_of row b.side)) o
          (ap (lead_of old) a.then ∙ k ∙ sym (ap (lead_of old) b.then)))

      go : OnList list i.then_side.start ⊎ (ItesJoined row marks older old (fresh 0) × SideUnchanged older old c u)
          → OnList list i.else_side.start ⊎ (ItesJoined row marks older old (fresh 0) × SideUnchanged older old (negate c) e) → JoinedBy new t l u
      go (inl o) d = by_list (inl (rw a.clause o))
      go (inr h) (inl o) = by_list (inr (rw b.clause o))
      go (inr (j, h)) (inr (_, f)) = joined_before making l u (j.thens l c u e i (kernel_before older old u e h.then f.then k))

  -- Rule 8: entries stand for the sides

  -- two entries that make the ITE of sides k and j: r stands for k, q for j
  record Entries (k j : ℕ) : Type 0 where
    r : ℕ
    q : ℕ
    r_taken : r < table.count
    q_taken : q < table.count
    r_like : get_or table.keys r 0 ≡ like_of row old k
    q_like : get_or table.keys q 0 ≡ like_of row old j
    output : output_at row (get_or table.values r 0) ≡ output_at row k
    half : Pair row marks (get_or table.values r 0) j
    both : Pair row marks (get_or table.values r 0) (get_or table.values q 0)

  entries-of : {k j : ℕ} → Pair row marks k j → Entries k j
  entries-of {k} {j} p =
      record {
        r = a.entry;
        q = b.entry;
        r_taken = a.taken;
        q_taken = b.taken;
        r_like = a.like;
        q_like = b.like;
        output = a.output;
        half = half;
        both =
            record {
              first = half.first;
              second = (slots.are b.entry b.taken).is-side;
              selects = b.select ∙ half.selects;
              outputs = b.output ∙ half.outputs;
              not_inverses = b.apart;
            };
      }
    where
      a : EntryOff row old table k (negate (then_at row j))
      a = known.stood k p.first (past_end list (clause_of row k)) (negate (then_at row j)) (negated (then_at row j) (then_at row k) p.not_inverses)

      half : Pair row marks (get_or table.values a.entry 0) j
      half =
          record {
            first = (slots.are a.entry a.taken).is-side;
            second = p.second;
            selects = p.selects ∙ ap negate (sym a.select);
            outputs = p.outputs ∙ sym a.output;
            not_inverses = negated (then_at row (get_or table.values a.entry 0)) (then_at row j) a.apart;
          }

      b : EntryOff row old table j (negate (then_at row (get_or table.values a.entry 0)))
      b = known.stood j p.second (past_end list (clause_of row j)) (negate (then_at row (get_or table.values a.entry 0))) half.not_inverses

  module _ {k j m n : ℕ} (p : Pair row marks k j) (p' : Pair row marks m n) (ck : Kernel old (select_at row k) (select_at row m)) (tk : Kernel old (then_at row k) (then_at row m))
      (ek : Kernel old (then_at row j) (then_at row n)) where
    outputs_joined : JoinedBy new t (output_at row k) (output_at row m)
    outputs_joined = go (dec_lt a.r from) (dec_lt b.r from) (dec_lt a.q from) (dec_lt b.q from)
      where
        a : Entries k j
        a = entries-of p

        b : Entries m n
        b = entries-of p'

        r_same : get_or table.keys b.r 0 ≡ get_or table.keys a.r 0
        r_same = b.r_like ∙ rw (← ck, ← tk) (sym a.r_like)

        elses : Kernel old (select_at row j) (select_at row n)
        elses = rw (p.selects, p'.selects, lead_negate old (select_at row k), lead_negate old (select_at row m)) (ap negate ck)

        q_same : get_or table.keys b.q 0 ≡ get_or table.keys a.q 0
        q_same = b.q_like ∙ rw (← elses, ← ek) (sym a.q_like)

        thens : Kernel old (then_at row (get_or table.values a.r 0)) (then_at row (get_or table.values b.r 0))
        thens = (slots_alike (slots.are a.r a.r_taken) (slots.are b.r b.r_taken) (sym r_same)).thens

        by_first : (n : ℕ) → from ≤ n → n < table.count → get_or table.keys a.r 0 ≡ get_or table.keys n 0 → JoinedBy new t (output_at row k) (output_at row m)
        by_first n h l e =
            joined_same making a.output b.output
            (joined n h l a.r b.r _ _ a.r_taken b.r_taken e (r_same ∙ e) a.half b.half ek)

        by_second : (n : ℕ) → from ≤ n → n < table.count → get_or table.keys a.q 0 ≡ get_or table.keys n 0 → JoinedBy new t (output_at row k) (output_at row m)
        by_second n h l e =
            joined_same making (a.both.outputs ∙ a.output) (b.both.outputs ∙ b.output)
            (joined n h l a.q b.q _ _ a.q_taken b.q_taken e (q_same ∙ e) (pair_back a.both) (pair_back b.both) thens)

        all_old : SidesBefore row marks older old list from table → a.r < from → b.r < from → a.q < from → b.q < from → JoinedBy new t (output_at row k) (output_at row m)
        all_old (SidesBefore.first h z) x y v w = absurd (omega arith)
        all_old (SidesBefore.later h i s) x y v w =
            let f = slots_alike (s a.r x) (s b.r y) (sym r_same) in
            let g = slots_alike (s a.q v) (s b.q w) (sym q_same) in
            joined_same making a.output b.output
            (joined_before making _ _ (i.outputs _ _ _ _ _ _ _ _ (pair-at a.both) (pair-at b.both) f.selects f.thens g.thens))

        go : Dec (a.r < from) → Dec (b.r < from) → Dec (a.q < from) → Dec (b.q < from) → JoinedBy new t (output_at row k) (output_at row m)
        go (no h) y v w = by_first a.r (omega arith) a.r_taken refl
        go (yes x) (no h) v w = by_first b.r (omega arith) b.r_taken (sym r_same)
        go (yes x) (yes y) (no h) w = by_second a.q (omega arith) a.q_taken refl
        go (yes x) (yes y) (yes v) (no h) = by_second b.q (omega arith) b.q_taken (sym q_same)
        go (yes x) (yes y) (yes v) (yes w) = all_old before x y v w

  outputs_all : (l c u e m d v f : ℕ) → IteAt row marks l c u e → IteAt row marks m d v f → Kernel old c d → Kernel old u v → Kernel old e f → JoinedBy new t l m
  outputs_all l c u e m d v f i h cd uv ef =
      let a = side_numbered marked i.then_side in
      let b = side_numbered marked h.then_side in
      joined_same making a.output b.output
      (outputs_joined (pair_of i) (pair_of h)
      (ap (lead_of old) a.select ∙ cd ∙ sym (ap (lead_of old) b.select))
      (ap (lead_of old) a.then ∙ uv ∙ sym (ap (lead_of old) b.then))
      (ap (lead_of old) (side_numbered marked i.else_side).then ∙ ef ∙ sym (ap (lead_of old) (side_numbered marked h.else_side).then)))

  pub ites_all_joined : ItesJoined row marks old new t
  ites_all_joined = record { selects = selects_all; thens = thens_all; outputs = outputs_all }
