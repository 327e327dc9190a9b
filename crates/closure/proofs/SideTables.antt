-- Laws of the table of sides that is kept: looking entries up, entering a side, and what the next round finds.
-- Assumes nothing.
use mathlib.Core.Path.{◌≡◌, sym, ◌∙◌, ap, ap₂, subst⁻¹}
use mathlib.Core.Logic.{◌≢◌, ◌⊎◌, inl, inr, ⊎_elim}
use mathlib.Core.List.{List, []}
use Rattle.std.specs.Prelude.{Some, None}
use Prim.Native.Nat.{ℕ, ◌+◌, ◌-◌, ◌≤◌, ◌<◌}
use native.Mathlib.Omega.{arith}
use native.Mathlib.Decide.{ℕ_discrete, dec_lt}
use lib.ListN.{length, get_or, set}
use Rattle.clauses.specs.Chains.{ChainedIn, Chained}
use Rattle.clauses.proofs.Chains.{Walk, walk_next, walk_falls, chain_moved, chain_linked}
use Rattle.rules.specs.Answer.{lead_of}
use Rattle.closure.specs.Xors.{LeadRow}
use Rattle.closure.specs.Entered.{Entered}
use Rattle.closure.specs.Marked.{Marked}
use Rattle.closure.specs.Changes.{ChangedIn, ReadAt}
use Rattle.closure.specs.Worklist.{OnList, Past, Changed, HoldsChanged, Grown}
use Rattle.closure.specs.IteSides.{select_at, output_at, then_at, IsSide, clause_of, pair_key}
use Rattle.closure.specs.SideTable.{like_of, mate_bucket, mate_of, SideSlot, SideTable, IsEntry, LastEntry, MatesFrom, EntryOff, StoodFor, SidesKnown}
use Rattle.closure.specs.declared.table.KeyTable.{KeyTable}
use Rattle.closure.specs.declared.side_table.KeptSides.{KeptSides}
use Rattle.closure.specs.declared.tally.Tally.{Tally}
use Rattle.closure.proofs.Worklists.{past_end, past_off}
use Rattle.closure.proofs.UnchangedClauses.{SideUnchanged, side_unchanged_or_changed}
use Rattle.closure.proofs.Sides.{side_at}

-- Looking up

module _ {S B : ℕ} (row : List ℕ) (table : KeyTable S B) (c l like i : ℕ) where
  pub entry_bucket : (m : ℕ) → IsEntry row table c l like i → mate_of row m table i ≡ mate_bucket m c l like
  unfolding mate_of
  entry_bucket m d = rw (d.key, d.select, d.output)

-- the numbers below a bound are linked as all are
chain_part : {In : ℕ → ℕ → Type 0} {count bound : ℕ} {heads next : List ℕ} → bound ≤ count → ChainedIn In count heads next → ChainedIn In bound [] next
chain_part h c = record { head = λ b l. absurd (omega arith); link = λ i b l d. c.link i b (omega arith) d }

-- along the chain of the entries below `bound` only others have been met
abbrev pub LookedTo : {S B : ℕ} → List ℕ → KeptSides S B → ℕ → ℕ → ℕ → ℕ → ℕ → Type 0
LookedTo {S} {B} row sides c l like bound = Walk (mate_of row B sides.table) bound (mate_bucket B c l like) (λ i. ¬ IsEntry row sides.table c l like i)

module _ {S B : ℕ} {row : List ℕ} {sides : KeptSides S B} {c l like bound from : ℕ} (m : MatesFrom row sides c l like bound from) where
  module _ {k : ℕ} (w : LookedTo row sides c l like bound k) (p : 0 < k) where
    pub looking_low : k ≤ sides.table.count
    looking_low = omega (arith, w.low, m.few)

    pub looking_on : ¬ IsEntry row sides.table c l like (k - 1) → LookedTo row sides c l like bound (get_or sides.mate_next (k - 1) 0)
    looking_on n = walk_next _ bound _ [] sides.mate_next (chain_part m.few m.mates) w p n

    pub looking_falls : get_or sides.mate_next (k - 1) 0 < k
    looking_falls = walk_falls _ bound _ [] sides.mate_next (chain_part m.few m.mates) w p

    pub looking_hit : IsEntry row sides.table c l like (k - 1) → LastEntry row sides.table c l like bound (Some (k - 1))
    looking_hit e = (omega (arith, w.low), e, λ i h d. none i h d (dec_lt i k))
      where
        none : (i : ℕ) → i < bound → IsEntry row sides.table c l like i → Dec (i < k) → i ≤ k - 1
        none i h d (yes u) = omega arith
        none i h d (no u) = absurd (w.seen i h (omega arith) (entry_bucket row sides.table c l like i B d) d)

  pub looking_miss : {k : ℕ} → LookedTo row sides c l like bound k → k ≤ 0 → LastEntry row sides.table c l like bound None
  looking_miss w p i h d = w.seen i h (omega arith) (entry_bucket row sides.table c l like i B d) d

-- Entries that stand for a side

module _ {S B : ℕ} {row marks old : List ℕ} {sides : KeptSides S B} (t : SideTable row marks old sides) (c l like : ℕ) where
  -- the chain of a bucket
  pub table_mates : {b : ℕ} → b ≡ mate_bucket B c l like → b < length sides.mate_heads → MatesFrom row sides c l like sides.table.count (get_or sides.mate_heads b 0)
  table_mates {b} e h =
      record {
        few = omega arith;
        threes = λ i k. (t.are i k).is-side.in-three;
        mates = t.mates;
        last = rw (← e) (t.mates.head b h);
      }

  -- .. behind an entry
  pub mates_after : {k : ℕ} → k < sides.table.count → IsEntry row sides.table c l like k → MatesFrom row sides c l like k (get_or sides.mate_next k 0)
  mates_after {k} h e =
      record {
        few = omega arith;
        threes = λ i g. (t.are i g).is-side.in-three;
        mates = t.mates;
        last = t.mates.link k _ h (entry_bucket row sides.table c l like k B e);
      }

module _ {S B : ℕ} {row : List ℕ} {table : KeyTable S B} {c l like s : ℕ} (p : c ≡ select_at row s) (q : l ≡ output_at row s) {old : List ℕ} (e : like ≡ like_of row old s) where
  off : {m i : ℕ} → i < table.count → IsEntry row table c l like i → then_at row (get_or table.values i 0) ≢ m → EntryOff row old table s m
  off {i = i} h d n = record { entry = i; taken = h; select = d.select ∙ p; output = d.output ∙ q; like = d.key ∙ e; apart = n }

  module _ {k t : ℕ} (h : k < table.count) (o : IsEntry row table c l like k) (then : t ≡ then_at row (get_or table.values k 0)) where
    pub two_stand : {j v : ℕ} → j < k → IsEntry row table c l like j → v ≡ then_at row (get_or table.values j 0) → v ≢ t → StoodFor row old table s
    two_stand {j} {v} g w d u m n = go (ℕ_discrete t m)
      where
        go : Dec (t ≡ m) → EntryOff row old table s m
        go (yes z) = off (omega arith) w (λ y. u (d ∙ y ∙ sym z))
        go (no z) = off h o (λ y. z (then ∙ y))

-- Entering

-- side s has got the next entry
module _ {S B : ℕ} {table table' : KeyTable S B} {s c u l like : ℕ} (e : Entered like s table table') (row old : List ℕ) (lead : LeadRow old) (ec : c ≡ select_at row s) (eu : u ≡ then_at row s)
    (el : l ≡ output_at row s) (ek : like ≡ pair_key (lead_of old c) (lead_of old u)) where
  mate_kept : (m i : ℕ) → i < table.count → mate_of row m table i ≡ mate_of row m table' i
  unfolding mate_of
  mate_kept m i h = rw (e.keeps.value i h, e.keeps.key i h)

  mate_new : (m : ℕ) → mate_of row m table' table.count ≡ mate_bucket m c l like
  unfolding mate_of
  mate_new m = rw (e.value_is, e.key_is, ec, el)

  -- .. and the next place in its chain
  pub mates_entered : {heads next heads' next' : List ℕ} {b : ℕ} → Chained (mate_of row B table) table.count heads next → b ≡ mate_bucket B c l like → b < length heads → table.count < length next
      → heads' ≡ set heads b (table.count + 1) → next' ≡ set next table.count (get_or heads b 0) → Chained (mate_of row B table') table'.count heads' next'
  mates_entered {heads} {next} {heads'} {next'} {b} mates eb low room p q =
      subst⁻¹ (λ (n : ℕ). Chained (mate_of row B table') n heads' next') e.count
      (chain_linked _ table.count heads next
      (chain_moved (λ j x h d. sym (mate_kept B j h) ∙ d) (λ j x h d. mate_kept B j h ∙ d) mates) b
      (mate_new B ∙ sym eb) (λ x d. sym d ∙ mate_new B ∙ sym eb) low room heads' next' p q)

  slot_new : {marks : List ℕ} → IsSide row marks s → c < 4294967296 → u < 4294967296 → SideSlot row marks old like s
  slot_new i hc hu =
      record {
        is-side = i;
        select = lead_of old c;
        then = lead_of old u;
        like_is = ek;
        select_is = ap (lead_of old) (sym ec) ∙ sym (lead.again c);
        then_is = ap (lead_of old) (sym eu) ∙ sym (lead.again u);
        select_low = omega (arith, lead.low c);
        then_low = omega (arith, lead.low u);
      }

  pub slots_entered : {marks : List ℕ} → ((i : ℕ) → i < table.count → SideSlot row marks old (get_or table.keys i 0) (get_or table.values i 0)) → IsSide row marks s → c < 4294967296 → u < 4294967296
      → (j : ℕ) → j < table'.count → SideSlot row marks old (get_or table'.keys j 0) (get_or table'.values j 0)
  slots_entered {marks} are i hc hu j h = go (ℕ_discrete j table.count)
    where
      go : Dec (j ≡ table.count) → SideSlot row marks old (get_or table'.keys j 0) (get_or table'.values j 0)
      go (yes d) = rw (d, e.value_is, e.key_is) (slot_new i hc hu)
      go (no n) = let g : j < table.count = omega (arith, e.count) in rw (e.keeps.value j g, e.keeps.key j g) (are j g)

-- The next round

pub side_table_grown : {S B : ℕ} {row marks older old : List ℕ} {sides : KeptSides S B} → Grown older old → SideTable row marks older sides → SideTable row marks old sides
side_table_grown {row = row} {marks} {older} {old} g t = record { some = t.some; mates = t.mates; are = λ i h. grown (t.are i h) }
  where
    grown : {like s : ℕ} → SideSlot row marks older like s → SideSlot row marks old like s
    grown o =
        record {
          is-side = o.is-side;
          select = o.select;
          then = o.then;
          like_is = o.like_is;
          select_is = g _ _ o.select_is;
          then_is = g _ _ o.then_is;
          select_low = o.select_low;
          then_low = o.then_low;
        }

-- the key of a side is the one that it had before
stood_still : {S B : ℕ} {row older old : List ℕ} {table : KeyTable S B} {s : ℕ} → SideUnchanged older old (select_at row s) (then_at row s) → StoodFor row older table s
    → StoodFor row old table s
stood_still {row = row} {older} {old} {s = s} u h m n =
    let o = h m n in
    record { entry = o.entry; taken = o.taken; select = o.select; output = o.output; like = o.like ∙ ap₂ pair_key u.select u.then; apart = o.apart }

module _ {row marks old new : List ℕ} {t : Tally} {list : List ℕ} where
  -- before the pass no side of a listed clause is taken
  pub sides_known_first : {S B : ℕ} {table : KeyTable S B} → ((s : ℕ) → IsSide row marks s → Past list 0 (clause_of row s) → StoodFor row old table s)
      → SidesKnown row marks old new t list 0 table
  sides_known_first h =
      record {
        stood = h;
        selects = λ s d p o. absurd (past_off p o);
        thens = λ k j d p q o. absurd (⊎_elim (past_off p) (past_off q) o);
      }

  pub sides_known_later : {cs : List (List ℕ)} {older before : List ℕ} {t₀ : Tally} {list₀ : List ℕ} {S B : ℕ} {table : KeyTable S B} → Marked cs row marks
      → HoldsChanged row marks older old list → SidesKnown row marks older before t₀ list₀ (length list₀) table
      → SidesKnown row marks old new t list 0 table
  sides_known_later {older = older} {list₀ = list₀} {table = table} m changed k = sides_known_first stood
    where
      stood : (s : ℕ) → IsSide row marks s → Past list 0 (clause_of row s) → StoodFor row old table s
      stood s d p = listed (changed (clause_of row s) d.in-three.at.start)
        where
          read : ¬ Changed row marks older old (clause_of row s) → SideUnchanged older old (select_at row s) (then_at row s) ⊎ ChangedIn (ReadAt row marks) row older old (clause_of row s)
              → StoodFor row old table s
          read n (inl u) = stood_still u (k.stood s d (past_end list₀ (clause_of row s)))
          read n (inr c) = absurd (n (Changed.side c))

          listed : OnList list (clause_of row s) ⊎ (¬ Changed row marks older old (clause_of row s)) → StoodFor row old table s
          listed (inl o) = absurd (past_off p o)
          listed (inr n) = read n (side_unchanged_or_changed older old m (side_at d))
