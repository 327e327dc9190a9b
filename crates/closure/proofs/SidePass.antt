-- A pass over the sides of listed clauses: each side is taken, and then rule 7 has joined what it draws from them.
-- Assumes nothing.
use mathlib.Core.Path.{◌≡◌, refl, sym, ◌∙◌, ap, ap₂, subst, subst⁻¹}
use mathlib.Core.Logic.{◌≢◌, ◌⊎◌, inl, inr}
use mathlib.Core.List.{List}
use Prim.Native.Nat.{ℕ, ◌+◌, ◌*◌, ◌/◌, ◌≤◌, ◌<◌}
use native.Mathlib.Omega.{arith}
use native.Mathlib.Decide.{ℕ_discrete}
use lib.ListN.{length, get_or}
use Rattle.clauses.specs.Code.{negate}
use Rattle.clauses.proofs.Codes.{negate_other}
use Rattle.clauses.specs.Row.{clause_at}
use Rattle.rules.specs.Answer.{lead_of}
use Rattle.closure.specs.Making.{Kernel, Making, JoinedBy, Later}
use Rattle.closure.specs.Marked.{Ready, Went}
use Rattle.closure.specs.Entered.{Keeps}
use Rattle.closure.specs.Worklist.{OnList, Past}
use Rattle.closure.specs.IteSides.{select_at, output_at, then_at, IsSide, clause_of, Pair, pair_key}
use Rattle.closure.specs.SideTable.{SideTable, SideJoined, StoodFor, SidesKnown}
use Rattle.closure.specs.declared.table.KeyTable.{KeyTable}
use Rattle.closure.specs.declared.side_table.KeptSides.{KeptSides}
use Rattle.closure.specs.declared.tally.Tally.{Tally}
use Rattle.closure.proofs.JoinedBy.{joined_old, joined_chain, joined_same}
use Rattle.closure.proofs.Going.{went_none, went_then, went_making}
use Rattle.closure.proofs.Worklists.{past_or_here}
use Rattle.closure.proofs.Tables.{keeps_none, keeps_then}
use Rattle.closure.proofs.Sides.{pair_back}

-- Extending the table

pub stood_keeps : {S B : ℕ} {row old : List ℕ} {table table' : KeyTable S B} {s : ℕ} → Keeps table table' → StoodFor row old table s → StoodFor row old table' s
stood_keeps {row = row} x h m n =
    let o = h m n in
    record {
      entry = o.entry;
      taken = omega (arith, o.taken, x.more);
      select = ap (select_at row) (x.value o.entry o.taken) ∙ o.select;
      output = ap (output_at row) (x.value o.entry o.taken) ∙ o.output;
      like = x.key o.entry o.taken ∙ o.like;
      apart = λ z. o.apart (sym (ap (then_at row) (x.value o.entry o.taken)) ∙ z);
    }

-- ITEs

pair_apart : {row marks : List ℕ} {k j : ℕ} → Pair row marks k j → k ≢ j
pair_apart {row} {k = k} p e = negate_other (select_at row k) (sym p.selects ∙ ap (select_at row) (sym e))

-- the second side of an ITE is stood for, and the first one is taken
mate_met : {S B : ℕ} {row marks old new : List ℕ} {t : Tally} {table : KeyTable S B} {k j : ℕ} → Pair row marks k j → StoodFor row old table j
    → SideJoined row old new t table k → Kernel old (then_at row k) (then_at row j) → JoinedBy new t (output_at row k) (then_at row k)
mate_met {row = row} {old = old} {k = k} p h d e =
    let o = h (negate (then_at row k)) p.not_inverses in
    d.mates o.entry o.taken
    (record {
      key = o.like ∙ ap₂ pair_key (ap (lead_of old) p.selects) (sym e);
      select = o.select ∙ p.selects;
      output = o.output ∙ p.outputs;
    })

-- The sides of one clause

-- the pass over the list was done with side x at its entry i, or x is taken since: from number `low` on and below `at`
abbrev pub Taken : List ℕ → List ℕ → ℕ → ℕ → ℕ → ℕ → Type 0
Taken row list i low at x = Past list i (clause_of row x) ⊎ ((low ≤ x) × (x < at))

pub record SidesTo {S B : ℕ} (row marks old new : List ℕ) (t : Tally) (list : List ℕ) (i low at : ℕ) (table : KeyTable S B) : Type 0 where
  pub stood : (s : ℕ) → IsSide row marks s → Taken row list i low at s → StoodFor row old table s
  pub selects : (s : ℕ) → IsSide row marks s → Taken row list i low at s → OnList list (clause_of row s) → Kernel old (select_at row s) 1
      → JoinedBy new t (output_at row s) (then_at row s)
  pub thens : (k j : ℕ) → Pair row marks k j → Taken row list i low at k → Taken row list i low at j → OnList list (clause_of row k) ⊎ OnList list (clause_of row j)
      → Kernel old (then_at row k) (then_at row j) → JoinedBy new t (output_at row k) (then_at row k)

last_or_before : (row list : List ℕ) (i low at x : ℕ) → Taken row list i low (at + 1) x → (x ≡ at) ⊎ Taken row list i low at x
last_or_before row list i low at x (inl p) = inr (inl p)
last_or_before row list i low at x (inr h) = go (ℕ_discrete x at)
  where
    go : Dec (x ≡ at) → (x ≡ at) ⊎ Taken row list i low at x
    go (yes e) = inl e
    go (no n) = inr (inr (h.0, omega (arith, h.1)))

module _ {S B : ℕ} {row marks old new : List ℕ} {t : Tally} {list : List ℕ} {i : ℕ} {table : KeyTable S B} where
  to_begins : (low : ℕ) → SidesKnown row marks old new t list i table → SidesTo row marks old new t list i low low table
  to_begins low k =
      record {
        stood = λ s d h. k.stood s d (before s h);
        selects = λ s d h. k.selects s d (before s h);
        thens = λ x y p h g. k.thens x y p (before x h) (before y g);
      }
    where
      before : (x : ℕ) → Taken row list i low low x → Past list i (clause_of row x)
      before x (inl p) = p
      before x (inr h) = absurd (omega (arith, h.0, h.1))

  module _ {low at : ℕ} where
    -- the sides of entry i are all taken
    to_ends : SidesTo row marks old new t list i low at table
        → ((x : ℕ) → IsSide row marks x → get_or list i 0 ≡ clause_of row x → (low ≤ x) × (x < at)) → SidesKnown row marks old new t list (i + 1) table
    to_ends k here =
        record {
          stood = λ s d h. k.stood s d (taken s d h);
          selects = λ s d h. k.selects s d (taken s d h);
          thens = λ x y p h g. k.thens x y p (taken x p.first h) (taken y p.second g);
        }
      where
        taken : (x : ℕ) → IsSide row marks x → Past list (i + 1) (clause_of row x) → Taken row list i low at x
        taken x d h = go (past_or_here list i (clause_of row x) h)
          where
            go : (get_or list i 0 ≡ clause_of row x) ⊎ Past list i (clause_of row x) → Taken row list i low at x
            go (inl e) = inr (here x d e)
            go (inr p) = inl p

    -- one number more, which is no side
    to_passed : ¬ IsSide row marks at → SidesTo row marks old new t list i low at table → SidesTo row marks old new t list i low (at + 1) table
    to_passed none k =
        record {
          stood = λ s d h. k.stood s d (before s d h);
          selects = λ s d h. k.selects s d (before s d h);
          thens = λ x y p h g. k.thens x y p (before x p.first h) (before y p.second g);
        }
      where
        before : (x : ℕ) → IsSide row marks x → Taken row list i low (at + 1) x → Taken row list i low at x
        before x d h = go (last_or_before row list i low at x h)
          where
            go : (x ≡ at) ⊎ Taken row list i low at x → Taken row list i low at x
            go (inl e) = absurd (none (subst (IsSide row marks) e d))
            go (inr g) = g

    -- .. which is a side, and taken
    to_taken : {cs : List (List ℕ)} {new' : List ℕ} {t' : Tally} {table' : KeyTable S B} → SidesTo row marks old new t list i low at table
        → Making cs old new' t' → Later new t new' t' → Keeps table table' → StoodFor row old table' at
        → SideJoined row old new' t' table' at → SidesTo row marks old new' t' list i low (at + 1) table'
    to_taken {new' = new'} {t' = t'} {table' = table'} k making later more here joined =
        record {
          stood = λ s d h. stood s d (last_or_before row list i low at s h);
          selects = λ s d h o e. selects s d (last_or_before row list i low at s h) o e;
          thens = λ x y p h g o e. thens x y p (last_or_before row list i low at x h) (last_or_before row list i low at y g) o e;
        }
      where
        stood : (s : ℕ) → IsSide row marks s → (s ≡ at) ⊎ Taken row list i low at s → StoodFor row old table' s
        stood s d (inl e) = subst⁻¹ (StoodFor row old table') e here
        stood s d (inr h) = stood_keeps more (k.stood s d h)

        at_joined : {s : ℕ} → s ≡ at → SideJoined row old new' t' table' s
        at_joined e = subst⁻¹ (SideJoined row old new' t' table') e joined

        selects : (s : ℕ) → IsSide row marks s → (s ≡ at) ⊎ Taken row list i low at s → OnList list (clause_of row s) → Kernel old (select_at row s) 1
            → JoinedBy new' t' (output_at row s) (then_at row s)
        selects s d (inl e) o g = (at_joined e).selects g
        selects s d (inr h) o g = later _ _ (k.selects s d h o g)

        thens : (x y : ℕ) → Pair row marks x y → (x ≡ at) ⊎ Taken row list i low at x → (y ≡ at) ⊎ Taken row list i low at y
            → OnList list (clause_of row x) ⊎ OnList list (clause_of row y) → Kernel old (then_at row x) (then_at row y) → JoinedBy new' t' (output_at row x) (then_at row x)
        thens x y p (inl e) (inl f) o g = absurd (pair_apart p (e ∙ sym f))
        thens x y p (inl e) (inr h) o g = mate_met p (stood_keeps more (k.stood y p.second h)) (at_joined e) g
        thens x y p (inr h) (inl f) o g =
            joined_chain making (output_at row x) (then_at row y) (then_at row x)
            (joined_same making p.outputs refl (mate_met (pair_back p) (stood_keeps more (k.stood x p.first h)) (at_joined f) (sym g)))
            (joined_old making (then_at row y) (then_at row x) (sym g))
        thens x y p (inr h) (inr f) o g = later _ _ (k.thens x y p h f o g)

-- Loops

-- the sides of the clause that starts at b are being taken, and number `at` is reached
pub record ClauseTo {S B : ℕ} (row marks old : List ℕ) (b : ℕ) (sides : KeptSides S B) (new : List ℕ) (t : Tally) (at : ℕ) (sides' : KeptSides S B) (new' : List ℕ) (t' : Tally) : Type 0 where
  pub went : Went row marks old new t new' t'
  pub table : SideTable row marks old sides'
  pub known : (list : List ℕ) (i : ℕ) → SidesKnown row marks old new t list i sides.table → SidesTo row marks old new' t' list i (2 * b) at sides'.table
  pub stays : Keeps sides.table sides'.table
  pub few : sides'.table.count + 2 * b ≤ sides.table.count + at

pub clause_begins : {S B : ℕ} {row marks old new : List ℕ} {t : Tally} (b : ℕ) {sides : KeptSides S B} → SideTable row marks old sides → ClauseTo row marks old b sides new t (2 * b) sides new t
clause_begins b t = record { went = went_none; table = t; known = λ list i k. to_begins (2 * b) k; stays = keeps_none _; few = omega arith }

module _ {S B : ℕ} {row marks old new : List ℕ} {t : Tally} {b : ℕ} {sides : KeptSides S B} {at : ℕ} {sides' : KeptSides S B} {new' : List ℕ} {t' : Tally}
    (c : ClauseTo row marks old b sides new t at sides' new' t') where
  pub clause_passed : ¬ IsSide row marks at → ClauseTo row marks old b sides new t (at + 1) sides' new' t'
  clause_passed n = record { went = c.went; table = c.table; known = λ list i k. to_passed n (c.known list i k); stays = c.stays; few = omega (arith, c.few) }

  pub clause_taken : Ready row marks old new t → {sides'' : KeptSides S B} {new'' : List ℕ} {t'' : Tally} → Went row marks old new' t' new'' t'' → SideTable row marks old sides''
      → SideJoined row old new'' t'' sides''.table at → StoodFor row old sides''.table at → Keeps sides'.table sides''.table → sides''.table.count ≤ sides'.table.count + 1
      → ClauseTo row marks old b sides new t (at + 1) sides'' new'' t''
  clause_taken r w t j s x f =
      record {
        went = went_then c.went w;
        table = t;
        known = λ list i d. to_taken (c.known list i d) (went_making r (went_then c.went w)) w.later x s j;
        stays = keeps_then c.stays x;
        few = omega (arith, c.few);
      }

-- the sides of a clause of three are numbers from its start on
side_in : {row marks : List ℕ} {b n x : ℕ} → n ≡ length (clause_at row b) → IsSide row marks x → b ≡ clause_of row x → (n ≡ 3) × ((2 * b ≤ x) × (x < 2 * (b + n)))
side_in {row} {b = b} {n = n} {x = x} e d f = go (clause_of row x) (sym f) d.in-three.three d.in-three.at.low d.in-three.at.high
  where
    go : (a : ℕ) → a ≡ b → length (clause_at row a) ≡ 3 → a ≤ x / 2 → x / 2 < a + length (clause_at row a) → (n ≡ 3) × ((2 * b ≤ x) × (x < 2 * (b + n)))
    go a g u v w = let z : length (clause_at row b) ≡ 3 = rw g at u in (e ∙ z, (omega arith, omega arith))

-- a clause without sides
pub clause_skipped : {S B : ℕ} {row marks old new : List ℕ} {t : Tally} {list : List ℕ} {i : ℕ} {table : KeyTable S B} {b : ℕ} → length (clause_at row b) ≢ 3 → get_or list i 0 ≡ b
    → SidesKnown row marks old new t list i table → SidesKnown row marks old new t list (i + 1) table
clause_skipped {b = b} n e k = to_ends (to_begins 0 k) (λ x d f. absurd (n (side_in {b = b} refl d (sym e ∙ f)).0))

-- all of its sides have been taken
pub clause_known : {S B : ℕ} {row marks old new : List ℕ} {t : Tally} {b : ℕ} {sides : KeptSides S B} {at : ℕ} {sides' : KeptSides S B} {new' : List ℕ} {t' : Tally}
    → ClauseTo row marks old b sides new t at sides' new' t' → {end : ℕ} → end ≡ b + length (clause_at row b) → 2 * end ≤ at → (list : List ℕ) (i : ℕ) → get_or list i 0 ≡ b
    → SidesKnown row marks old new t list i sides.table → SidesKnown row marks old new' t' list (i + 1) sides'.table
clause_known {row = row} {b = b} {at = at} c {end} e h list i f k = to_ends (c.known list i k) (λ x d g. inside x (side_in {b = b} refl d (sym f ∙ g)))
  where
    inside : (x : ℕ) → (length (clause_at row b) ≡ 3) × ((2 * b ≤ x) × (x < 2 * (b + length (clause_at row b)))) → (2 * b ≤ x) × (x < at)
    inside x (z, (u, v)) = (u, omega arith)
