-- Rule 4 with the table of ANDs that is kept: a search along the slots with one key, one AND after the other, and one clause after the other.
-- Assumes nothing.
use mathlib.Core.Path.{◌≡◌, sym, ◌∙◌, ap, subst, subst⁻¹}
use mathlib.Core.Logic.{◌⊎◌, inl, inr}
use mathlib.Core.Bool.{Bool, true, false, false≢true}
use mathlib.Core.List.{List}
use Rattle.std.specs.Prelude.{Option, Some, None}
use Prim.Native.Nat.{ℕ, ◌+◌, ◌%◌, ◌≤◌, ◌<◌}
use native.Mathlib.Omega.{arith}
use native.Mathlib.Decide.{ℕ_discrete}
use lib.ListN.{length, get_or}
use Rattle.clauses.specs.Row.{clause_at, Starts}
use Rattle.clauses.specs.Row.{start_of}
use Rattle.rules.specs.Answer.{lead_of}
use Rattle.closure.specs.Making.{JoinedBy, Later}
use Rattle.closure.specs.Joining.{join_state}
use Rattle.closure.specs.Marked.{Marked, Ready, Went}
use Rattle.closure.specs.Matching.{AndAt, Alike, spread_of}
use Rattle.closure.specs.Table.{LastSlot}
use Rattle.closure.specs.Entered.{Entered, Keeps}
use Rattle.closure.specs.Worklist.{OnList, Past}
use Rattle.closure.specs.KeptAnds.{KeyOf, AndTable, Represented, Met, Searched, AndsKnown}
use Rattle.closure.specs.declared.table.KeyTable.{KeyTable}
use Rattle.closure.specs.declared.tally.Tally.{Tally}
use Rattle.closure.proofs.Tables.{KeyWalk, walk_begins, walk_inside, walk_next, walk_ends, walk_map}
use Rattle.closure.proofs.JoinedBy.{joined_sym, joined_trans}
use Rattle.closure.proofs.Signatures.{sum_same, sum_below}
use Rattle.closure.proofs.Going.{went_none, went_then, ready_on, ready_net, join_went}
use Rattle.closure.proofs.AndOutputs.{is-and}
use Rattle.closure.proofs.AndPairs.{and-at, alike_back, alike_chain, alike_same, alike_drawn}
use Rattle.closure.proofs.Worklists.{past_or_here}

-- Keys

module _ {row old : List ℕ} {p q : ℕ} where
  -- equal sets have one key
  pub key_move : {key : ℕ} → Alike row old p q → KeyOf row old p key → KeyOf row old q key
  key_move a k = record { signature = k.signature; signed = sum_below (λ x l. a.left x) (λ x l. a.right x) k.signed; is = k.is }

pub key_once : {row old : List ℕ} {p a b : ℕ} → KeyOf row old p a → KeyOf row old p b → a ≡ b
key_once a b = a.is ∙ ap spread_of (sum_same (λ x k. k) (λ x k. k) a.signed b.signed) ∙ sym b.is

-- A search

-- the output of the AND in slot i
abbrev output_in : {S B : ℕ} → List ℕ → KeyTable S B → ℕ → ℕ
output_in row ands i = get_or row (get_or ands.values i 0) 0

-- the AND in slot i has been met: if it has the set of the AND at p, their outputs are joined
abbrev pub MetIn : {S B : ℕ} → List ℕ → List ℕ → KeyTable S B → ℕ → List ℕ → Tally → ℕ → Type 0
MetIn row old ands p new t i = Alike row old (get_or ands.values i 0) p → JoinedBy new t (output_in row ands i) (get_or row p 0)

-- the search has come to `at`
pub record Walked {S B : ℕ} (row marks old : List ℕ) (ands : KeyTable S B) (key p : ℕ) (new : List ℕ) (t : Tally) (new' : List ℕ) (t' : Tally) (known : Bool) (at : Option ℕ) : Type 0 where
  pub went : Went row marks old new t new' t'
  pub met : KeyWalk ands key (MetIn row old ands p new' t') at
  pub found : known ≡ true → (i : ℕ) × (i < ands.count) × (get_or ands.keys i 0 ≡ key) × Alike row old (get_or ands.values i 0) p

module _ {S B : ℕ} {row marks old : List ℕ} {ands : KeyTable S B} {key p : ℕ} {new : List ℕ} {t : Tally} where
  pub search_begins : (o : Option ℕ) → LastSlot ands.keys key ands.count o → Walked row marks old ands key p new t new t false o
  search_begins o h = record { went = went_none; met = walk_begins ands key _ o h; found = λ e. absurd (false≢true e) }

  module _ {new' : List ℕ} {t' : Tally} {known : Bool} where
    pub search_ends : Walked row marks old ands key p new t new' t' known None → Searched row marks old ands key p new t new' t' known
    search_ends w = record { went = w.went; joined = walk_ends ands key _ w.met; found = w.found }

    module _ {k : ℕ} (w : Walked row marks old ands key p new t new' t' known (Some k)) where
      pub search_inside : k < ands.count
      search_inside = walk_inside ands key _ w.met

      module _ (r : Option ℕ) (o : LastSlot ands.keys (get_or ands.keys k 0) k r) where
        -- the slot has another set
        pub search_skips : ¬ Alike row old (get_or ands.values k 0) p → Walked row marks old ands key p new t new' t' known r
        search_skips n = record { went = w.went; met = walk_next ands key _ w.met r o (λ a. absurd (n a)); found = w.found }

        -- it has the set, and the outputs have been joined
        pub search_joins : Ready row marks old new t → AndTable row marks ands → AndAt row marks p → Alike row old (get_or ands.values k 0) p → (new'' : List ℕ) (t'' : Tally)
            → record { row = new''; tally = t'' } ≡ join_state new' t' (get_or row p 0) (output_in row ands k)
            → Walked row marks old ands key p new t new'' t'' true r
        search_joins ready table here a new'' t'' e =
            let there = table.are k search_inside in
            let g = join_went (ready_on ready w.went) (λ cs m. alike_drawn m old p (get_or ands.values k 0) here there (alike_back a))
            (ready_net ready (start_of row p) p here.placed.at) (ready_net ready (start_of row (get_or ands.values k 0)) (get_or ands.values k 0) there.placed.at) e in
            record {
              went = went_then w.went g.0;
              met = walk_next ands key _ (walk_map (λ i l d h b. g.0.later _ _ (h b)) w.met) r o (λ b. joined_sym new'' t'' _ _ g.1);
              found = λ z. (k, search_inside, w.met.key_is, a);
            }

-- One AND

module _ {S B : ℕ} {row old new : List ℕ} {t : Tally} {ands : KeyTable S B} {key p : ℕ} (is_key : KeyOf row old p key) where
  -- what the search has joined
  pub search_met : {marks new₀ : List ℕ} {t₀ : Tally} {known : Bool} → Searched row marks old ands key p new₀ t₀ new t known → Met row old new t ands p
  search_met s i l k a = s.joined i l (key_once k is_key) a

  -- a slot has been found
  pub search_known : {marks new₀ : List ℕ} {t₀ : Tally} {known : Bool} → Searched row marks old ands key p new₀ t₀ new t known → known ≡ true
      → Represented row old new t ands p
  search_known s e =
      let f = s.found e in
      record { slot = f.0; taken = f.1; key = subst⁻¹ (KeyOf row old p) f.2 is_key; alike = f.3; joined = s.joined f.0 f.1 f.2 f.3 }

-- .. or one has been entered
module _ {S B : ℕ} {ands ands' : KeyTable S B} {key p : ℕ} (e : Entered key p ands ands') where
  pub entered_known : {row old : List ℕ} (new : List ℕ) (t : Tally) → KeyOf row old p key → Represented row old new t ands' p
  entered_known {row} {old} new t k =
      record {
        slot = ands.count;
        taken = omega (arith, e.count);
        key = subst⁻¹ (KeyOf row old p) e.key_is k;
        alike = subst⁻¹ (λ (q : ℕ). Alike row old q p) e.value_is (alike_same row old p);
        joined = inr (ap (λ (q : ℕ). lead_of new (get_or row q 0)) e.value_is);
      }

  pub entered_table : {row marks : List ℕ} → AndTable row marks ands → AndAt row marks p → AndTable row marks ands'
  entered_table {row} {marks} a h = record { are = λ i l. are i (omega (arith, l, e.count)) (ℕ_discrete i ands.count) }
    where
      are : (i : ℕ) → i ≤ ands.count → Dec (i ≡ ands.count) → AndAt row marks (get_or ands'.values i 0)
      are i l (yes d) = subst⁻¹ (AndAt row marks) (ap (λ (j : ℕ). get_or ands'.values j 0) d ∙ e.value_is) h
      are i l (no d) = subst⁻¹ (AndAt row marks) (e.keeps.value i (omega arith)) (a.are i (omega arith))

-- Clauses of the list

-- a marked place of the clause at b
pub and_in : {cs : List (List ℕ)} {row marks : List ℕ} {b e p : ℕ} → Marked cs row marks → Starts row b → b ≤ p → e ≡ b + length (clause_at row b) → p < e → get_or marks p 0 % 2 ≡ 1
    → AndAt row marks p
and_in {marks = marks} {b} {p = p} m s l e h i = and-at m b p (record { start = s; low = l; high = omega (arith, e, h) }) (is-and (get_or marks p 0) i)

-- what was represented still is
pub represented_on : {row old new new' : List ℕ} {t t' : Tally} {S B : ℕ} {ands ands' : KeyTable S B} {p : ℕ} → Later new t new' t'
    → Keeps ands ands' → Represented row old new t ands p → Represented row old new' t' ands' p
represented_on {row} {old} {new' = new'} {t' = t'} {p = p} later x r =
    record {
      slot = r.slot;
      taken = omega (arith, r.taken, x.more);
      key = subst⁻¹ (KeyOf row old p) (x.key r.slot r.taken) r.key;
      alike = subst⁻¹ (λ (q : ℕ). Alike row old q p) (x.value r.slot r.taken) r.alike;
      joined = subst⁻¹ (λ (q : ℕ). JoinedBy new' t' (get_or row q 0) (get_or row p 0)) (x.value r.slot r.taken) (later _ _ r.joined);
    }

-- the pass over the list is done with the clause of place q, or q is below p in the clause at b
abbrev pub DoneTo : List ℕ → List ℕ → ℕ → ℕ → ℕ → ℕ → Type 0
DoneTo row list i b p q = Past list i (start_of row q) ⊎ ((start_of row q ≡ b) × (q < p))

pub record ClauseTo {S B : ℕ} (row marks old new : List ℕ) (t : Tally) (list : List ℕ) (i b p : ℕ) (ands : KeyTable S B) : Type 0 where
  pub represented : (q : ℕ) → AndAt row marks q → DoneTo row list i b p q → Represented row old new t ands q
  pub pairs : (q r : ℕ) → AndAt row marks q → AndAt row marks r → DoneTo row list i b p q → DoneTo row list i b p r → OnList list (start_of row q) → Alike row old q r
      → JoinedBy new t (get_or row q 0) (get_or row r 0)

module _ {S B : ℕ} {row marks old new : List ℕ} {t : Tally} {list : List ℕ} {i : ℕ} {ands : KeyTable S B} where
  pub clause_begins : (b : ℕ) → AndsKnown row marks old new t list i ands → ClauseTo row marks old new t list i b b ands
  clause_begins b k = record { represented = λ q a d. k.represented q a (past q a d); pairs = λ q r a c d e. k.pairs q r a c (past q a d) (past r c e) }
    where
      past : (q : ℕ) → AndAt row marks q → DoneTo row list i b b q → Past list i (start_of row q)
      past q a (inl d) = d
      past q a (inr (e, l)) = absurd (omega (arith, e, l, a.placed.at.low))

  pub clause_ends : (b e : ℕ) → get_or list i 0 ≡ b → e ≡ b + length (clause_at row b) → (p : ℕ) → e ≤ p → ClauseTo row marks old new t list i b p ands
      → AndsKnown row marks old new t list (i + 1) ands
  clause_ends b e is ends p h c =
      record { represented = λ q a d. c.represented q a (done q a (past_or_here list i (start_of row q) d)); pairs = λ q r a k d g. c.pairs q r a k (done q a (past_or_here list i (start_of row q) d)) (done r k (past_or_here list i (start_of row r) g)) }
    where
      done : (q : ℕ) → AndAt row marks q → (get_or list i 0 ≡ start_of row q) ⊎ Past list i (start_of row q) → DoneTo row list i b p q
      done q a (inr d) = inl d
      done q a (inl d) =
          let s : start_of row q ≡ b = sym d ∙ is in
          inr (s, omega (arith, subst (λ (x : ℕ). q < x + length (clause_at row x)) s a.placed.at.high, ends, h))

  module _ {b p : ℕ} (c : ClauseTo row marks old new t list i b p ands) where
    -- no AND at p
    pub clause_skips : ¬ AndAt row marks p → ClauseTo row marks old new t list i b (p + 1) ands
    clause_skips n = record { represented = λ q a d. c.represented q a (past q a d); pairs = λ q r a k d e. c.pairs q r a k (past q a d) (past r k e) }
      where
        past : (q : ℕ) → AndAt row marks q → DoneTo row list i b (p + 1) q → DoneTo row list i b p q
        past q a (inl d) = inl d
        past q a (inr (e, l)) = go (ℕ_discrete q p)
          where
            go : Dec (q ≡ p) → DoneTo row list i b p q
            go (yes d) = absurd (n (subst (AndAt row marks) d a))
            go (no d) = inr (e, omega arith)

    -- the AND at p has been met
    module _ {new' : List ℕ} {t' : Tally} {ands' : KeyTable S B} (later : Later new t new' t') (x : Keeps ands ands')
        (met : Met row old new' t' ands p) (known : Represented row old new' t' ands' p) where
      -- a representative of q is one of p, if their sets are equal
      meets : (q : ℕ) → Represented row old new t ands q → Alike row old p q → JoinedBy new' t' (get_or row p 0) (get_or row q 0)
      meets q r a =
          joined_trans new' t' _ _ _
          (joined_sym new' t' _ _ (met r.slot r.taken (key_move (alike_back a) r.key) (alike_chain r.alike (alike_back a))))
          (later _ _ r.joined)

      pub clause_on : ClauseTo row marks old new' t' list i b (p + 1) ands'
      clause_on =
          record {
            represented = λ q a d. one q a (split q d);
            pairs = λ q r a k d e on same. two q r a k (split q d) (split r e) on same;
          }
        where
          split : (q : ℕ) → DoneTo row list i b (p + 1) q → (q ≡ p) ⊎ DoneTo row list i b p q
          split q (inl d) = inr (inl d)
          split q (inr (e, l)) = go (ℕ_discrete q p)
            where
              go : Dec (q ≡ p) → (q ≡ p) ⊎ DoneTo row list i b p q
              go (yes d) = inl d
              go (no d) = inr (inr (e, omega arith))

          one : (q : ℕ) → AndAt row marks q → (q ≡ p) ⊎ DoneTo row list i b p q → Represented row old new' t' ands' q
          one q a (inl e) = subst⁻¹ (Represented row old new' t' ands') e known
          one q a (inr d) = represented_on later x (c.represented q a d)

          two : (q r : ℕ) → AndAt row marks q → AndAt row marks r → (q ≡ p) ⊎ DoneTo row list i b p q → (r ≡ p) ⊎ DoneTo row list i b p r → OnList list (start_of row q) → Alike row old q r
              → JoinedBy new' t' (get_or row q 0) (get_or row r 0)
          two q r a k (inr d) (inr e) on same = later _ _ (c.pairs q r a k d e on same)
          two q r a k (inl e) (inl f) on same = inr (ap (λ (z : ℕ). lead_of new' (get_or row z 0)) (e ∙ sym f))
          two q r a k (inl e) (inr d) on same =
              subst⁻¹ (λ (z : ℕ). JoinedBy new' t' (get_or row z 0) (get_or row r 0)) e (meets r (c.represented r k d) (subst (λ (z : ℕ). Alike row old z r) e same))
          two q r a k (inr d) (inl e) on same =
              subst⁻¹ (λ (z : ℕ). JoinedBy new' t' (get_or row q 0) (get_or row z 0)) e
              (joined_sym new' t' _ _ (meets q (c.represented q a d) (alike_back (subst (Alike row old q) e same))))
