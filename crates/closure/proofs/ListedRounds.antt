-- A round over a worklist joins what the rules draw from all of the row: a gate of a listed clause has been met, and what the others draw among each other
-- has been drawn before.
-- Assumes nothing.
use mathlib.Core.Path.{◌≡◌, refl, sym, ◌∙◌, subst}
use mathlib.Core.Logic.{◌≢◌, ◌⊎◌, inl, inr}
use mathlib.Core.Bool.{true}
use mathlib.Core.List.{List}
use Prim.Native.Nat.{ℕ}
use lib.ListN.{length, get_or}
use Rattle.gates.specs.Found.{is_and}
use Rattle.clauses.specs.Row.{Starts, LiteralAt}
use Rattle.clauses.specs.Row.{start_of}
use Rattle.closure.specs.Making.{Making, JoinedBy, fresh}
use Rattle.closure.specs.Passing.{lead_at, ClauseJoined, AndJoined}
use Rattle.closure.specs.Matching.{HasLead, AndAt, Alike}
use Rattle.closure.specs.Marked.{Marked}
use Rattle.closure.specs.RowJoined.{RowJoined}
use Rattle.closure.specs.Changes.{ConstantAt, TiedAt, ChangedIn}
use Rattle.closure.specs.Worklist.{OnList, Past, Changed, constant, tie, HoldsChanged, HoldsAll, LeavesDrawn, Grown}
use Rattle.closure.specs.KeptAnds.{KeyOf, Represented, AndsKnown}
use Rattle.closure.specs.declared.table.KeyTable.{KeyTable}
use Rattle.closure.specs.declared.tally.Tally.{Tally}
use Rattle.closure.proofs.Searches.{lead_false}
use Rattle.closure.proofs.JoinedBy.{joined_sym}
use Rattle.closure.proofs.Signatures.{sum_below}
use Rattle.closure.proofs.AndPairs.{alike_back}
use Rattle.closure.proofs.UnchangedClauses.{Variable, variable_or_constant, clause_unchanged, InputsUnchanged, inputs_unchanged_or_changed, and_unchanged, alike_before, joined_before}
use Rattle.closure.proofs.Worklists.{past_end, past_off}

-- Of any kind of gate: unchanged pairs were joined in an earlier round, and a gate on the list has been joined with all that are like it.
module _ {Gate : Type 0} (On Off : Gate → Type 0) (Like Before Joined : Gate → Gate → Type 0) where
  pub pairs_joined : ((g : Gate) → On g ⊎ Off g) → ((g h : Gate) → Like g h → Like h g) → ((g h : Gate) → Joined g h → Joined h g)
      → ((g h : Gate) → On g → Like g h → Joined g h) → ((g h : Gate) → Off g → Off h → Like g h → Before g h) → ((g h : Gate) → Off g → Before g h → Joined g h)
      → (g h : Gate) → Like g h → Joined g h
  pairs_joined split back turned met still joined g h like = go (split g) (split h)
    where
      go : On g ⊎ Off g → On h ⊎ Off h → Joined g h
      go (inl a) d = met g h a like
      go (inr a) (inl b) = turned h g (met h g b (back g h like))
      go (inr a) (inr b) = joined g h a (still g h a b like)

-- a list of all clauses leaves none
pub all_drawn : (row marks older old list : List ℕ) → HoldsAll row list → LeavesDrawn row marks older old list
all_drawn row marks older old list h b s = inl (h b s)

pub rest_drawn : (row marks older old list : List ℕ) → HoldsChanged row marks older old list → RowJoined row marks older old (fresh 0) → LeavesDrawn row marks older old list
rest_drawn row marks older old list h j b s = go (h b s)
  where
    go : OnList list b ⊎ (¬ Changed row marks older old b) → OnList list b ⊎ ((¬ Changed row marks older old b) × RowJoined row marks older old (fresh 0))
    go (inl o) = inl o
    go (inr n) = inr (n, j)

module _ {cs : List (List ℕ)} {row marks older old new : List ℕ} {t : Tally} {list : List ℕ} (marked : Marked cs row marks) (making : Making cs old new t)
    (leaves : LeavesDrawn row marks older old list) where
  -- Rules 1 and 2
  pub clauses_all : ((b : ℕ) → OnList list b → ClauseJoined row marks old new t b) → (b : ℕ) → Starts row b → ClauseJoined row marks old new t b
  clauses_all met b s = go (leaves b s)
    where
      go : OnList list b ⊎ ((¬ Changed row marks older old b) × RowJoined row marks older old (fresh 0)) → ClauseJoined row marks old new t b
      go (inl o) = met b o
      go (inr (n, j)) = by (variable_or_constant row older old b s)
        where
          by : Variable row older old b ⊎ ChangedIn (ConstantAt row old) row older old b → ClauseJoined row marks old new t b
          by (inl v) = clause_unchanged v making marks (j.clauses b s)
          by (inr h) = absurd (n (constant h))

  -- Rule 3
  pub ands_all : ((b p : ℕ) → OnList list b → LiteralAt row b p → is_and (get_or marks p 0) ≡ true → AndJoined row old new t b p)
      → (b p : ℕ) → LiteralAt row b p → is_and (get_or marks p 0) ≡ true → AndJoined row old new t b p
  ands_all met b p l m = go (leaves b l.start)
    where
      go : OnList list b ⊎ ((¬ Changed row marks older old b) × RowJoined row marks older old (fresh 0)) → AndJoined row old new t b p
      go (inl o) = met b p o l m
      go (inr (n, j)) = by (inputs_unchanged_or_changed older old marked b p l m)
        where
          by : InputsUnchanged row older old b p ⊎ ChangedIn (TiedAt row marks) row older old b → AndJoined row old new t b p
          by (inl u) = and_unchanged making l.start u (j.ands b p l m)
          by (inr h) = absurd (n (tie h))

  -- Rule 4
  pub and_pairs_all : {S B : ℕ} {ands : KeyTable S B} → AndsKnown row marks old new t list (length list) ands
      → (p q : ℕ) → AndAt row marks p → AndAt row marks q → Alike row old p q → JoinedBy new t (get_or row p 0) (get_or row q 0)
  and_pairs_all known p q a b like =
      pairs_joined On Off (λ g h. Alike row old g.0 h.0) (λ g h. Alike row older g.0 h.0) (λ g h. JoinedBy new t (get_or row g.0 0) (get_or row h.0 0))
      split (λ g h. alike_back) (λ g h. joined_sym new t _ _)
      (λ g h on. known.pairs g.0 h.0 g.1 h.1 (past_end list _) (past_end list _) on)
      (λ g h u v. alike_before u.0 v.0)
      (λ g h u e. joined_before making _ _ (u.1.and_pairs g.0 h.0 g.1 h.1 e))
      (p, a) (q, b) like
    where
      Gate : Type 0
      Gate = (p : ℕ) × AndAt row marks p

      On : Gate → Type 0
      On g = OnList list (start_of row g.0)

      Off : Gate → Type 0
      Off g = InputsUnchanged row older old (start_of row g.0) g.0 × RowJoined row marks older old (fresh 0)

      split : (g : Gate) → On g ⊎ Off g
      split g = go (leaves (start_of row g.0) g.1.placed.at.start)
        where
          go : OnList list (start_of row g.0) ⊎ ((¬ Changed row marks older old (start_of row g.0)) × RowJoined row marks older old (fresh 0)) → On g ⊎ Off g
          go (inl o) = inl o
          go (inr (n, j)) = by (inputs_unchanged_or_changed older old marked (start_of row g.0) g.0 g.1.placed.at g.1.mark)
            where
              by : InputsUnchanged row older old (start_of row g.0) g.0 ⊎ ChangedIn (TiedAt row marks) row older old (start_of row g.0) → On g ⊎ Off g
              by (inl u) = inr (u, j)
              by (inr h) = absurd (n (tie h))

-- An AND whose inputs are unchanged keeps its representative, whatever has become of the representative's own leads

module _ {row older old : List ℕ} (grown : Grown older old) {p : ℕ} (unchanged : InputsUnchanged row older old (start_of row p) p) where
  lead_now : {x : ℕ} → HasLead row older p x → HasLead row old p x
  lead_now h = record { place = h.place; at = h.at; apart = h.apart; lead = sym (unchanged.kept h.place h.at h.apart) ∙ h.lead }

  lead_then : {x : ℕ} → HasLead row old p x → HasLead row older p x
  lead_then h = record { place = h.place; at = h.at; apart = h.apart; lead = unchanged.kept h.place h.at h.apart ∙ h.lead }

  -- a place that had the lead of an input has it still
  follows : {x : ℕ} (m : ℕ) → lead_at row older m ≡ x → HasLead row older p x → lead_at row old m ≡ x
  follows m e h = grown (get_or row m 0) (get_or row h.place 0) (e ∙ sym h.lead) ∙ sym (unchanged.kept h.place h.at h.apart) ∙ h.lead

  -- what was false is
  false_still : (m : ℕ) → lead_at row older m ≡ 0 → lead_at row old m ≡ 0
  false_still m e = grown (get_or row m 0) 0 (e ∙ sym (lead_false older)) ∙ lead_false old

  set_follows : {q : ℕ} → Alike row older q p → Alike row old q p
  set_follows {q} a =
      record {
        left = λ x (h, n). (in_p x h n, n);
        right = λ x (h, n). let k = (a.right x (lead_then h, n)).0 in (record { place = k.place; at = k.at; apart = k.apart; lead = follows k.place k.lead (lead_then h) }, n);
      }
    where
      some : (x : ℕ) (h : HasLead row old q x) → x ≢ 0 → lead_at row older h.place ≢ 0
      some x h n z = n (sym h.lead ∙ false_still h.place z)

      in_p : (x : ℕ) → HasLead row old q x → x ≢ 0 → HasLead row old p x
      in_p x h n =
          let k = (a.left (lead_at row older h.place) (record { place = h.place; at = h.at; apart = h.apart; lead = refl }, some x h n)).0 in
          subst (HasLead row old p) (sym (follows h.place refl k) ∙ h.lead) (lead_now k)

  key_stays : {key : ℕ} → KeyOf row older p key → KeyOf row old p key
  key_stays k = record { signature = k.signature; signed = sum_below (λ x l (h, n). (lead_now h, n)) (λ x l (h, n). (lead_then h, n)) k.signed; is = k.is }

  represented_stays : {cs : List (List ℕ)} {new : List ℕ} {t : Tally} {S B : ℕ} {ands : KeyTable S B} → Making cs old new t
      → Represented row older old (fresh 0) ands p → Represented row old new t ands p
  represented_stays making r =
      record { slot = r.slot; taken = r.taken; key = key_stays r.key; alike = set_follows r.alike; joined = joined_before making _ _ r.joined }

-- the ANDs of the clauses that are not on the list are represented in the next round too
pub ands_known_later : {cs : List (List ℕ)} {row marks older old new : List ℕ} {t : Tally} (before list : List ℕ) {S B : ℕ} {ands : KeyTable S B} → Marked cs row marks
    → Grown older old → Making cs old new t → HoldsChanged row marks older old list → AndsKnown row marks older old (fresh 0) before (length before) ands
    → AndsKnown row marks old new t list 0 ands
ands_known_later {row = row} {marks} {older} {old} {new} {t} before list {ands = ands} marked grown making holds known =
    record {
      represented = λ p a d. go p a d (holds (start_of row p) a.placed.at.start);
      pairs = λ p q a b d e on. absurd (past_off d on);
    }
  where
    go : (p : ℕ) → AndAt row marks p → Past list 0 (start_of row p) → OnList list (start_of row p) ⊎ (¬ Changed row marks older old (start_of row p)) → Represented row old new t ands p
    go p a d (inl on) = absurd (past_off d on)
    go p a d (inr n) = by (inputs_unchanged_or_changed older old marked (start_of row p) p a.placed.at a.mark)
      where
        by : InputsUnchanged row older old (start_of row p) p ⊎ ChangedIn (TiedAt row marks) row older old (start_of row p) → Represented row old new t ands p
        by (inl u) = represented_stays grown u making (known.represented p a (past_end before _))
        by (inr h) = absurd (n (tie h))
