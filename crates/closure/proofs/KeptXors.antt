-- The table of XORs that is kept: what a slot says through earlier leads, rule 6 concludes through the present ones; and what becomes of the table
-- in the next round.
-- Assumes nothing.
use mathlib.Core.Path.{◌≡◌, refl, sym, ◌∙◌, ap, ap₂, subst, subst⁻¹}
use mathlib.Core.Logic.{◌≢◌, ◌⊎◌, inl, inr}
use mathlib.Core.Bool.{Bool, false, not}
use mathlib.Core.List.Memᴰ
use mathlib.Core.List.{List, [], ◌∷◌, ◌++◌}
use Prim.Native.Nat.{ℕ, ◌*◌, ◌<◌}
use native.Mathlib.Omega.{arith}
use lib.Dec.{eqb}
use lib.ListN.{length, get_or}
use Rattle.clauses.specs.Code.{net}
use Rattle.clauses.specs.Clause.{Mem}
use Rattle.clauses.proofs.Codes.{net_double}
use Rattle.clauses.proofs.Lists.{in_first}
use Rattle.clauses.specs.Row.{LiteralAt}
use Rattle.clauses.specs.Sign.{plus, flip, is_inverse, parity}
use Rattle.clauses.proofs.Signs.{plus_false, plus_self, plus_cancel, plain_of_even, plain_net, parity_append}
use Rattle.rules.specs.Rule.{Cancels}
use Rattle.rules.specs.Answer.{lead_of}
use Rattle.rules.proofs.Leads.{lead_flip}
use Rattle.rules.proofs.Cancelling.{leads_to, inverse_led, cancels_even, cancels_sign, even_cancels}
use Rattle.closure.specs.Making.{Kernel, Drawn, Making, JoinedBy, fresh}
use Rattle.closure.specs.RowJoined.{XorsJoined}
use Rattle.closure.specs.Changes.{ChangedIn}
use Rattle.closure.specs.Xors.{LeadRow, odd_nets, odd_sign, XorAt, key_at, sum_at}
use Rattle.closure.specs.Worklist.{OnList, Past, Changed, HoldsChanged, Grown, tie}
use Rattle.closure.specs.KeptXors.{XorSlot, XorTable, SummedAt, XorsKnown}
use Rattle.closure.specs.declared.table.KeyTable.{KeyTable}
use Rattle.closure.specs.declared.tally.Tally.{Tally}
use Rattle.closure.proofs.JoinedBy.{joined_back, joined_chain, joined_same}
use Rattle.closure.proofs.OddNets.{is, odd_parity, odd_same, odd_leads}
use Rattle.closure.proofs.XorItems.{Xored, canonical, represents, xored_equal}
use Rattle.closure.proofs.UnchangedClauses.{Unchanged, unchanged_or_changed, key_before, sum_before, joined_before}
use Rattle.closure.proofs.Worklists.{past_end, past_off}

-- A slot of earlier leads

cancels_grown : {G H : ℕ → ℕ → Type 0} → ((a b : ℕ) → G a b → H a b) → {xs : List ℕ} {p : Bool} → Cancels G xs p → Cancels H xs p
cancels_grown f Cancels.none = Cancels.none
cancels_grown f (Cancels.constant b g h) = Cancels.constant b (f _ _ g) (cancels_grown f h)
cancels_grown f (Cancels.pair b m g h) = Cancels.pair b m (f _ _ g) (cancels_grown f h)

-- the nets as literals
abbrev plain : List ℕ → List ℕ
plain [] = []
plain (w ∷ ws) = 2 * w ∷ plain ws

-- each net leads itself
abbrev Own : List ℕ → List ℕ → Type 0
Own leads nets = (w : ℕ) → Mem w nets → lead_of leads (2 * w) ≡ 2 * w

-- the nets that are left of a bag lead themselves
pub odd_own : {leads : List ℕ} → LeadRow leads → (xs : List ℕ) → Own leads (odd_nets (lead_of leads) xs)
odd_own {leads} l xs w m = go (odd_leads (lead_of leads) xs w m)
  where
    go : (x : ℕ) × Mem x xs × (net (lead_of leads x) ≡ w) → lead_of leads (2 * w) ≡ 2 * w
    go (x, k, e) =
        subst (λ (v : ℕ). lead_of leads (2 * v) ≡ 2 * v) e
        (ap (lead_of leads) (plain_net (lead_of leads x)) ∙ lead_flip (lead_of leads) (canonical l) (is_inverse (lead_of leads x)) (lead_of leads x)
        ∙ ap (flip (is_inverse (lead_of leads x))) (l.again x) ∙ sym (plain_net (lead_of leads x)))

own_parity : (leads : List ℕ) (v : ℕ) (nets : List ℕ) → Own leads nets → parity (leads_to (lead_of leads) v) (plain nets) ≡ parity (is v) nets
own_parity leads v [] o = refl
own_parity leads v (w ∷ ws) o =
    ap₂ plus (ap (λ (c : ℕ). eqb (net c) v) (o w in_first) ∙ ap (λ (n : ℕ). eqb n v) (net_double w)) (own_parity leads v ws (λ x m. o x (Memᴰ.tail m)))

own_sign : (leads nets : List ℕ) → Own leads nets → parity (inverse_led (lead_of leads)) (plain nets) ≡ false
own_sign leads [] o = refl
own_sign leads (w ∷ ws) o = ap₂ plus (ap is_inverse (o w in_first) ∙ plain_of_even (2 * w) (omega arith)) (own_sign leads ws (λ x m. o x (Memᴰ.tail m)))

same_of : (a b : Bool) → plus a b ≡ false → a ≡ b
same_of a b e = sym (plus_false a) ∙ ap (plus a) (sym e) ∙ plus_cancel a b

module _ {before old : List ℕ} (l : LeadRow before) (k : LeadRow old) (grown : Grown before old) (nets : List ℕ) (own : Own old nets) where
  module _ (ks : List ℕ) (are : nets ≡ odd_nets (lead_of before) ks) where
    own_before : Own before nets
    own_before = subst⁻¹ (Own before) are (odd_own l ks)

    even_before : (w : ℕ) → w ≢ 0 → parity (leads_to (lead_of before) w) (ks ++ plain nets) ≡ false
    even_before w n =
        parity_append (leads_to (lead_of before) w) ks (plain nets)
        ∙ ap₂ plus (sym (odd_parity (lead_of before) w n ks) ∙ ap (parity (is w)) (sym are)) (own_parity before w nets own_before) ∙ plus_self (parity (is w) nets)

    -- the bag and the nets of its key cancel, then and now
    now : Cancels (Kernel old) (ks ++ plain nets) (parity (inverse_led (lead_of before)) (ks ++ plain nets))
    now = cancels_grown grown (even_cancels (lead_of before) (Kernel before) (represents l) (ks ++ plain nets) even_before)

    parity_now : (w : ℕ) → w ≢ 0 → parity (leads_to (lead_of old) w) ks ≡ parity (is w) nets
    parity_now w n =
        same_of _ _ (sym (parity_append (leads_to (lead_of old) w) ks (plain nets)) ∙ cancels_even (lead_of old) (Kernel old) (represents k) now w n)
        ∙ own_parity old w nets own

    sign_of : (leads : List ℕ) → Own leads nets → parity (inverse_led (lead_of leads)) (ks ++ plain nets) ≡ parity (inverse_led (lead_of leads)) ks
    sign_of leads o =
        parity_append (inverse_led (lead_of leads)) ks (plain nets) ∙ ap (plus (parity (inverse_led (lead_of leads)) ks)) (own_sign leads nets o)
        ∙ plus_false (parity (inverse_led (lead_of leads)) ks)

    sign_now : odd_sign (lead_of before) ks ≡ odd_sign (lead_of old) ks
    unfolding odd_sign
    sign_now = sym (sign_of before own_before) ∙ sym (cancels_sign (lead_of old) (Kernel old) (represents k) now) ∙ sign_of old own

  -- an XOR that has the slot's key now: rule 6
  pub xored_kept : {cs : List (List ℕ)} {v u : ℕ} → Xored cs (lead_of before) nets v → Xored cs (lead_of old) nets u → Drawn cs old u v
  xored_kept x y =
      xored_equal k y (record {
        k = x.k;
        ks = x.ks;
        gate = x.gate;
        nets_are =
            y.nets_are
            ∙ odd_same (lead_of old) y.ks x.ks
            (λ w n. sym (odd_parity (lead_of old) w n y.ks) ∙ ap (parity (is w)) (sym y.nets_are) ∙ sym (parity_now x.ks x.nets_are w n));
        value_is = x.value_is ∙ ap (λ (b : Bool). flip (not b) x.k) (sign_now x.ks x.nets_are);
      })

-- The table in the next round

xor_slot_grown : {row marks older old : List ℕ} {key sum : ℕ} → Grown older old → XorSlot row marks older key sum → XorSlot row marks old key sum
xor_slot_grown g s =
    record {
      leads = s.leads;
      are = s.are;
      grown = λ a b k. g a b (s.grown a b k);
      start = s.start;
      place = s.place;
      at = s.at;
      key_is = s.key_is;
      sum_is = s.sum_is;
    }

pub xor_table_grown : {S B : ℕ} {row marks older old : List ℕ} {xors : KeyTable S B} → Grown older old → XorTable row marks older xors → XorTable row marks old xors
xor_table_grown g t = record { are = λ i l. xor_slot_grown g (t.are i l); once = t.once }

-- an XOR off the list has its slot
module _ {cs : List (List ℕ)} {row marks older old new : List ℕ} {t : Tally} (making : Making cs old new t) {list before : List ℕ} {S B : ℕ} {xors : KeyTable S B}
    (holds : HoldsChanged row marks older old list) (k : XorsKnown row marks older old (fresh 0) before (length before) xors) where
  unchanged_off : {b p : ℕ} → XorAt row marks b p → Past list 0 b → Unchanged row older old b
  unchanged_off {b} x off = go (unchanged_or_changed row older old b x.place.start) (holds b x.place.start)
    where
      go : Unchanged row older old b ⊎ ChangedIn (LiteralAt row) row older old b → OnList list b ⊎ (¬ Changed row marks older old b) → Unchanged row older old b
      go (inl u) h = u
      go (inr s) (inl o) = absurd (past_off off o)
      go (inr s) (inr n) = absurd (n (tie (record { place = s.place; at = record { at = s.at; by = inr x.marked }; moved = s.moved })))

  summed_off : (b p : ℕ) → XorAt row marks b p → Past list 0 b → SummedAt row old new t xors b p
  summed_off b p x off =
      let u = unchanged_off x off in
      let s = k.summed b p x (past_end before b) in
      record {
        slot = s.slot;
        taken = s.taken;
        key = s.key ∙ key_before u p;
        joined = joined_same making refl (sum_before u p) (joined_before making _ _ s.joined);
      }

  alone_off : (b p : ℕ) → XorAt row marks b p → Past list 0 b → key_at old row b p < 65536 → JoinedBy new t (sum_at old row b p) (2 * key_at old row b p)
  alone_off b p x off h =
      let u = unchanged_off x off in
      joined_same making (sum_before u p) (ap (λ (n : ℕ). 2 * n) (key_before u p))
      (joined_before making _ _ (k.alone b p x (past_end before b) (subst⁻¹ (λ (n : ℕ). n < 65536) (key_before u p) h)))

  pub xors_known_later : XorsKnown row marks old new t list 0 xors
  xors_known_later = record { summed = summed_off; alone = alone_off }

-- behind the list, all conclusions are joined: sums of one key are joined to one slot
pub xors_all_joined : {cs : List (List ℕ)} {row marks old new : List ℕ} {t : Tally} {list : List ℕ} {S B : ℕ} {xors : KeyTable S B} → Making cs old new t
    → XorsKnown row marks old new t list (length list) xors
    → ((i j : ℕ) → i < xors.count → j < xors.count → get_or xors.keys i 0 ≡ get_or xors.keys j 0 → i ≡ j) → XorsJoined row marks old new t
xors_all_joined {row = row} {marks = marks} {old = old} {new = new} {t = t} {list = list} {xors = xors} making k once =
    record { alone = λ b p x. k.alone b p x (past_end list b); sums = equal }
  where
    equal : (b p d q : ℕ) → XorAt row marks b p → XorAt row marks d q → key_at old row b p ≡ key_at old row d q
        → JoinedBy new t (sum_at old row b p) (sum_at old row d q)
    equal b p d q x y e =
        let u = k.summed b p x (past_end list b) in
        let v = k.summed d q y (past_end list d) in
        joined_chain making _ (get_or xors.values u.slot 0) _ (joined_back making _ _ u.joined)
        (subst⁻¹ (λ (i : ℕ). JoinedBy new t (get_or xors.values i 0) (sum_at old row d q)) (once u.slot v.slot u.taken v.taken (u.key ∙ e ∙ sym v.key)) v.joined)
