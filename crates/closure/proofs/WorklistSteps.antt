-- How a worklist is made: clauses are seen by marks, net by net whose lead has changed; those that are seen take so many entries of the row, and every
-- clause that changed is among them.
-- Assumes nothing.
use mathlib.Core.Path.{◌≡◌, refl, sym, ◌∙◌, ap, subst, subst⁻¹, subst₂}
use mathlib.Core.Logic.{◌≢◌, ◌⊎◌, inl, inr, ⊎_map}
use mathlib.Core.Bool.{Bool, true, false, not, ◌||◌, true≢false}
use mathlib.Core.List.{List, [], ◌∷◌}
use Prim.Native.Nat.{ℕ, zero, suc, ◌+◌, ◌-◌, ◌/◌, ◌≤◌, ◌<◌}
use native.Mathlib.Omega.{arith}
use native.Mathlib.Numerals.{add-one}
use native.Mathlib.Decide.{dec_lt, ℕ_discrete}
use native.Mathlib.Nat.{not-suc-le-zero, le_of_suc-le-suc}
use lib.Dec.{ltb, eqb}
use lib.ListN.{length, get_or, set, take, drop}
use lib.Seq.{get_or-set_same, get_or-set_other, get_or-take, length-take-le}
use Rattle.std.proofs.lemmas.List.{length-drop, get_or-drop}
use borrow.Author.Tests.{eq-eqb, ne_eqb, lt-ltb}
use Rattle.clauses.specs.Code.{net}
use Rattle.clauses.specs.Chains.{Chained}
use Rattle.clauses.specs.Sign.{flip, is_inverse}
use Rattle.clauses.specs.Row.{clause_at, Starts, LiteralAt}
use Rattle.clauses.specs.Row.{start_of}
use Rattle.clauses.proofs.Chains.{Walk, walk_map, walk_next}
use Rattle.clauses.proofs.Rows.{starts_first, starts_apart}
use Rattle.clauses.proofs.Signs.{net_flip}
use Rattle.clauses.proofs.StartOf.{start_low, literal_start, end_start, start_only}
use Rattle.closure.specs.Passing.{lead_at, First}
use Rattle.closure.specs.Marked.{Ended}
use Rattle.closure.specs.Changes.{Moved, ReadAt}
use Rattle.closure.specs.Occurrences.{net_at, Indexed}
use Rattle.closure.specs.Worklist.{HasMark, Keeps, has_moved, OnList, AreStarts, span_of, Changed, constant, tie, side, HoldsChanged, HoldsAll, seen_below, Working, SeesMovedBelow}
use Rattle.closure.specs.declared.worklist.Worklist.{Worklist}
use Rattle.closure.specs.Listing.{Listing, Listed}
use Rattle.closure.proofs.Joining.{lead_constant, lead_inside}
use Rattle.clauses.proofs.Starts.{literal_inside, starts_behind}
use Rattle.closure.proofs.OccurrenceIndex.{place_start, place_tied, place_read}

-- A row of marks that is written

-- one mark more
pub mark_put : (marked : List Bool) (w : ℕ) → w < length marked → Keeps marked (set marked w true) × HasMark (set marked w true) w
mark_put marked w h = (λ x m. go x m (ℕ_discrete x w), get_or-set_same marked w true false h)
  where
    go : (x : ℕ) → HasMark marked x → Dec (x ≡ w) → HasMark (set marked w true) x
    go x m (yes e) = rw e (get_or-set_same marked w true false h)
    go x m (no n) = get_or-set_other marked w x true false n ∙ m

-- What holds of the nets that pass a test

module _ (f : ℕ → Bool) (P Q : ℕ → Type 0) (from v : ℕ) (on : (x : ℕ) → P x → Q x) (below : (x : ℕ) → x < from → f x ≡ true → P x) where
  -- the next one
  pub nets_more : (w : ℕ) → First f from v w → Q w → (x : ℕ) → x < w + 1 → f x ≡ true → Q x
  nets_more w first here x l t = go (ℕ_discrete x w) (dec_lt x from)
    where
      go : Dec (x ≡ w) → Dec (x < from) → Q x
      go (yes e) d = subst⁻¹ Q e here
      go (no n) (yes h) = on x (below x h t)
      go (no n) (no h) = absurd (true≢false (sym t ∙ first.before x (omega arith) (omega arith)))

  -- none is left
  pub nets_all : First f from v v → (x : ℕ) → x < v → f x ≡ true → Q x
  nets_all first x l t = go (dec_lt x from)
    where
      go : Dec (x < from) → Q x
      go (yes h) = on x (below x h t)
      go (no h) = absurd (true≢false (sym t ∙ first.before x (omega arith) l))

-- Whether the lead of net w + 1 has changed

pub has-moved : (older old : List ℕ) (w : ℕ) → get_or older w 0 ≢ get_or old w 0 → has_moved older old w ≡ true
unfolding has_moved
has-moved older old w n = ap not (ne_eqb (get_or older w 0) (get_or old w 0) n)

pub not_moved : (older old : List ℕ) (w : ℕ) → get_or older w 0 ≡ get_or old w 0 → has_moved older old w ≡ false
unfolding has_moved
not_moved older old w e = ap not (eq-eqb (get_or older w 0) (get_or old w 0) e)

-- the leads of a block have not
pub block_unmoved : (older old : List ℕ) (w e : ℕ) → w ≤ e → e ≤ length old
    → ((k : ℕ) → k < length (take (e - w) (drop w old)) → has_moved (take (e - w) (drop w older)) (take (e - w) (drop w old)) k ≡ false) → (p : ℕ) → w ≤ p → p < e
    → has_moved older old p ≡ false
unfolding has_moved
block_unmoved older old w e i h same p l m =
    let k : p - w < e - w = omega arith in
    let at : w + (p - w) ≡ p = omega arith in
    let inside : p - w < length (take (e - w) (drop w old)) = omega (arith, length-take-le (e - w) (drop w old), length-drop w old) in
    let one : get_or (take (e - w) (drop w older)) (p - w) 0 ≡ get_or older p 0 = get_or-take (e - w) (drop w older) (p - w) 0 k ∙ get_or-drop w older (p - w) 0 ∙ ap (λ (j : ℕ). get_or older j 0) at in
    let two : get_or (take (e - w) (drop w old)) (p - w) 0 ≡ get_or old p 0 = get_or-take (e - w) (drop w old) (p - w) 0 k ∙ get_or-drop w old (p - w) 0 ∙ ap (λ (j : ℕ). get_or old j 0) at in
    rw (one, two) at (same (p - w) inside)

-- one more pair of leads that are compared
pub compared_more : (older old : List ℕ) (i : ℕ) (any : Bool) (a b : ℕ) → a ≡ get_or older i 0 → b ≡ get_or old i 0 → (any ≡ false → (k : ℕ) → k < i → has_moved older old k ≡ false)
    → any || not (eqb a b) ≡ false → (k : ℕ) → k < i + 1 → has_moved older old k ≡ false
unfolding has_moved
compared_more older old i true a b e f before h k l = absurd (true≢false h)
compared_more older old i false a b e f before h k l = go (ℕ_discrete k i)
  where
    here : has_moved older old i ≡ false
    here = rw (e, f) at h

    go : Dec (k ≡ i) → has_moved older old k ≡ false
    go (yes d) = rw d here
    go (no d) = before refl k (omega arith)

-- How many places are in clauses that are seen

module _ (row : List ℕ) (seen : List Bool) (m : ℕ) where
  below_unseen : get_or seen (start_of row m) false ≡ false → seen_below row seen (suc m) ≡ seen_below row seen m
  unfolding seen_below
  below_unseen e = rw e refl

  below_seen : get_or seen (start_of row m) false ≡ true → seen_below row seen (suc m) ≡ seen_below row seen m + 1
  unfolding seen_below
  below_seen e = rw e refl

module _ (row : List ℕ) (seen : List Bool) where
  seen_fits : (m : ℕ) → seen_below row seen m ≤ m
  unfolding seen_below
  seen_fits zero = omega arith
  seen_fits (suc m) = go (get_or seen (start_of row m) false) refl (seen_fits m)
    where
      go : (b : Bool) → get_or seen (start_of row m) false ≡ b → seen_below row seen m ≤ m → seen_below row seen (suc m) ≤ suc m
      go false e h = omega (arith, below_unseen row seen m e)
      go true e h = omega (arith, below_seen row seen m e)

  seen_none : ((q : ℕ) → get_or seen q false ≡ false) → (m : ℕ) → seen_below row seen m ≡ 0
  unfolding seen_below
  seen_none h zero = refl
  seen_none h (suc m) = below_unseen row seen m (h (start_of row m)) ∙ seen_none h m

-- a place is not behind the ending of its clause
start_reaches : (row : List ℕ) (p : ℕ) → p < length row → p ≤ start_of row p + length (clause_at row (start_of row p))
start_reaches row p h = go (ℕ_discrete (get_or row p 0) 0)
  where
    go : Dec (get_or row p 0 ≡ 0) → p ≤ start_of row p + length (clause_at row (start_of row p))
    go (yes e) = omega (arith, end_start row p e)
    go (no n) = omega (arith, (literal_start row p h n).high)

-- how many of the numbers below m lie from b up to e
unfoldable within : ℕ → ℕ → ℕ → ℕ
within b e m = (m - b) - (m - e)

module _ (b e m : ℕ) (ordered : b ≤ e) where
  within_none : e ≤ m → within b e m ≡ e - b
  unfolding within
  within_none h = omega arith

  within_more : b ≤ m → m < e → within b e (suc m) ≡ within b e m + 1
  unfolding within
  within_more l h = omega arith

  within_same : (m < b) ⊎ (e ≤ m) → within b e (suc m) ≡ within b e m
  unfolding within
  within_same (inl h) = omega arith
  within_same (inr h) = omega arith

-- one more clause is seen
module _ (row : List ℕ) (seen : List Bool) (b : ℕ) (s : Starts row b) (ended : b + length (clause_at row b) < length row) (room : b < length seen) (new : get_or seen b false ≡ false) where
  -- the place behind its ending
  abbrev behind : ℕ
  behind = b + length (clause_at row b) + 1

  module _ (m : ℕ) (h : m < length row) (ih : seen_below row (set seen b true) m ≡ seen_below row seen m + within b behind m) where
    -- its places and the others
    seen_here : start_of row m ≡ b → seen_below row (set seen b true) (suc m) ≡ seen_below row seen (suc m) + within b behind (suc m)
    seen_here e =
        let z : get_or (set seen b true) (start_of row m) false ≡ true = ap (λ (k : ℕ). get_or (set seen b true) k false) e ∙ get_or-set_same seen b true false room in
        let low : b ≤ m = omega (arith, start_low row m) in
        let high : m ≤ b + length (clause_at row b) = subst (λ (k : ℕ). m ≤ k + length (clause_at row k)) e (start_reaches row m h) in
        omega (arith, below_seen row (set seen b true) m z, below_unseen row seen m (ap (λ (k : ℕ). get_or seen k false) e ∙ new), within_more b behind m (omega arith) low (omega arith))

    seen_away : start_of row m ≢ b → (m < b) ⊎ (behind ≤ m) → seen_below row (set seen b true) (suc m) ≡ seen_below row seen (suc m) + within b behind (suc m)
    seen_away n o = go (get_or seen (start_of row m) false) refl
      where
        same : get_or (set seen b true) (start_of row m) false ≡ get_or seen (start_of row m) false
        same = get_or-set_other seen b (start_of row m) true false n

        go : (k : Bool) → get_or seen (start_of row m) false ≡ k → seen_below row (set seen b true) (suc m) ≡ seen_below row seen (suc m) + within b behind (suc m)
        go false z = omega (arith, ih, below_unseen row (set seen b true) m (same ∙ z), below_unseen row seen m z, within_same b behind m (omega arith) o)
        go true z = omega (arith, ih, below_seen row (set seen b true) m (same ∙ z), below_seen row seen m z, within_same b behind m (omega arith) o)

    seen_step : seen_below row (set seen b true) (suc m) ≡ seen_below row seen (suc m) + within b behind (suc m)
    seen_step = go (ℕ_discrete (start_of row m) b) (dec_lt m b) (dec_lt m behind)
      where
        go : Dec (start_of row m ≡ b) → Dec (m < b) → Dec (m < behind) → seen_below row (set seen b true) (suc m) ≡ seen_below row seen (suc m) + within b behind (suc m)
        go (yes e) l i = seen_here e
        go (no n) (yes l) i = seen_away n (inl l)
        go (no n) (no l) (yes i) = absurd (n (start_only row b m s (omega arith) (omega arith) h))
        go (no n) (no l) (no i) = seen_away n (inr (omega arith))

  seen_more : (m : ℕ) → m ≤ length row → seen_below row (set seen b true) m ≡ seen_below row seen m + within b behind m
  unfolding seen_below within
  seen_more zero h = omega arith
  seen_more (suc m) h = seen_step m h (seen_more m (omega arith))

  seen_all : seen_below row (set seen b true) (length row) ≡ seen_below row seen (length row) + (length (clause_at row b) + 1)
  seen_all = omega (arith, seen_more (length row) (omega arith), within_none b behind (length row) (omega arith) (omega arith))

-- The list

-- one more entry
span_put : (row list : List ℕ) (n b : ℕ) → n < length list → span_of row (take (suc n) (set list n b)) ≡ span_of row (take n list) + (length (clause_at row b) + 1)
unfolding span_of
span_put row [] n b h = absurd (not-suc-le-zero h)
span_put row (x ∷ list) zero b h = omega arith
span_put row (x ∷ list) (suc n) b h = omega (arith, span_put row list n b (le_of_suc-le-suc h))

span_more : (row list : List ℕ) (n b : ℕ) → n < length list → span_of row (take (n + 1) (set list n b)) ≡ span_of row (take n list) + (length (clause_at row b) + 1)
span_more row list n b h = ap (λ (k : ℕ). span_of row (take k (set list n b))) (add-one n) ∙ span_put row list n b h

-- the first n entries
module _ (list : List ℕ) (n : ℕ) (room : n ≤ length list) where
  pub on_first : (i b : ℕ) → i < n → get_or list i 0 ≡ b → OnList (take n list) b
  on_first i b h e = record { at = i; inside = omega (arith, length-take-le n list room); is = get_or-take n list i 0 h ∙ e }

  pub starts_all : (row : List ℕ) → ((i : ℕ) → i < n → Starts row (get_or list i 0)) → AreStarts row (take n list)
  starts_all row s i h =
      let l : i < n = omega (arith, length-take-le n list room) in
      subst⁻¹ (Starts row) (get_or-take n list i 0 l) (s i l)

-- an entry is one of those before, or the new one
module _ (row list : List ℕ) (n b : ℕ) (room : n < length list) where
  starts_put : Starts row b → ((i : ℕ) → i < n → Starts row (get_or list i 0)) → (i : ℕ) → i < n + 1 → Starts row (get_or (set list n b) i 0)
  starts_put s before i h = go (ℕ_discrete i n)
    where
      go : Dec (i ≡ n) → Starts row (get_or (set list n b) i 0)
      go (yes e) = rw (e, get_or-set_same list n b 0 room) s
      go (no k) = rw (get_or-set_other list n i b 0 k) (before i (omega arith))

  on_before : (d : ℕ) → ((i : ℕ) × (i < n) × (get_or list i 0 ≡ d)) → (i : ℕ) × (i < n + 1) × (get_or (set list n b) i 0 ≡ d)
  on_before d (i, h, e) = (i, omega arith, get_or-set_other list n i b 0 (λ z. omega arith) ∙ e)

-- The clauses that are seen so far

pub working_none : (row : List ℕ) (seen : List Bool) (list : List ℕ) → ((q : ℕ) → get_or seen q false ≡ false) → Working row seen list 0 0
unfolding span_of
working_none row seen list h =
    record {
      count = sym (seen_none row seen h (length row));
      span = refl;
      low = omega arith;
      starts = λ i l. absurd (omega arith);
      on = λ b n. absurd (true≢false (sym n ∙ h b));
    }

-- no more than the row has
module _ {row : List ℕ} {seen : List Bool} {list : List ℕ} {n m : ℕ} (w : Working row seen list n m) where
  pub working_fits : m ≤ length row
  working_fits = omega (arith, w.count, seen_fits row seen (length row))

  -- one more clause
  module _ (b : ℕ) (s : Starts row b) (ended : Ended row) (room : length row ≤ length seen) (space : length row ≤ length list) (new : get_or seen b false ≡ false) where
    all : seen_below row (set seen b true) (length row) ≡ seen_below row seen (length row) + (length (clause_at row b) + 1)
    all = seen_all row seen b s (ended b s) (omega (arith, s.inside)) new

    pub more_fits : m + (length (clause_at row b) + 1) ≤ length row
    more_fits = omega (arith, w.count, all, seen_fits row (set seen b true) (length row))

    pub list_room : n < length list
    list_room = omega (arith, w.low, more_fits)

    pub working_more : (k : ℕ) → k ≡ m + (length (clause_at row b) + 1) → Working row (set seen b true) (set list n b) (n + 1) k
    working_more k e =
        record {
          count = omega (arith, w.count, all);
          span = omega (arith, w.span, span_more row list n b list_room);
          low = omega (arith, w.low);
          starts = starts_put row list n b list_room s w.starts;
          on = λ d h. go d h (ℕ_discrete d b);
        }
      where
        go : (d : ℕ) → HasMark (set seen b true) d → Dec (d ≡ b) → (i : ℕ) × (i < n + 1) × (get_or (set list n b) i 0 ≡ d)
        go d h (yes i) = (n, omega arith, get_or-set_same list n b 0 list_room ∙ sym i)
        go d h (no i) = on_before row list n b list_room d (w.on d (sym (get_or-set_other seen b d true false i) ∙ h))

    pub more_seen : Keeps seen (set seen b true) × HasMark (set seen b true) b
    more_seen = mark_put seen b (omega (arith, s.inside))

  -- the list that is made
  module _ (space : length row ≤ length list) where
    pub working_room : n ≤ length list
    working_room = omega (arith, w.low, working_fits)

    pub working_starts : AreStarts row (take n list)
    working_starts = starts_all list n working_room row w.starts

    pub working_on : (b : ℕ) → HasMark seen b → OnList (take n list) b
    working_on b h = let o = w.on b h in on_first list n working_room o.0 b o.1 o.2

    -- every clause is not seen, or on it
    pub working_rest : (b : ℕ) → (get_or seen b false ≡ false) ⊎ OnList (take n list) b
    working_rest b = go (get_or seen b false) refl
      where
        go : (k : Bool) → get_or seen b false ≡ k → (get_or seen b false ≡ false) ⊎ OnList (take n list) b
        go false e = inl e
        go true e = inr (working_on b e)

-- Changed leads

-- the clause of place q is seen if the change tells it anything
abbrev pub Told : List ℕ → List Bool → Bool → List Bool → ℕ → Type 0
Told starts reads fixed seen q = (fixed ≡ true) ⊎ (get_or reads q false ≡ true) → HasMark seen (get_or starts q 0)

pub not_told : (starts : List ℕ) (reads : List Bool) (fixed : Bool) (seen : List Bool) (q : ℕ) → fixed ≡ false → get_or reads q false ≡ false → Told starts reads fixed seen q
not_told starts reads fixed seen q e f (inl h) = absurd (true≢false (sym h ∙ e))
not_told starts reads fixed seen q e f (inr h) = absurd (true≢false (sym h ∙ f))

-- .. and it goes on
pub list_next : (row starts : List ℕ) (reads : List Bool) (occurs links : List ℕ) (fixed : Bool) (w k : ℕ) (seen seen' : List Bool) → Chained (net_at row) (length row) occurs links → Keeps seen seen' → 0 < k
    → Told starts reads fixed seen' (k - 1) → Walk (net_at row) (length row) w (Told starts reads fixed seen) k
    → Walk (net_at row) (length row) w (Told starts reads fixed seen') (get_or links (k - 1) 0)
list_next row starts reads occurs links fixed w k seen seen' c keeps h here walk =
    walk_next (λ i b. net_at row i ≡ b) (length row) w occurs links c (walk_map (λ i b. net_at row i ≡ b) (length row) w (λ i f t. keeps (get_or starts i 0) (f t)) walk) h here

-- the clause of a place that it comes to
pub clause-of : (codes starts : List ℕ) → ((b q : ℕ) → LiteralAt codes b q → get_or starts q 0 ≡ b) → (w q : ℕ) → w ≢ 0 → q < length codes → net_at codes q ≡ w → Starts codes (get_or starts q 0)
clause-of codes starts at w q some inside net =
    let l = literal_start codes q inside (λ z. some (sym net ∙ ap (λ (c : ℕ). c / 2) z)) in
    subst⁻¹ (Starts codes) (at (start_of codes q) q l) l.start

module _ (codes marks starts : List ℕ) (reads : List Bool) (occurs links older old : List ℕ) (seen : List Bool) (indexed : Indexed codes marks starts reads occurs links)
    (nets : (q : ℕ) → net_at codes q ≤ length old) (size : length older ≡ length old) (told : SeesMovedBelow codes starts reads older old (length old) seen) where
  moved_variable : (q : ℕ) → Moved older old (get_or codes q 0) → net_at codes q ≢ 0
  moved_variable q h z = h (sym (lead_constant older (get_or codes q 0) z) ∙ lead_constant old (get_or codes q 0) z)

  place_moved : (q : ℕ) → Moved older old (get_or codes q 0) → has_moved older old (net_at codes q - 1) ≡ true
  place_moved q m =
      let c = get_or codes q 0 in
      let n = moved_variable q m in
      has-moved older old (net c - 1) (λ e. m (sym (lead_inside older c n (omega (arith, nets q))) ∙ ap (flip (is_inverse c)) e ∙ lead_inside old c n (nets q)))

  -- a lead that is a constant
  place_constant : (q : ℕ) → net_at codes q ≢ 0 → net (lead_at codes old q) ≡ 0 → ltb (get_or old (net_at codes q - 1) 0) 2 ≡ true
  place_constant q n z =
      let c = get_or codes q 0 in
      let e : get_or old (net c - 1) 0 / 2 ≡ 0 = sym (net_flip (is_inverse c) (get_or old (net c - 1) 0)) ∙ ap net (lead_inside old c n (nets q)) ∙ z in
      lt-ltb (get_or old (net c - 1) 0) 2 (omega arith)

  told_seen : (b q : ℕ) → LiteralAt codes b q → Moved older old (get_or codes q 0) → (net (lead_at codes old q) ≡ 0) ⊎ (get_or reads q false ≡ true) → HasMark seen b
  told_seen b q l m h =
      let n = moved_variable q m in
      subst (HasMark seen) (place_start codes marks starts reads occurs links indexed b q l)
      (told (net_at codes q - 1) (omega (arith, nets q)) (place_moved q m) q (literal_inside codes b q l) (omega arith) (⊎_map (place_constant q n) (λ k. k) h))

  read_literal : (b q : ℕ) → ReadAt codes marks b q → LiteralAt codes b q
  read_literal b q (inl k) = k.at
  read_literal b q (inr k) = k.at

  changed_seen : (b : ℕ) → Changed codes marks older old b → HasMark seen b
  changed_seen b (constant s) = told_seen b s.place s.at.at s.moved (inl s.at.constant)
  changed_seen b (tie s) = told_seen b s.place s.at.at s.moved (inr (place_tied codes marks starts reads occurs links indexed b s.place s.at.at s.at))
  changed_seen b (side s) =
      let l = read_literal b s.place s.at in
      told_seen b s.place l s.moved (inr (place_read codes marks starts reads occurs links indexed b s.place l s.at))

  pub holds_changed : (list : List ℕ) → ((b : ℕ) → (get_or seen b false ≡ false) ⊎ OnList list b) → HoldsChanged codes marks older old list
  holds_changed list rest b s = go (rest b)
    where
      go : (get_or seen b false ≡ false) ⊎ OnList list b → OnList list b ⊎ (¬ Changed codes marks older old b)
      go (inl z) = inr (λ c. true≢false (sym (changed_seen b c) ∙ z))
      go (inr o) = inl o

-- A worklist that is being made

pub listed_none : {row : List ℕ} {w : Worklist} → Listing row w → Listed row w w
listed_none l = record { listing = l; keeps = λ x h. h; list_same = refl; seen_same = refl; list_size = refl; seen_size = refl }

pub listed_then : {row : List ℕ} {w w' w'' : Worklist} → Listed row w w' → Listed row w' w'' → Listed row w w''
listed_then a b =
    record {
      listing = b.listing;
      keeps = λ x h. b.keeps x (a.keeps x h);
      list_same = b.list_same ∙ a.list_same;
      seen_same = b.seen_same ∙ a.seen_same;
      list_size = b.list_size ∙ a.list_size;
      seen_size = b.seen_size ∙ a.seen_size;
    }

-- it begins with no clause
pub listing_none : (row : List ℕ) (w : Worklist) → w.work.clauses ≡ 0 → w.work.entries ≡ 0 → ((q : ℕ) → get_or w.seen.now q false ≡ false) → length row ≤ length w.list.now
    → length row ≤ length w.seen.now → Listing row w
listing_none row w n m blank list seen =
    record {
      working = subst₂ (λ (i j : ℕ). Working row w.seen.now w.list.now i j) (sym n) (sym m) (working_none row w.seen.now w.list.now blank);
      list_room = list;
      seen_room = seen;
    }

-- the row that the list was made in
module _ {row : List ℕ} {w : Worklist} (l : Listing row w) (list : List ℕ) (same : list ≡ w.list.now) where
  pub list_made : (n : ℕ) → length w.list.now ≡ n → (w.work.clauses ≤ n) × AreStarts row (take w.work.clauses list) × (w.work.entries ≡ span_of row (take w.work.clauses list))
  list_made n size = rw same (omega (arith, working_room l.working l.list_room), working_starts l.working l.list_room, l.working.span)

  pub made_rest : (b : ℕ) → (get_or w.seen.now b false ≡ false) ⊎ OnList (take w.work.clauses list) b
  made_rest = rw same (working_rest l.working l.list_room)

-- All clauses

-- the clauses below b are listed: n of them
pub record AllBelow (row list : List ℕ) (n b : ℕ) : Type 0 where
  pub start : b < length row → Starts row b
  pub low : n ≤ b
  pub high : b ≤ length row
  pub span : b ≡ span_of row (take n list)
  pub starts : (i : ℕ) → i < n → Starts row (get_or list i 0)
  pub on : (d : ℕ) → Starts row d → d < b → (i : ℕ) × (i < n) × (get_or list i 0 ≡ d)

pub all_none : (row list : List ℕ) → AllBelow row list 0 0
unfolding span_of
all_none row list =
    record {
      start = starts_first row;
      low = omega arith;
      high = omega arith;
      span = refl;
      starts = λ i l. absurd (omega arith);
      on = λ d s l. absurd (omega arith);
    }

module _ {row list : List ℕ} {n b : ℕ} (w : AllBelow row list n b) (room : length row ≤ length list) where
  pub all_more : b < length row → Ended row → (e : ℕ) → e ≡ b + length (clause_at row b) → AllBelow row (set list n b) (n + 1) (e + 1)
  all_more h ended e end =
      record {
        start = starts_behind row b e end;
        low = omega (arith, w.low);
        high = omega (arith, ended b (w.start h));
        span = omega (arith, w.span, span_more row list n b (omega (arith, w.low)));
        starts = starts_put row list n b (omega (arith, w.low)) (w.start h) w.starts;
        on = λ d s l. go d s l (ℕ_discrete d b) (dec_lt b d);
      }
    where
      go : (d : ℕ) → Starts row d → d < e + 1 → Dec (d ≡ b) → Dec (b < d) → (i : ℕ) × (i < n + 1) × (get_or (set list n b) i 0 ≡ d)
      go d s l (yes i) j = (n, omega arith, get_or-set_same list n b 0 (omega (arith, w.low)) ∙ sym i)
      go d s l (no i) (yes j) = absurd (omega (arith, starts_apart row b d s j))
      go d s l (no i) (no j) = on_before row list n b (omega (arith, w.low)) d (w.on d s (omega arith))

  pub all_room : n ≤ length list
  all_room = omega (arith, w.low, w.high)

  pub all_on : length row ≤ b → HoldsAll row (take n list)
  all_on h d s = let o = w.on d s (omega (arith, s.inside)) in on_first list n all_room o.0 d o.1 o.2
