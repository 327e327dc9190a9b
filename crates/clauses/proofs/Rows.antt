-- Clauses by their places in a row of codes, and as a list.
-- Assumes nothing.
use mathlib.Core.Path.{◌≡◌, refl, sym, ◌∙◌, ap, subst}
use mathlib.Core.Logic.{◌≢◌, ◌⊎◌, inl, inr}
use mathlib.Core.Bool.{Bool, true, false, not}
use mathlib.Core.List.Memᴰ
use mathlib.Core.List.{List, [], ◌∷◌, map, Memᴰ}
use Prim.Native.Nat.{ℕ, zero, suc, ◌+◌, ◌-◌, ◌≤◌, ◌<◌}
use native.Mathlib.Numerals.{add-one}
use native.Mathlib.Omega.{arith}
use native.Mathlib.Decide.{dec_lt, ℕ_discrete}
use lib.Dec.{eqb}
use lib.ListN.{length, get_or, drop, length-drop, drop_of_length-le, get_or-eq_default}
use lib.Seq.{drop-cons, drop-drop, get_or-drop}
use borrow.Author.Tests.{eq-eqb, ne_eqb, eqb-false}
use borrow.Table.Steps.{cases}
use Rattle.clauses.specs.Bytes.{front}
use Rattle.clauses.specs.Lists.{from}
use Rattle.clauses.specs.Clause.{Mem, onto, clauses_in}
use Rattle.clauses.specs.Row.{clause_at, Starts, LiteralAt}
use Rattle.clauses.proofs.Distinct.{Distinct, empty, more}
use Rattle.clauses.proofs.Runs.{run_none, run_stops, run_goes_on}

-- what is no end of a clause
abbrev lit : ℕ → Bool
lit x = not (eqb x 0)

lit_true : (x : ℕ) → x ≢ 0 → lit x ≡ true
lit_true x n = ap not (ne_eqb x 0 n)

lit_false : (x : ℕ) → x ≡ 0 → lit x ≡ false
lit_false x e = ap not (eq-eqb x 0 e)

-- A clause that is walked from a place on

module _ (row : List ℕ) (b : ℕ) where
  -- a place past the row's end reads as 0
  pub literal_within : get_or row b 0 ≢ 0 → b < length row
  literal_within n = go (dec_lt b (length row))
    where
      go : Dec (b < length row) → b < length row
      go (yes h) = h
      go (no m) = absurd (n (get_or-eq_default row 0 (omega arith)))

  pub clause_stops : get_or row b 0 ≡ 0 → clause_at row b ≡ []
  unfolding clause_at
  clause_stops e = go (dec_lt b (length row))
    where
      go : Dec (b < length row) → clause_at row b ≡ []
      go (yes h) = run_stops lit row b h (lit_false (get_or row b 0) e)
      go (no m) = run_none lit row b (omega arith)

  pub clause_goes_on : get_or row b 0 ≢ 0 → clause_at row b ≡ get_or row b 0 ∷ clause_at row (b + 1)
  unfolding clause_at
  clause_goes_on n = run_goes_on lit row b (literal_within n) (lit_true (get_or row b 0) n)

-- The literals of a clause

front_at : (l : List ℕ) (k : ℕ) → k < length (front lit l) → (get_or (front lit l) k 0 ≡ get_or l k 0) × (get_or l k 0 ≢ 0)
unfolding front
front_at [] k h = absurd (omega arith)
front_at (x ∷ l) k h = cases (eqb x 0) (λ e. absurd (none e (rw (e, front) at h))) (λ e. more k e (rw (e, front) at h) (front_at l))
  where
    none : eqb x 0 ≡ true → k < 0 → ⊥
    none e g = omega arith

    more : (i : ℕ) → eqb x 0 ≡ false → i < suc (length (front lit l)) → ((j : ℕ) → j < length (front lit l) → (get_or (front lit l) j 0 ≡ get_or l j 0) × (get_or l j 0 ≢ 0))
        → (get_or (front lit (x ∷ l)) i 0 ≡ get_or (x ∷ l) i 0) × (get_or (x ∷ l) i 0 ≢ 0)
    more zero e g ih = (rw (e, front), eqb-false x 0 e)
    more (suc i) e g ih = rw (e, front) (ih i (omega arith))

front_end : (l : List ℕ) → get_or l (length (front lit l)) 0 ≡ 0
unfolding front
front_end [] = refl
front_end (x ∷ l) = go (ℕ_discrete x 0) (front_end l)
  where
    go : Dec (x ≡ 0) → get_or l (length (front lit l)) 0 ≡ 0 → get_or (x ∷ l) (length (front lit (x ∷ l))) 0 ≡ 0
    go (yes e) ih = rw (eq-eqb x 0 e, front) e
    go (no n) ih = rw (ne_eqb x 0 n, front) ih

front_fits : (l : List ℕ) → length (front lit l) ≤ length l
unfolding front
front_fits [] = omega arith
front_fits (x ∷ l) = go (ℕ_discrete x 0) (front_fits l)
  where
    go : Dec (x ≡ 0) → length (front lit l) ≤ length l → length (front lit (x ∷ l)) ≤ suc (length l)
    go (yes e) ih = rw (eq-eqb x 0 e, front) (omega arith)
    go (no n) ih = rw (ne_eqb x 0 n, front) (omega arith)

module _ (row : List ℕ) (b : ℕ) where
  -- the literal number k of the clause
  pub clause-at : (k : ℕ) → k < length (clause_at row b) → get_or (clause_at row b) k 0 ≡ get_or row (b + k) 0
  unfolding clause_at
  clause-at k h = (front_at (drop b row) k h).0 ∙ get_or-drop b row k 0

  pub literal_some : (p : ℕ) → b ≤ p → p < b + length (clause_at row b) → get_or row p 0 ≢ 0
  unfolding clause_at
  literal_some p l h e =
      let k : p - b < length (front lit (drop b row)) = omega arith in
      let s : b + (p - b) ≡ p = omega arith in
      (front_at (drop b row) (p - b) k).1 (get_or-drop b row (p - b) 0 ∙ rw s e)

  -- a clause is ended by a 0, or by the row's end
  pub clause_ended : get_or row (b + length (clause_at row b)) 0 ≡ 0
  unfolding clause_at
  clause_ended = sym (get_or-drop b row (length (front lit (drop b row))) 0) ∙ front_end (drop b row)

  pub clause_fits : b ≤ length row → b + length (clause_at row b) ≤ length row
  unfolding clause_at
  clause_fits h = omega (arith, front_fits (drop b row), length-drop b row)

-- the literals of a clause by their places
pub clause_listed : (row : List ℕ) (n b : ℕ) → length (clause_at row b) ≡ n → clause_at row b ≡ map (λ (p : ℕ). get_or row p 0) (from b n)
unfolding from
clause_listed row zero b e = let z : b + length (clause_at row b) ≡ b = omega arith in clause_stops row b (rw z at (clause_ended row b))
clause_listed row (suc n) b e =
    let s = clause_goes_on row b (literal_some row b b (omega arith) (omega arith)) in
    s ∙ ap (λ (c : List ℕ). get_or row b 0 ∷ c) (rw (← add-one b) (clause_listed row n (b + 1) (omega (arith, ap length s))))

-- Where clauses start

pub starts_first : (row : List ℕ) → 0 < length row → Starts row 0
starts_first row h = record { inside = h; behind = inl refl }

-- the clause behind the one at b
pub starts_next : (row : List ℕ) (b : ℕ) → b + length (clause_at row b) + 1 < length row → Starts row (b + length (clause_at row b) + 1)
starts_next row b h =
    let s : b + length (clause_at row b) + 1 - 1 ≡ b + length (clause_at row b) = omega arith in
    record { inside = h; behind = inr (rw s (clause_ended row b)) }

-- no clause starts within another one
pub starts_apart : (row : List ℕ) (b p : ℕ) → Starts row p → b < p → b + length (clause_at row b) < p
starts_apart row b p s l = go (dec_lt (b + length (clause_at row b)) p) s.behind
  where
    go : Dec (b + length (clause_at row b) < p) → (p ≡ 0) ⊎ (get_or row (p - 1) 0 ≡ 0) → b + length (clause_at row b) < p
    go (yes h) k = h
    go (no n) (inl e) = absurd (omega arith)
    go (no n) (inr e) = absurd (literal_some row b (p - 1) (omega arith) (omega arith) e)

-- .. so one that starts before its end, if it is another one, starts before it
pub starts_before : (row : List ℕ) (b a : ℕ) → Starts row a → a < b + length (clause_at row b) + 1 → a ≢ b → a < b
starts_before row b a s h n = go (dec_lt b a)
  where
    go : Dec (b < a) → a < b
    go (yes l) = absurd (omega (arith, starts_apart row b a s l))
    go (no m) = omega arith

-- The places of a clause and its literals

pub record Placed (l : List ℕ) (x : ℕ) : Type 0 where
  pub place : ℕ
  pub inside : place < length l
  pub is : get_or l place 0 ≡ x

pub placed : {x : ℕ} (l : List ℕ) → Mem x l → Placed l x
placed [] x'' = elim x'' [ ]
placed (y ∷ l) (Memᴰ.head e) = record { place = 0; inside = omega arith; is = sym e }
placed (y ∷ l) (Memᴰ.tail m) = let p = placed l m in record { place = suc p.place; inside = omega arith; is = p.is }

pub mem_at : (l : List ℕ) (k : ℕ) → k < length l → Mem (get_or l k 0) l
mem_at [] k h = absurd (omega arith)
mem_at (y ∷ l) zero h = Memᴰ.head refl
mem_at (y ∷ l) (suc k) h = Memᴰ.tail (mem_at l k (omega arith))

pub place_in : (row : List ℕ) (b p : ℕ) → b ≤ p → p < b + length (clause_at row b) → Mem (get_or row p 0) (clause_at row b)
place_in row b p l h =
    let s : b + (p - b) ≡ p = omega arith in
    subst (λ (x : ℕ). Mem x (clause_at row b)) (clause-at row b (p - b) (omega arith) ∙ ap (λ (i : ℕ). get_or row i 0) s) (mem_at (clause_at row b) (p - b) (omega arith))

pub literal_in : (row : List ℕ) (b p : ℕ) → LiteralAt row b p → Mem (get_or row p 0) (clause_at row b)
literal_in row b p h = place_in row b p h.low h.high

pub record LiteralOf (row : List ℕ) (b x : ℕ) : Type 0 where
  pub place : ℕ
  pub at : LiteralAt row b place
  pub is : get_or row place 0 ≡ x

pub literal_of : (row : List ℕ) (b : ℕ) → Starts row b → (x : ℕ) → Mem x (clause_at row b) → LiteralOf row b x
literal_of row b s x m =
    let p = placed (clause_at row b) m in
    record { place = b + p.place; at = record { start = s; low = omega arith; high = omega (arith, p.inside) }; is = sym (clause-at row b p.place p.inside) ∙ p.is }

-- Literals that all differ, by their places

pub distinct_places : (c : List ℕ) → Distinct c → (i j : ℕ) → i < length c → j < length c → get_or c i 0 ≡ get_or c j 0 → i ≡ j
distinct_places [] d i j h k e = absurd (omega arith)
distinct_places (x ∷ c) d zero zero h k e = refl
distinct_places (x ∷ c) (more n d) zero (suc j) h k e = absurd (n (Memᴰ.cast e (mem_at c j (omega arith))))
distinct_places (x ∷ c) (more n d) (suc i) zero h k e = absurd (n (Memᴰ.cast (sym e) (mem_at c i (omega arith))))
distinct_places (x ∷ c) (more n d) (suc i) (suc j) h k e = ap suc (distinct_places c d i j (omega arith) (omega arith) e)

places_distinct : (c : List ℕ) → ((i j : ℕ) → i < length c → j < length c → get_or c i 0 ≡ get_or c j 0 → i ≡ j) → Distinct c
places_distinct [] h = empty
places_distinct (x ∷ c) h = more out (places_distinct c (λ i j k l e. omega (arith, h (suc i) (suc j) (omega arith) (omega arith) e)))
  where
    out : Mem x c → ⊥
    out m = let p = placed c m in omega (arith, h 0 (suc p.place) (omega arith) (omega (arith, p.inside)) (sym p.is))

pub clause_distinct : (row : List ℕ) (b : ℕ) → Starts row b → ((p q : ℕ) → LiteralAt row b p → LiteralAt row b q → get_or row p 0 ≡ get_or row q 0 → p ≡ q) → Distinct (clause_at row b)
clause_distinct row b s once = places_distinct (clause_at row b) apart
  where
    at : (i : ℕ) → i < length (clause_at row b) → LiteralAt row b (b + i)
    at i h = record { start = s; low = omega arith; high = omega arith }

    apart : (i j : ℕ) → i < length (clause_at row b) → j < length (clause_at row b) → get_or (clause_at row b) i 0 ≡ get_or (clause_at row b) j 0 → i ≡ j
    apart i j h k e = omega (arith, once (b + i) (b + j) (at i h) (at j k) (sym (clause-at row b i h) ∙ e ∙ clause-at row b j k))

-- The row as a list of clauses

clauses_cons : (x : ℕ) (l : List ℕ) → clauses_in (x ∷ l) ≡ front lit (x ∷ l) ∷ clauses_in (drop (suc (length (front lit (x ∷ l)))) (x ∷ l))
unfolding clauses_in front onto
clauses_cons x [] = go (ℕ_discrete x 0)
  where
    go : Dec (x ≡ 0) → clauses_in (x ∷ []) ≡ front lit (x ∷ []) ∷ clauses_in (drop (suc (length (front lit (x ∷ [])))) (x ∷ []))
    go (yes e) = rw (eq-eqb x 0 e, clauses_in, front)
    go (no n) = rw (ne_eqb x 0 n, clauses_in, front)
clauses_cons x (y ∷ l) = go (ℕ_discrete x 0) (clauses_cons y l)
  where
    go : Dec (x ≡ 0) → clauses_in (y ∷ l) ≡ front lit (y ∷ l) ∷ clauses_in (drop (suc (length (front lit (y ∷ l)))) (y ∷ l))
        → clauses_in (x ∷ y ∷ l) ≡ front lit (x ∷ y ∷ l) ∷ clauses_in (drop (suc (length (front lit (x ∷ y ∷ l)))) (x ∷ y ∷ l))
    go (yes e) ih = rw (eq-eqb x 0 e)
    go (no n) ih = rw (ne_eqb x 0 n) (ap (onto x) ih)

-- a row that is not empty has a first clause
pub clauses_some : (x : ℕ) (l : List ℕ) → (c : List ℕ) × (cs : List (List ℕ)) × (clauses_in (x ∷ l) ≡ c ∷ cs)
clauses_some x l = (front lit (x ∷ l), clauses_in (drop (suc (length (front lit (x ∷ l)))) (x ∷ l)), clauses_cons x l)

-- from a place on: the clause there, and those behind its 0
pub clauses_from : (row : List ℕ) (b : ℕ) → b < length row → clauses_in (drop b row) ≡ clause_at row b ∷ clauses_in (drop (b + length (clause_at row b) + 1) row)
unfolding clause_at
clauses_from row b h =
    let e = drop-cons row b 0 h in
    let s : b + suc (length (front lit (drop b row))) ≡ b + length (front lit (drop b row)) + 1 = omega arith in
    rw (← s, ← drop-drop (suc (length (front lit (drop b row)))) b row, e) (clauses_cons (get_or row b 0) (drop (suc b) row))

pub clauses_end : (row : List ℕ) (b : ℕ) → length row ≤ b → clauses_in (drop b row) ≡ []
unfolding clauses_in
clauses_end row b h = rw (drop_of_length-le row h)

-- where a listed clause stands, from b on
pub record StandsFrom (row : List ℕ) (b : ℕ) (c : List ℕ) : Type 0 where
  pub place : ℕ
  pub low : b ≤ place
  pub start : Starts row place
  pub is : clause_at row place ≡ c

module _ (row : List ℕ) where
  stands : (cs : List (List ℕ)) (b : ℕ) → (b < length row → Starts row b) → clauses_in (drop b row) ≡ cs → (c : List ℕ) → Memᴰ c cs → StandsFrom row b c
  stands [] b s e c m = absurd (Memᴰ.not-nil m)
  stands (d ∷ cs) b s e c m = go (dec_lt b (length row)) m (stands cs)
    where
      go : Dec (b < length row) → Memᴰ c (d ∷ cs)
          → ((i : ℕ) → (i < length row → Starts row i) → clauses_in (drop i row) ≡ cs → (f : List ℕ) → Memᴰ f cs → StandsFrom row i f) → StandsFrom row b c
      go (no n) k ih = let z : ◌≡◌ {A = ℕ} 0 1 = ap (λ (l : List (List ℕ)). elim l [ [] ↦ 0 | ◌∷◌ x y ↦ 1 ]) (sym (clauses_end row b (omega arith)) ∙ e) in absurd (omega arith)
      go (yes h) (Memᴰ.head q) ih =
          let t : clause_at row b ∷ clauses_in (drop (b + length (clause_at row b) + 1) row) ≡ d ∷ cs = sym (clauses_from row b h) ∙ e in
          let u : clause_at row b ≡ d = cc in
          record { place = b; low = omega arith; start = s h; is = u ∙ sym q }
      go (yes h) (Memᴰ.tail k) ih =
          let t : clause_at row b ∷ clauses_in (drop (b + length (clause_at row b) + 1) row) ≡ d ∷ cs = sym (clauses_from row b h) ∙ e in
          let u : clauses_in (drop (b + length (clause_at row b) + 1) row) ≡ cs = cc in
          let r = ih (b + length (clause_at row b) + 1) (starts_next row b) u c k in
          record { place = r.place; low = omega (arith, r.low); start = r.start; is = r.is }

  -- every listed clause stands at some start
  pub listed_starts : (c : List ℕ) → Memᴰ c (clauses_in row) → StandsFrom row 0 c
  listed_starts c m = stands (clauses_in row) 0 (starts_first row) refl c m

  listed : (cs : List (List ℕ)) (b : ℕ) → clauses_in (drop b row) ≡ cs → (p : ℕ) → b ≤ p → Starts row p → Memᴰ (clause_at row p) cs
  listed [] b e p l s =
      let z : ◌≡◌ {A = ℕ} 0 1 = ap (λ (k : List (List ℕ)). elim k [ [] ↦ 0 | ◌∷◌ x y ↦ 1 ]) (sym e ∙ clauses_from row b (omega (arith, s.inside))) in absurd (omega arith)
  listed (d ∷ cs) b e p l s = go (ℕ_discrete p b) (listed cs)
    where
      h : b < length row
      h = omega (arith, s.inside)

      t : clause_at row b ∷ clauses_in (drop (b + length (clause_at row b) + 1) row) ≡ d ∷ cs
      t = sym (clauses_from row b h) ∙ e

      go : Dec (p ≡ b) → ((i : ℕ) → clauses_in (drop i row) ≡ cs → (j : ℕ) → i ≤ j → Starts row j → Memᴰ (clause_at row j) cs) → Memᴰ (clause_at row p) (d ∷ cs)
      go (yes q) ih = let u : clause_at row b ≡ d = cc t in Memᴰ.head (ap (clause_at row) q ∙ u)
      go (no n) ih =
          let u : clauses_in (drop (b + length (clause_at row b) + 1) row) ≡ cs = cc t in
          Memᴰ.tail (ih (b + length (clause_at row b) + 1) u p (omega (arith, starts_apart row b p s (omega arith))) s)

  -- every start gives a listed clause
  pub starts_listed : (b : ℕ) → Starts row b → Memᴰ (clause_at row b) (clauses_in row)
  starts_listed b s = listed (clauses_in row) 0 refl b (omega arith) s
