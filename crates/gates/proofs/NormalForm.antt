-- Laws of the normal form: it has the clauses of the list, each literal once.
-- Assumes nothing.
use mathlib.Core.Path.{◌≡◌, refl, sym, ◌∙◌, ap, subst}
use mathlib.Core.Logic.{◌≢◌, ◌⊎◌, inl, inr, ◌↔◌}
use mathlib.Core.Bool.{true, false, not, true≢false}
use mathlib.Core.List.Memᴰ
use mathlib.Core.List.{List, [], ◌∷◌, ◌++◌, map, Memᴰ}
use Prim.Native.Nat.{ℕ, suc, ◌+◌, ◌-◌, ◌≤◌, ◌<◌}
use native.Mathlib.Omega.{arith}
use native.Mathlib.Decide.{dec_lt, ℕ_discrete}
use lib.IntN.{ℤ}
use lib.ListN.{length, get_or, length-map, length-append, get_or-eq_default}
use lib.Seq.{get_or-append-add}
use borrow.Author.Tests.{eq-eqb, ne_eqb}
use borrow.Table.Steps.{cases}
use Rattle.clauses.specs.Limit.{max_entries}
use Rattle.clauses.specs.Code.{code_of, negate}
use Rattle.clauses.specs.Lists.{keep}
use Rattle.clauses.specs.Clause.{Mem, Within, Same, Tautology, Present, onto, clauses_in, clauses_of}
use Rattle.clauses.specs.Listing.{tautology, literals}
use Rattle.clauses.specs.Row.{clause_at, Starts, LiteralAt, SmallEntries}
use Rattle.clauses.proofs.Lists.{not_is, is_not, mem_map, mem_of_map, keep_has, has_keep}
use Rattle.clauses.proofs.Distinct.{Distinct}
use Rattle.clauses.proofs.Clauses.{same_sym, same_trans, tautology_is, is_tautology, literals_same, literals_distinct, literals_length}
use Rattle.clauses.proofs.Rows.{clause-at, starts_listed, placed, mem_at, clauses_some, distinct_places}
use Rattle.gates.specs.Normal.{normal, row_of, normal_row, max_code, Normal}
use Rattle.gates.proofs.Normalising.{code_bound, ended_inside, normal_ignored, normal_kept}

-- The clauses of the normal form

-- a clause of the normal form, and the one it is made of
pub record NormalOf (cs : List (List ℕ)) (d : List ℕ) : Type 0 where
  pub of : List ℕ
  pub listed : Memᴰ of cs
  pub kept : ¬ Tautology of
  pub is : d ≡ literals of

pub normal_has : (cs : List (List ℕ)) (d : List ℕ) → Memᴰ d (normal cs) → NormalOf cs d
unfolding normal
normal_has cs d m =
    let o = mem_of_map literals (keep (λ c. not (tautology c)) cs) m in
    let k = keep_has (λ c. not (tautology c)) cs o.of o.in_list in
    record { of = o.of; listed = k.0; kept = λ t. true≢false (sym (is_tautology o.of t) ∙ not_is (tautology o.of) k.1); is = o.is }

pub has_normal : (cs : List (List ℕ)) (c : List ℕ) → Memᴰ c cs → ¬ Tautology c → Memᴰ (literals c) (normal cs)
unfolding normal
has_normal cs c m n = mem_map literals (has_keep (λ d. not (tautology d)) cs m (is_not (tautology c) (λ t. n (tautology_is c t))))

within_tautology : {c d : List ℕ} → Within c d → Tautology c → Tautology d
within_tautology h t = record { lit = t.lit; plain = h t.lit t.plain; inverse = h (negate t.lit) t.inverse }

normal_proper : (cs : List (List ℕ)) (d : List ℕ) → Memᴰ d (normal cs) → ¬ Tautology d
normal_proper cs d m t = let o = normal_has cs d m in o.kept (within_tautology (literals_same o.of).left (subst Tautology o.is t))

present_normal : (cs : List (List ℕ)) (c : List ℕ) → Present cs c ↔ Present (normal cs) c
present_normal cs c = (into, out)
  where
    into : Present cs c → Present (normal cs) c
    into p =
        let m = has_normal cs p.found p.listed p.proper in
        record { found = literals p.found; listed = m; proper = normal_proper cs (literals p.found) m; same = same_trans p.same (same_sym (literals_same p.found)) }

    out : Present (normal cs) c → Present cs c
    out p =
        let o = normal_has cs p.found p.listed in
        record { found = o.of; listed = o.listed; proper = o.kept; same = same_trans (subst (Same c) o.is p.same) (literals_same o.of) }

-- As one row

clause_row : (c l : List ℕ) → ((x : ℕ) → Mem x c → x ≢ 0) → clauses_in (c ++ 0 ∷ l) ≡ c ∷ clauses_in l
unfolding clauses_in onto
clause_row [] l h = refl
clause_row (x ∷ c) l h = rw (ne_eqb x 0 (h x (Memᴰ.head refl))) (ap (onto x) (clause_row c l (λ y m. h y (Memᴰ.tail m))))

row_clauses : (cs : List (List ℕ)) → ((c : List ℕ) → Memᴰ c cs → (x : ℕ) → Mem x c → x ≢ 0) → clauses_in (row_of cs) ≡ cs
unfolding clauses_in row_of
row_clauses [] h = refl
row_clauses (c ∷ cs) h = clause_row c (row_of cs) (h c (Memᴰ.head refl)) ∙ ap (λ (ds : List (List ℕ)). c ∷ ds) (row_clauses cs (λ d m. h d (Memᴰ.tail m)))

-- some clause of the list holds x
record HeldBy (cs : List (List ℕ)) (x : ℕ) : Type 0 where
  clause : List ℕ
  listed : Memᴰ clause cs
  holds : Mem x clause

onto_has : (y : ℕ) (cs : List (List ℕ)) (c : List ℕ) → Memᴰ c (onto y cs) → (x : ℕ) → Mem x c → (x ≡ y) ⊎ HeldBy cs x
unfolding onto
onto_has y [] c (Memᴰ.head e) x m = one (subst (Mem x) e m)
  where
    one : Mem x (y ∷ []) → (x ≡ y) ⊎ HeldBy [] x
    one (Memᴰ.head q) = inl q
    one (Memᴰ.tail k) = absurd (Memᴰ.not-nil k)
onto_has y [] c (Memᴰ.tail k) x m = absurd (Memᴰ.not-nil k)
onto_has y (d ∷ cs) c (Memᴰ.head e) x m = one (subst (Mem x) e m)
  where
    one : Mem x (y ∷ d) → (x ≡ y) ⊎ HeldBy (d ∷ cs) x
    one (Memᴰ.head q) = inl q
    one (Memᴰ.tail k) = inr (record { clause = d; listed = Memᴰ.head refl; holds = k })
onto_has y (d ∷ cs) c (Memᴰ.tail k) x m = inr (record { clause = c; listed = Memᴰ.tail k; holds = m })

-- the literals of a row's clauses are its entries other than 0
literal_entry : (l : List ℕ) (x : ℕ) → HeldBy (clauses_in l) x → (x ≢ 0) × Mem x l
unfolding clauses_in
literal_entry [] x h = absurd (Memᴰ.not-nil h.listed)
literal_entry (y ∷ l) x h = go (ℕ_discrete y 0) (literal_entry l x)
  where
    go : Dec (y ≡ 0) → (HeldBy (clauses_in l) x → (x ≢ 0) × Mem x l) → (x ≢ 0) × Mem x (y ∷ l)
    go (yes e) ih = first (rw (eq-eqb y 0 e, clauses_in) at h.listed) h.holds
      where
        first : Memᴰ h.clause ([] ∷ clauses_in l) → Mem x h.clause → (x ≢ 0) × Mem x (y ∷ l)
        first (Memᴰ.head q) m = absurd (Memᴰ.not-nil (subst (Mem x) q m))
        first (Memᴰ.tail k) m = let r = ih (record { clause = h.clause; listed = k; holds = m }) in (r.0, Memᴰ.tail r.1)
    go (no n) ih = more_of (onto_has y (clauses_in l) h.clause (rw (ne_eqb y 0 n, clauses_in) at h.listed) x h.holds)
      where
        more_of : (x ≡ y) ⊎ HeldBy (clauses_in l) x → (x ≢ 0) × Mem x (y ∷ l)
        more_of (inl e) = (λ z. n (sym e ∙ z), Memᴰ.head e)
        more_of (inr k) = let r = ih k in (r.0, Memᴰ.tail r.1)

-- an entry of a row that is made of clauses
entry_of : (cs : List (List ℕ)) (x : ℕ) → Mem x (row_of cs) → (x ≡ 0) ⊎ HeldBy cs x
unfolding row_of
entry_of [] x m = absurd (Memᴰ.not-nil m)
entry_of (c ∷ cs) x m = go (Memᴰ.append_cases c m) (entry_of cs x)
  where
    go : Mem x c ⊎ Mem x (0 ∷ row_of cs) → (Mem x (row_of cs) → (x ≡ 0) ⊎ HeldBy cs x) → (x ≡ 0) ⊎ HeldBy (c ∷ cs) x
    go (inl k) ih = inr (record { clause = c; listed = Memᴰ.head refl; holds = k })
    go (inr (Memᴰ.head e)) ih = inl e
    go (inr (Memᴰ.tail k)) ih = later (ih k)
      where
        later : (x ≡ 0) ⊎ HeldBy cs x → (x ≡ 0) ⊎ HeldBy (c ∷ cs) x
        later (inl e) = inl e
        later (inr h) = inr (record { clause = h.clause; listed = Memᴰ.tail h.listed; holds = h.holds })

-- the last entry is 0
last_zero : (cs : List (List ℕ)) → get_or (row_of cs) (length (row_of cs) - 1) 0 ≡ 0
unfolding row_of
last_zero [] = refl
last_zero (c ∷ cs) =
    let s : length (c ++ 0 ∷ row_of cs) - 1 ≡ length c + length (row_of cs) = rw (length-append c (0 ∷ row_of cs)) (omega arith) in
    rw (s, get_or-append-add c (0 ∷ row_of cs) (length (row_of cs)) 0) (go (row_of cs) (last_zero cs))
  where
    go : (l : List ℕ) → get_or l (length l - 1) 0 ≡ 0 → get_or (0 ∷ l) (length l) 0 ≡ 0
    go [] e = refl
    go (y ∷ l) e = let s : suc (length l) - 1 ≡ length l = omega arith in rw s at e

-- a row that ends with a 0 is that of its clauses
clauses_row : (l : List ℕ) → get_or l (length l - 1) 0 ≡ 0 → row_of (clauses_in l) ≡ l
unfolding row_of clauses_in onto
clauses_row [] z = refl
clauses_row (x ∷ []) z = let e : x ≡ 0 = z in rw (eq-eqb x 0 e) (ap (λ (y : ℕ). y ∷ []) (sym e))
clauses_row (x ∷ y ∷ l) z = go (ℕ_discrete x 0) (clauses_some y l) (clauses_row (y ∷ l) shifted)
  where
    shifted : get_or (y ∷ l) (length (y ∷ l) - 1) 0 ≡ 0
    shifted =
        let s : suc (length l) - 1 ≡ length l = omega arith in
        let u : suc (suc (length l)) - 1 ≡ suc (length l) = omega arith in
        rw s (rw u at z)

    go : Dec (x ≡ 0) → (c : List ℕ) × (cs : List (List ℕ)) × (clauses_in (y ∷ l) ≡ c ∷ cs) → row_of (clauses_in (y ∷ l)) ≡ y ∷ l → row_of (clauses_in (x ∷ y ∷ l)) ≡ x ∷ y ∷ l
    go (yes e) s ih = rw (eq-eqb x 0 e) (ap (λ (r : List ℕ). 0 ∷ r) ih ∙ ap (λ (v : ℕ). v ∷ y ∷ l) (sym e))
    go (no n) s ih = rw (ne_eqb x 0 n) (ap (λ (cs : List (List ℕ)). row_of (onto x cs)) s.2 ∙ ap (λ (r : List ℕ). x ∷ r) (sym (ap row_of s.2) ∙ ih))

normal_shorter : (cs : List (List ℕ)) → length (row_of (normal cs)) ≤ length (row_of cs)
unfolding row_of normal keep
normal_shorter [] = omega arith
normal_shorter (c ∷ cs) = cases (tautology c) (ignored (normal_shorter cs)) (kept (normal_shorter cs))
  where
    size : length (c ++ 0 ∷ row_of cs) ≡ length c + suc (length (row_of cs))
    size = length-append c (0 ∷ row_of cs)

    ignored : length (row_of (normal cs)) ≤ length (row_of cs) → tautology c ≡ true → length (row_of (normal (c ∷ cs))) ≤ length (c ++ 0 ∷ row_of cs)
    ignored ih t = rw (normal_ignored c cs t) (omega (arith, size))

    kept : length (row_of (normal cs)) ≤ length (row_of cs) → tautology c ≡ false → length (row_of (normal (c ∷ cs))) ≤ length (c ++ 0 ∷ row_of cs)
    kept ih t = rw (normal_kept c cs t) (omega (arith, size, length-append (literals c) (0 ∷ row_of (normal cs)), literals_length c))

-- The normal form of a row of entries

module _ (row : List ℤ) where
  pub normal_clauses : clauses_in (normal_row row) ≡ normal (clauses_of row)
  unfolding normal_row clauses_of
  normal_clauses = row_clauses (normal (clauses_of row)) some
    where
      some : (c : List ℕ) → Memᴰ c (normal (clauses_of row)) → (x : ℕ) → Mem x c → x ≢ 0
      some c m x k =
          let o = normal_has (clauses_of row) c m in
          (literal_entry (map code_of row) x (record { clause = o.of; listed = o.listed; holds = (literals_same o.of).left x (subst (Mem x) o.is k) })).0

  -- the same clauses are present
  pub normal_present : (c : List ℕ) → Present (clauses_of row) c ↔ Present (clauses_in (normal_row row)) c
  normal_present c = rw normal_clauses (present_normal (clauses_of row) c)

  module _ (ends : get_or (map code_of row) (length row - 1) 0 ≡ 0) where
    pub normal_length : length (normal_row row) ≤ length row
    unfolding normal_row clauses_of
    normal_length =
        let e : length (map code_of row) ≡ length row = length-map row code_of in
        let z : get_or (map code_of row) (length (map code_of row) - 1) 0 ≡ 0 = rw e ends in
        omega (arith, normal_shorter (clauses_in (map code_of row)), ap length (clauses_row (map code_of row) z))
    -- what normalising has written is the row

  normal_small : SmallEntries row → (i : ℕ) → get_or (normal_row row) i 0 ≤ max_code
  unfolding normal_row clauses_of
  normal_small s i = go (dec_lt i (length (normal_row row)))
    where
      at : (x : ℕ) → (x ≡ 0) ⊎ HeldBy (normal (clauses_of row)) x → x ≤ max_code
      at x (inl e) = omega arith
      at x (inr h) =
          let o = normal_has (clauses_of row) h.clause h.listed in
          let k = (literal_entry (map code_of row) x (record { clause = o.of; listed = o.listed; holds = (literals_same o.of).left x (subst (Mem x) o.is h.holds) })).1 in
          let p = placed (map code_of row) k in
          omega (arith, p.is, code_bound row s p.place)

      go : Dec (i < length (normal_row row)) → get_or (normal_row row) i 0 ≤ max_code
      go (yes h) = at (get_or (normal_row row) i 0) (entry_of (normal (clauses_of row)) (get_or (normal_row row) i 0) (mem_at (normal_row row) i h))
      go (no n) = omega (arith, get_or-eq_default (normal_row row) 0 {n = i} (omega arith))

  normal_listed : (b : ℕ) → Starts (normal_row row) b → NormalOf (clauses_of row) (clause_at (normal_row row) b)
  normal_listed b s = normal_has (clauses_of row) (clause_at (normal_row row) b) (rw normal_clauses at (starts_listed (normal_row row) b s))

  pub normal_distinct : (b : ℕ) → Starts (normal_row row) b → Distinct (clause_at (normal_row row) b)
  normal_distinct b s = let o = normal_listed b s in rw o.is (literals_distinct o.of)

  normal_once : (b p q : ℕ) → LiteralAt (normal_row row) b p → LiteralAt (normal_row row) b q → get_or (normal_row row) p 0 ≡ get_or (normal_row row) q 0 → p ≡ q
  normal_once b p q h k e =
      let i : b + (p - b) ≡ p = omega (arith, h.low) in
      let j : b + (q - b) ≡ q = omega (arith, k.low) in
      let u : get_or (clause_at (normal_row row) b) (p - b) 0 ≡ get_or (normal_row row) p 0 = clause-at (normal_row row) b (p - b) (omega (arith, h.low, h.high)) ∙ rw i in
      let v : get_or (clause_at (normal_row row) b) (q - b) 0 ≡ get_or (normal_row row) q 0 = clause-at (normal_row row) b (q - b) (omega (arith, k.low, k.high)) ∙ rw j in
      omega (arith, i, j, distinct_places (clause_at (normal_row row) b) (normal_distinct b h.start) (p - b) (q - b) (omega (arith, h.low, h.high)) (omega (arith, k.low, k.high)) (u ∙ e ∙ sym v))

  pub normal-row : length row ≤ max_entries → SmallEntries row → get_or (map code_of row) (length row - 1) 0 ≡ 0 → Normal (normal_row row)
  unfolding normal_row
  normal-row l s z =
      record {
        entries = omega (arith, normal_length z);
        small = normal_small s;
        ended = λ b h. ended_inside (normal_row row) (last_zero (normal (clauses_of row))) b h.inside;
        once = normal_once;
        proper = λ c m. normal_proper (clauses_of row) c (rw normal_clauses at m);
      }
