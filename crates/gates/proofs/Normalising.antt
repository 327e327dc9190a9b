-- The steps of normalising: a clause is walked literal by literal, and the literals seen are marked with a stamp.
-- Assumes nothing.
use mathlib.Core.Path.{◌≡◌, refl, sym, ◌∙◌, ap}
use mathlib.Core.Logic.{◌≢◌, ◌⊎◌, inl, inr}
use mathlib.Core.Bool.{Bool, true, false, not, cond, ◌||◌, false≢true}
use mathlib.Core.List.Memᴰ
use mathlib.Core.List.{List, [], ◌∷◌, ◌++◌, map, append-nil, append_assoc}
use Prim.Native.Nat.{ℕ, suc, ◌+◌, ◌-◌, ◌≤◌, ◌<◌}
use native.Mathlib.Numerals.{add-one}
use native.Mathlib.Omega.{arith}
use native.Mathlib.Decide.{dec_lt, ℕ_discrete}
use lib.Dec.{eqb}
use lib.IntN.{ℤ, pos}
use lib.ListN.{length, get_or, take, drop, set, length-map, length-set, length-append}
use lib.Seq.{take-take, take_at, take-suc-set, length-take-le, get_or-set_same, get_or-set_other}
use borrow.Author.Tests.{eq-eqb, ne_eqb}
use borrow.Table.Steps.{cases}
use Rattle.clauses.specs.Bytes.{front}
use Rattle.clauses.specs.Code.{code_of, negate}
use Rattle.clauses.specs.Lists.{keep}
use Rattle.clauses.specs.Clause.{Mem, Tautology, clauses_in, clauses_of}
use Rattle.clauses.specs.Listing.{mem, tautology, literals}
use Rattle.clauses.specs.Row.{clause_at, SmallEntries}
use Rattle.clauses.proofs.Lists.{keep_append}
use Rattle.clauses.proofs.Codes.{negate_negate, negate_other}
use Rattle.clauses.proofs.Clauses.{mem_in, in_mem, tautology_is, is_tautology, literals_length}
use Rattle.clauses.proofs.Signed.{code_entry, code_small}
use Rattle.clauses.proofs.Rows.{clause_fits, clause_stops, clause_goes_on, literal_some, clauses_from, clauses_end}
use Rattle.gates.specs.Normal.{normal, row_of, normal_row, Older, gathered_of, gather_on}

-- a run as a part
pub front_part : (f : ℕ → Bool) (l : List ℕ) → take (length (front f l)) l ≡ front f l
unfolding front
front_part f [] = refl
front_part f (x ∷ l) = cases (f x) (λ t. rw (t, front) (ap (λ (c : List ℕ). x ∷ c) (front_part f l))) (λ t. rw (t, front))

-- Codes of entries

pub code_bound : (row : List ℤ) → SmallEntries row → (i : ℕ) → get_or (map code_of row) i 0 ≤ 2049
code_bound row h i = omega (arith, code_entry row i, code_small (get_or row i (pos 0)) 1024 (h i))

-- a row whose last entry is 0: every clause is ended by a 0
pub ended_inside : (l : List ℕ) → get_or l (length l - 1) 0 ≡ 0 → (b : ℕ) → b < length l → b + length (clause_at l b) < length l
ended_inside l z b h = go (dec_lt (b + length (clause_at l b)) (length l))
  where
    go : Dec (b + length (clause_at l b) < length l) → b + length (clause_at l b) < length l
    go (yes k) = k
    go (no n) = absurd (literal_some l b (length l - 1) (omega arith) (omega (arith, clause_fits l b (omega arith))) z)

-- Marks

-- the marks with the stamp are those of the literals walked
pub record Stamped (seen : List ℕ) (stamp : ℕ) (walked : List ℕ) : Type 0 where
  pub old : (x : ℕ) → get_or seen x 0 ≤ stamp
  pub marked : (x : ℕ) → get_or seen x 0 ≡ stamp → Mem x walked
  pub has : (x : ℕ) → Mem x walked → get_or seen x 0 ≡ stamp

stamped_none : (seen : List ℕ) (stamp : ℕ) → Older seen stamp → Stamped seen stamp []
stamped_none seen stamp h =
    record { old = λ x. omega (arith, h x); marked = λ x e. absurd (omega (arith, h x, e)); has = λ x m. absurd (Memᴰ.not-nil m) }

mem_snoc : (x : ℕ) (w : List ℕ) {y : ℕ} → Mem y (w ++ (x ∷ [])) → Mem y w ⊎ (y ≡ x)
mem_snoc x w {y} m = go (Memᴰ.append_cases w m)
  where
    go : Mem y w ⊎ Mem y (x ∷ []) → Mem y w ⊎ (y ≡ x)
    go (inl k) = inl k
    go (inr k) = inr (Memᴰ.eq_of_singleton k)

snoc_last : (x : ℕ) (w : List ℕ) → Mem x (w ++ (x ∷ []))
snoc_last x w = Memᴰ.append_right w (Memᴰ.head refl)

module _ {seen : List ℕ} {stamp : ℕ} {walked : List ℕ} (s : Stamped seen stamp walked) (x : ℕ) where
  stamped_more : x < length seen → Stamped (set seen x stamp) stamp (walked ++ (x ∷ []))
  stamped_more h = record { old = λ y. old y (ℕ_discrete y x); marked = λ y e. marked y e (ℕ_discrete y x); has = λ y m. has y (mem_snoc x walked m) (ℕ_discrete y x) }
    where
      here : get_or (set seen x stamp) x 0 ≡ stamp
      here = get_or-set_same seen x stamp 0 h

      old : (y : ℕ) → Dec (y ≡ x) → get_or (set seen x stamp) y 0 ≤ stamp
      old y (yes e) = rw e (omega (arith, here))
      old y (no n) = rw (get_or-set_other seen x y stamp 0 n) (s.old y)

      marked : (y : ℕ) → get_or (set seen x stamp) y 0 ≡ stamp → Dec (y ≡ x) → Mem y (walked ++ (x ∷ []))
      marked y e (yes i) = Memᴰ.cast i (snoc_last x walked)
      marked y e (no n) = Memᴰ.append_left (x ∷ []) (s.marked y (sym (get_or-set_other seen x y stamp 0 n) ∙ e))

      has : (y : ℕ) → Mem y walked ⊎ (y ≡ x) → Dec (y ≡ x) → get_or (set seen x stamp) y 0 ≡ stamp
      has y k (yes i) = rw i here
      has y (inl m) (no n) = get_or-set_other seen x y stamp 0 n ∙ s.has y m
      has y (inr i) (no n) = absurd (n i)

pub stamped_old : {seen : List ℕ} {stamp : ℕ} {walked : List ℕ} → Stamped seen stamp walked → Older seen (stamp + 1)
stamped_old s x = omega (arith, s.old x)

-- A clause is ignored

proper_more : (w : List ℕ) (x : ℕ) → ¬ Tautology w → ¬ Mem (negate x) w → ¬ Tautology (w ++ (x ∷ []))
proper_more w x n m t = go (mem_snoc x w t.plain) (mem_snoc x w t.inverse)
  where
    go : Mem t.lit w ⊎ (t.lit ≡ x) → Mem (negate t.lit) w ⊎ (negate t.lit ≡ x) → ⊥
    go (inl p) (inl q) = n (record { lit = t.lit; plain = p; inverse = q })
    go (inl p) (inr q) = m (Memᴰ.cast (ap negate (sym q) ∙ negate_negate t.lit) p)
    go (inr p) (inl q) = m (Memᴰ.cast (ap negate (sym p)) q)
    go (inr p) (inr q) = negate_other t.lit (q ∙ sym p)

-- whether a clause is ignored, with one literal more
tautology_more : (w : List ℕ) (x : ℕ) → mem (negate x) w || tautology w ≡ tautology (w ++ (x ∷ []))
tautology_more w x = cases (mem (negate x) w) (λ m. rw m (sym (is_tautology _ (met m)))) (λ m. rw m (cases (tautology w) (λ t. t ∙ sym (is_tautology _ (kept (tautology_is w t)))) (λ t. t ∙ sym (none m t))))
  where
    met : mem (negate x) w ≡ true → Tautology (w ++ (x ∷ []))
    met m = record { lit = x; plain = snoc_last x w; inverse = Memᴰ.append_left (x ∷ []) (mem_in (negate x) w m) }

    kept : Tautology w → Tautology (w ++ (x ∷ []))
    kept t = record { lit = t.lit; plain = Memᴰ.append_left (x ∷ []) t.plain; inverse = Memᴰ.append_left (x ∷ []) t.inverse }

    none : mem (negate x) w ≡ false → tautology w ≡ false → tautology (w ++ (x ∷ [])) ≡ false
    none m t =
        cases (tautology (w ++ (x ∷ [])))
        (λ u. absurd (proper_more w x (λ y. false≢true (sym t ∙ is_tautology w y)) (λ y. false≢true (sym m ∙ in_mem w y)) (tautology_is (w ++ (x ∷ [])) u)))
        (λ u. u)

-- The literals of a clause, each once

keep_out : (x y : ℕ) → x ≡ y → keep (λ z. not (eqb x z)) (y ∷ []) ≡ []
unfolding keep
keep_out x y e = rw (eq-eqb x y e, keep)

keep_in : (x y : ℕ) → x ≢ y → keep (λ z. not (eqb x z)) (y ∷ []) ≡ y ∷ []
unfolding keep
keep_in x y n = rw (ne_eqb x y n, keep)

literals_new : (w : List ℕ) (x : ℕ) → ¬ Mem x w → literals (w ++ (x ∷ [])) ≡ literals w ++ (x ∷ [])
unfolding literals keep
literals_new [] x n = refl
literals_new (y ∷ w) x n =
    ap (λ (c : List ℕ). y ∷ keep (λ z. not (eqb y z)) c) (literals_new w x (λ m. n (Memᴰ.tail m)))
    ∙ ap (λ (c : List ℕ). y ∷ c) (keep_append (λ z. not (eqb y z)) (literals w) (x ∷ []) ∙ ap (λ (c : List ℕ). keep (λ z. not (eqb y z)) (literals w) ++ c) (keep_in y x (λ e. n (Memᴰ.head (sym e)))))

literals_seen : (w : List ℕ) (x : ℕ) → Mem x w → literals (w ++ (x ∷ [])) ≡ literals w
unfolding literals
literals_seen [] x m = absurd (Memᴰ.not-nil m)
literals_seen (y ∷ w) x m = cases (mem x w) (λ t. ap (λ (c : List ℕ). y ∷ keep (λ z. not (eqb y z)) c) (literals_seen w x (mem_in x w t))) (λ t. here t m)
  where
    here : mem x w ≡ false → Mem x (y ∷ w) → y ∷ keep (λ z. not (eqb y z)) (literals (w ++ (x ∷ []))) ≡ y ∷ keep (λ z. not (eqb y z)) (literals w)
    here t (Memᴰ.head e) =
        ap (λ (c : List ℕ). y ∷ keep (λ z. not (eqb y z)) c) (literals_new w x (λ k. false≢true (sym t ∙ in_mem w k)))
        ∙ ap (λ (c : List ℕ). y ∷ c) (keep_append (λ z. not (eqb y z)) (literals w) (x ∷ []) ∙ ap (λ (c : List ℕ). keep (λ z. not (eqb y z)) (literals w) ++ c) (keep_out y x (sym e)) ∙ append-nil (keep (λ z. not (eqb y z)) (literals w)))
    here t (Memᴰ.tail k) = absurd (false≢true (sym t ∙ in_mem w k))

-- The walk along a clause

-- a mark tells whether a literal was walked
mark_tells : {seen : List ℕ} {stamp : ℕ} {walked : List ℕ} → Stamped seen stamp walked → (x : ℕ) → eqb (get_or seen x 0) stamp ≡ mem x walked
mark_tells {seen} {stamp} {walked} s x =
    cases (mem x walked) (λ m. eq-eqb _ stamp (s.has x (mem_in x walked m)) ∙ sym m) (λ m. ne_eqb _ stamp (λ e. false≢true (sym m ∙ in_mem walked (s.marked x e))) ∙ sym m)

-- the literals w of the clause at place b are walked, and written at place n
pub record Walking (l : List ℕ) (b n size stamp : ℕ) (codes₀ w codes seen : List ℕ) : Type 0 where
  pub goes : clause_at l b ≡ w ++ clause_at l (b + length w)
  pub room : length seen ≡ size
  pub space : length codes ≡ length codes₀
  pub marks : Stamped seen stamp w
  pub written : take (n + length (literals w)) codes ≡ take n codes₀ ++ literals w

pub walking_none : {l : List ℕ} {b n size stamp : ℕ} {codes₀ seen : List ℕ} → length seen ≡ size → Older seen stamp → Walking l b n size stamp codes₀ [] codes₀ seen
unfolding literals
walking_none {l} {b} {n} {stamp = stamp} {codes₀ = codes₀} {seen = seen} r o =
    record {
      goes = ap (clause_at l) (omega arith);
      room = r;
      space = refl;
      marks = stamped_none seen stamp o;
      written = rw (append-nil (take n codes₀)) (ap (λ (i : ℕ). take i codes₀) {x = n + length (literals [])} {y = n} (omega arith));
    }

module _ {l : List ℕ} {b n size stamp : ℕ} {codes₀ w codes seen : List ℕ} (k : Walking l b n size stamp codes₀ w codes seen) where
  abbrev put : ℕ
  put = n + length (literals w)

  -- one literal more
  module _ (x : ℕ) (at : x ≡ get_or l (b + length w) 0) (some : x ≢ 0) (small : x < size) where
    abbrev w' : List ℕ
    w' = w ++ (x ∷ [])

    size_more : length w' ≡ length w + 1
    size_more = length-append w (x ∷ [])

    pub gathered_more : (gather_on x stamp (record { gathered = gathered_of b n w; codes = codes; seen = seen })).gathered ≡ gathered_of b n w'
    gathered_more = λ i. record { end = ends i; put = puts i; ignored = ignores i }
      where
        ends : b + length w + 1 ≡ b + length w'
        ends = omega (arith, size_more)

        puts : cond (eqb (get_or seen x 0) stamp) put (put + 1) ≡ n + length (literals w')
        puts =
            rw (mark_tells k.marks x)
            (cases (mem x w) (λ m. rw (m, literals_seen w x (mem_in x w m))) (λ m. rw (m, literals_new w x (λ y. false≢true (sym m ∙ in_mem w y)), length-append (literals w) (x ∷ [])) (omega arith)))

        ignores : eqb (get_or seen (negate x) 0) stamp || tautology w ≡ tautology w'
        ignores = rw (mark_tells k.marks (negate x)) (tautology_more w x)

    pub walking_more : put < length codes → Walking l b n size stamp codes₀ w' (gather_on x stamp (record { gathered = gathered_of b n w; codes = codes; seen = seen })).codes (set seen x stamp)
    walking_more fits =
        record {
          goes = k.goes ∙ ap (λ (c : List ℕ). w ++ c) (clause_goes_on l (b + length w) (λ e. some (at ∙ e)) ∙ rw (← at)) ∙ sym (append_assoc w (x ∷ []) (clause_at l (b + length w + 1))) ∙ ap (λ (m : ℕ). w' ++ clause_at l m) (omega (arith, size_more));
          room = length-set seen x stamp ∙ k.room;
          space = rw (mark_tells k.marks x) (cases (mem x w) (λ m. rw m k.space) (λ m. rw m (length-set codes put x ∙ k.space)));
          marks = stamped_more k.marks x (omega (arith, k.room));
          written = rw (mark_tells k.marks x) (cases (mem x w) (λ m. rw (m, literals_seen w x (mem_in x w m)) k.written) (λ m. rw m (new (λ y. false≢true (sym m ∙ in_mem w y)))));
        }
      where
        new : ¬ Mem x w → take (n + length (literals w')) (set codes put x) ≡ take n codes₀ ++ literals w'
        new d =
            let f = literals_new w x d in
            let s : n + length (literals w') ≡ suc put = ap (λ (c : List ℕ). n + length c) f ∙ rw (length-append (literals w) (x ∷ [])) (omega arith) in
            ap (λ (m : ℕ). take m (set codes put x)) s ∙ take-suc-set codes put x fits ∙ ap (λ (c : List ℕ). c ++ (x ∷ [])) k.written ∙ append_assoc (take n codes₀) (literals w) (x ∷ []) ∙ ap (λ (c : List ℕ). take n codes₀ ++ c) (sym f)

  -- at the clause's end
  pub walking_end : get_or l (b + length w) 0 ≡ 0 → w ≡ clause_at l b
  walking_end e = sym (k.goes ∙ ap (λ (c : List ℕ). w ++ c) (clause_stops l (b + length w) e) ∙ append-nil w)

-- The clauses of a row

pub normal_ignored : (c : List ℕ) (cs : List (List ℕ)) → tautology c ≡ true → normal (c ∷ cs) ≡ normal cs
unfolding normal keep
normal_ignored c cs t = rw (t, keep)

pub normal_kept : (c : List ℕ) (cs : List (List ℕ)) → tautology c ≡ false → normal (c ∷ cs) ≡ literals c ∷ normal cs
unfolding normal keep
normal_kept c cs t = rw (t, keep)

-- the clauses from place b on are still to be written
pub record Normalising (row : List ℤ) (size space n b : ℕ) (codes seen : List ℕ) : Type 0 where
  pub behind : n ≤ b
  pub inside : b ≤ length row
  pub marks : length seen ≡ size
  pub older : Older seen (b + 1)
  pub room : length codes ≡ space
  pub fits : length row ≤ space
  pub written : normal_row row ≡ take n codes ++ row_of (normal (clauses_in (drop b (map code_of row))))

pub normalising_none : {row : List ℤ} {size space : ℕ} {codes seen : List ℕ} → length seen ≡ size → length codes ≡ space → length row ≤ space → Older seen 1 → Normalising row size space 0 0 codes seen
unfolding normal_row clauses_of
normalising_none m r f o = record { behind = omega arith; inside = omega arith; marks = m; older = o; room = r; fits = f; written = refl }

module _ {row : List ℤ} {size space n b : ℕ} {codes seen : List ℕ} (k : Normalising row size space n b codes seen) where
  abbrev clause : List ℕ
  clause = clause_at (map code_of row) b

  abbrev end : ℕ
  end = b + length clause

  module _ (h : b < length row) where
    rest : clauses_in (drop b (map code_of row)) ≡ clause ∷ clauses_in (drop (end + 1) (map code_of row))
    rest = clauses_from (map code_of row) b (omega (arith, length-map row code_of))

    pub within_row : get_or (map code_of row) (length row - 1) 0 ≡ 0 → end < length row
    within_row z =
        let s = length-map row code_of in
        omega (arith, ended_inside (map code_of row) (rw s z) b (omega arith))

    module _ (inside : end < length row) (codes' : List ℕ) {seen' : List ℕ} (m : length seen' ≡ size) (r : length codes' ≡ space) (o : Older seen' (b + 1 + 1))
        (w : take (n + length (literals clause)) codes' ≡ take n codes ++ literals clause) where
      pub normalising_ignored : tautology clause ≡ true → Normalising row size space n (end + 1) codes' seen'
      normalising_ignored t =
          record {
            behind = omega (arith, k.behind);
            inside = omega arith;
            marks = m;
            older = λ x. omega (arith, o x);
            room = r;
            fits = k.fits;
            written =
                k.written
                ∙ ap (λ (ds : List (List ℕ)). take n codes ++ row_of ds) (ap normal rest ∙ normal_ignored clause (clauses_in (drop (end + 1) (map code_of row))) t)
                ∙ ap (λ (c : List ℕ). c ++ row_of (normal (clauses_in (drop (end + 1) (map code_of row))))) (sym kept);
          }
        where
          -- what was put before is not touched
          kept : take n codes' ≡ take n codes
          kept =
              sym (take-take n (n + length (literals clause)) codes' (omega arith)) ∙ ap (take n) w ∙ take_at (take n codes) (literals clause) n (length-take-le n codes (omega (arith, k.behind, k.inside, k.room, k.fits)))

      pub normalising_kept : tautology clause ≡ false → Normalising row size space (n + length (literals clause) + 1) (end + 1) (set codes' (n + length (literals clause)) 0) seen'
      unfolding row_of
      normalising_kept t =
          record {
            behind = omega (arith, k.behind, literals_length clause);
            inside = omega arith;
            marks = m;
            older = λ x. omega (arith, o x);
            room = length-set codes' put 0 ∙ r;
            fits = k.fits;
            written =
                k.written
                ∙ ap (λ (ds : List (List ℕ)). take n codes ++ row_of ds) (ap normal rest ∙ normal_kept clause later t)
                ∙ sym (append_assoc (take n codes) (literals clause) (0 ∷ row_of (normal later)))
                ∙ sym (append_assoc (take n codes ++ literals clause) (0 ∷ []) (row_of (normal later)))
                ∙ ap (λ (c : List ℕ). c ++ row_of (normal later)) (sym ended);
          }
        where
          put : ℕ
          put = n + length (literals clause)

          later : List (List ℕ)
          later = clauses_in (drop (end + 1) (map code_of row))

          ended : take (put + 1) (set codes' put 0) ≡ (take n codes ++ literals clause) ++ (0 ∷ [])
          ended =
              ap (λ (i : ℕ). take i (set codes' put 0)) (add-one put) ∙ take-suc-set codes' put 0 (omega (arith, k.behind, literals_length clause, r, k.fits)) ∙ ap (λ (c : List ℕ). c ++ (0 ∷ [])) w

  module _ (h : length row ≤ b) where
    pub normalised : take n codes ≡ normal_row row
    unfolding row_of normal keep
    normalised =
        sym (k.written ∙ ap (λ (cs : List (List ℕ)). take n codes ++ row_of (normal cs)) (clauses_end (map code_of row) b (omega (arith, length-map row code_of))) ∙ append-nil (take n codes))

    pub normalised_count : n ≡ length (normal_row row)
    normalised_count = sym (length-take-le n codes (omega (arith, k.behind, k.inside, k.room, k.fits))) ∙ ap length normalised
