-- Clauses none of whose leads has changed: what a round draws from them the round before has drawn.
-- Assumes nothing.
use mathlib.Core.Path.{◌≡◌, refl, sym, ◌∙◌, ap, subst, subst⁻¹}
use mathlib.Core.Logic.{◌≢◌, ◌⊎◌, inl, inr, ⊎_map, ⊎_elim}
use mathlib.Core.Bool.{Bool, true, false≢true, not}
use mathlib.Core.List.Memᴰ
use mathlib.Core.List.{List, [], ◌∷◌}
use Prim.Native.Nat.{ℕ, ◌+◌, ◌<◌}
use native.Mathlib.Decide.{ℕ_discrete}
use lib.ListN.{length, get_or}
use Rattle.clauses.specs.Code.{negate, net}
use Rattle.clauses.specs.Clause.{Mem}
use Rattle.clauses.proofs.Lists.{in_first}
use Rattle.clauses.proofs.Codes.{negate_negate}
use Rattle.clauses.specs.Sign.{flip}
use Rattle.gates.specs.Gate.{Input}
use Rattle.gates.specs.Found.{is_and, is_select_next, is_select_after}
use Rattle.clauses.specs.Row.{clause_at, Starts, LiteralAt, around}
use Rattle.clauses.specs.Row.{start_of}
use Rattle.clauses.proofs.Rows.{clause-at, mem_at, literal_in, literal_of}
use Rattle.rules.specs.Answer.{lead_of}
use Rattle.closure.specs.Making.{Kernel, Making, fresh, JoinedBy}
use Rattle.closure.specs.Passing.{UnitJoined, ClauseJoined, AndJoined}
use Rattle.closure.specs.Matching.{HasLead, Alike}
use Rattle.closure.specs.Xors.{packed, rest_at, key_at, sum_at}
use Rattle.closure.specs.Marked.{Marked}
use Rattle.closure.specs.RowJoined.{SideAt, Turned}
use Rattle.closure.specs.Changes.{Moved, ConstantAt, ChangedIn, TiedAt, ReadAt}
use Rattle.closure.specs.declared.tally.Tally.{Tally}
use Rattle.closure.proofs.OddNets.{odd_nets_alike, odd_sign_alike}
use Rattle.closure.proofs.Searches.{lead_false, lead_true, lead_negate}
use Rattle.closure.proofs.XorPlaces.{others_at}
use Rattle.clauses.proofs.Starts.{around_literal}

-- each of the list's elements has the one property, or some element has the other
pub all_or_some : {P Q : ℕ → Type 0} → ((x : ℕ) → P x ⊎ Q x) → (l : List ℕ) → ((x : ℕ) → Mem x l → P x) ⊎ ((x : ℕ) × Mem x l × Q x)
all_or_some d [] = inl (λ x m. elim m [ ])
all_or_some {P} {Q} d (y ∷ l) = go (d y) (all_or_some d l)
  where
    go : P y ⊎ Q y → ((x : ℕ) → Mem x l → P x) ⊎ ((x : ℕ) × Mem x l × Q x) → ((x : ℕ) → Mem x (y ∷ l) → P x) ⊎ ((x : ℕ) × Mem x (y ∷ l) × Q x)
    go (inr q) r = inr (y, in_first, q)
    go (inl p) (inr (x, m, q)) = inr (x, Memᴰ.tail m, q)
    go (inl p) (inl h) = inl (λ x m. all x m)
      where
        all : (x : ℕ) → Mem x (y ∷ l) → P x
        all x (Memᴰ.head e) = subst⁻¹ P e p
        all x (Memᴰ.tail m) = h x m

-- the lead of x is the one before
abbrev pub Kept : List ℕ → List ℕ → ℕ → Type 0
Kept older old x = lead_of older x ≡ lead_of old x

-- no lead of the clause at b has changed
pub record Unchanged (row older old : List ℕ) (b : ℕ) : Type 0 where
  pub kept : (x : ℕ) → Mem x (clause_at row b) → Kept older old x

pub unchanged_or_changed : (row older old : List ℕ) (b : ℕ) → Starts row b → Unchanged row older old b ⊎ ChangedIn (LiteralAt row) row older old b
unchanged_or_changed row older old b s =
    ⊎_map (λ h. record { kept = h }) changed
    (all_or_some {P = Kept older old} {Q = Moved older old} (λ x. moved x (ℕ_discrete (lead_of older x) (lead_of old x))) (clause_at row b))
  where
    moved : (x : ℕ) → Dec (Kept older old x) → Kept older old x ⊎ Moved older old x
    moved x (yes e) = inl e
    moved x (no n) = inr n

    changed : (x : ℕ) × Mem x (clause_at row b) × Moved older old x → ChangedIn (LiteralAt row) row older old b
    changed (x, m, n) = let o = literal_of row b s x m in record { place = o.place; at = o.at; moved = subst⁻¹ (Moved older old) o.is n }

-- no lead of the clause at b has become a constant
pub record Variable (row older old : List ℕ) (b : ℕ) : Type 0 where
  pub kept : (x : ℕ) → Mem x (clause_at row b) → net (lead_of old x) ≡ 0 → Kept older old x

pub variable_or_constant : (row older old : List ℕ) (b : ℕ) → Starts row b → Variable row older old b ⊎ ChangedIn (ConstantAt row old) row older old b
variable_or_constant row older old b s =
    ⊎_map (λ h. record { kept = λ x m z. ⊎_elim (λ n. absurd (n z)) (λ k. k) (h x m) }) changed
    (all_or_some {P = Stays} {Q = Goes} (λ x. test x (ℕ_discrete (net (lead_of old x)) 0) (ℕ_discrete (lead_of older x) (lead_of old x))) (clause_at row b))
  where
    Stays : ℕ → Type 0
    Stays x = (net (lead_of old x) ≢ 0) ⊎ Kept older old x

    Goes : ℕ → Type 0
    Goes x = (net (lead_of old x) ≡ 0) × Moved older old x

    test : (x : ℕ) → Dec (net (lead_of old x) ≡ 0) → Dec (Kept older old x) → Stays x ⊎ Goes x
    test x (no n) d = inl (inl n)
    test x (yes z) (yes e) = inl (inr e)
    test x (yes z) (no m) = inr (z, m)

    changed : (x : ℕ) × Mem x (clause_at row b) × Goes x → ChangedIn (ConstantAt row old) row older old b
    changed (x, m, (z, k)) =
        let o = literal_of row b s x m in
        record {
          place = o.place;
          at = record { at = o.at; constant = ap (λ (y : ℕ). net (lead_of old y)) o.is ∙ z };
          moved = subst⁻¹ (Moved older old) o.is k;
        }

-- no lead of the inputs of the AND with its output at place p of the clause at b has changed
pub record InputsUnchanged (row older old : List ℕ) (b p : ℕ) : Type 0 where
  pub kept : (q : ℕ) → LiteralAt row b q → q ≢ p → Kept older old (get_or row q 0)

pub inputs_unchanged_or_changed : {cs : List (List ℕ)} {row marks : List ℕ} (older old : List ℕ) → Marked cs row marks → (b p : ℕ) → LiteralAt row b p
    → is_and (get_or marks p 0) ≡ true → InputsUnchanged row older old b p ⊎ ChangedIn (TiedAt row marks) row older old b
inputs_unchanged_or_changed {row = row} {marks = marks} older old marked b p a mark =
    ⊎_map unchanged changed (all_or_some {P = Stays} {Q = Goes} (λ x. test x (ℕ_discrete x (get_or row p 0)) (ℕ_discrete (lead_of older x) (lead_of old x))) (clause_at row b))
  where
    Stays : ℕ → Type 0
    Stays x = (x ≡ get_or row p 0) ⊎ Kept older old x

    Goes : ℕ → Type 0
    Goes x = (x ≢ get_or row p 0) × Moved older old x

    test : (x : ℕ) → Dec (x ≡ get_or row p 0) → Dec (Kept older old x) → Stays x ⊎ Goes x
    test x (yes e) d = inl (inl e)
    test x (no n) (yes e) = inl (inr e)
    test x (no n) (no m) = inr (n, m)

    unchanged : ((x : ℕ) → Mem x (clause_at row b) → Stays x) → InputsUnchanged row older old b p
    unchanged h = record { kept = λ q l n. ⊎_elim (λ e. absurd (n (marked.literal_once b q p l a e))) (λ k. k) (h (get_or row q 0) (literal_in row b q l)) }

    changed : (x : ℕ) × Mem x (clause_at row b) × Goes x → ChangedIn (TiedAt row marks) row older old b
    changed (x, m, (n, k)) =
        let o = literal_of row b a.start x m in
        record {
          place = o.place;
          at = record { at = o.at; by = inl (record { output = p; output-at = a; mark = mark; apart = λ e. n (sym o.is ∙ ap (λ (i : ℕ). get_or row i 0) (sym e)) }) };
          moved = subst⁻¹ (Moved older old) o.is k;
        }

module _ (older old : List ℕ) where
  pub kernel_before : (x y : ℕ) → Kept older old x → Kept older old y → Kernel old x y → Kernel older x y
  kernel_before x y e f k = e ∙ k ∙ sym f

  kept_false : Kept older old 0
  kept_false = lead_false older ∙ sym (lead_false old)

  pub kept_true : Kept older old 1
  kept_true = lead_true older ∙ sym (lead_true old)

  kept_inverse : (x : ℕ) → Kept older old x → Kept older old (negate x)
  kept_inverse x e = lead_negate older x ∙ ap negate e ∙ sym (lead_negate old x)

  kept_negate : (x : ℕ) → Kept older old (negate x) → Kept older old x
  kept_negate x e = subst (Kept older old) (negate_negate x) (kept_inverse (negate x) e)

-- the other literals of an XOR's clause are of the clause
pub rest_in : (row : List ℕ) (b p x : ℕ) → Mem x (rest_at row b p) → Mem x (clause_at row b)
unfolding rest_at
rest_in row b p x m = go (others_at row p b (length (clause_at row b)) x m)
  where
    go : (i : ℕ) × (i < length (clause_at row b)) × (x ≡ get_or row (b + i) 0) → Mem x (clause_at row b)
    go (i, h, e) = subst⁻¹ (λ (y : ℕ). Mem y (clause_at row b)) (e ∙ sym (clause-at row b i h)) (mem_at (clause_at row b) i h)

-- what was joined then is joined now
pub joined_before : {cs : List (List ℕ)} {old new : List ℕ} {t : Tally} → Making cs old new t → (x y : ℕ) → JoinedBy old (fresh 0) x y → JoinedBy new t x y
joined_before making x y (inl c) = absurd (false≢true c)
joined_before making x y (inr k) = inr (making.still x y k)

-- Rules 1 and 2

module _ {row older old : List ℕ} {b : ℕ} (variable : Variable row older old b) {cs : List (List ℕ)} {new : List ℕ} {t : Tally} (making : Making cs old new t) where
  false_before : (x : ℕ) → Mem x (clause_at row b) → Kernel old x 0 → Kernel older x 0
  false_before x m h = kernel_before older old x 0 (variable.kept x m (ap net (h ∙ lead_false old))) (kept_false older old) h

  unit_unchanged : UnitJoined row older old (fresh 0) b → UnitJoined row old new t b
  unit_unchanged u =
      record {
        unit = λ k m h. joined_before making k 1 (u.unit k m (λ x i n. false_before x i (h x i n)));
        empty_clause = λ z. joined_before making 1 0 (u.empty_clause z);
      }

  pub clause_unchanged : (marks : List ℕ) → ClauseJoined row marks older old (fresh 0) b → ClauseJoined row marks old new t b
  clause_unchanged marks j = (unit_unchanged j.0, λ i. joined_before making _ _ (j.1 i))

-- Rule 3

pub and_unchanged : {cs : List (List ℕ)} {row older old new : List ℕ} {t : Tally} {b p : ℕ} → Making cs old new t → Starts row b → InputsUnchanged row older old b p
    → AndJoined row older old (fresh 0) b p → AndJoined row old new t b p
and_unchanged {row = row} {older = older} {old = old} {b = b} {p = p} making start unchanged j =
    record {
      and_false = λ r i h. joined_before making _ 0 (j.and_false r i (kernel_before older old r 0 (kept i) (kept_false older old) h));
      and_inverses = λ r s i l h. joined_before making _ 0 (j.and_inverses r s i l (kernel_before older old r (negate s) (kept i) (inverse l) h));
      and_input = λ r i h. joined_before making _ r (j.and_input r i (λ s l. inputs r s i l (h s l)));
    }
  where
    In : ℕ → Type 0
    In = Input (clause_at row b) (get_or row p 0)

    inverse : {r : ℕ} → In r → Kept older old (negate r)
    inverse {r} i =
        let o = literal_of row b start (negate r) i.inverse in
        subst (Kept older old) o.is (unchanged.kept o.place o.at (λ e. i.other (sym o.is ∙ ap (λ (k : ℕ). get_or row k 0) e)))

    kept : {r : ℕ} → In r → Kept older old r
    kept {r} i = kept_negate older old r (inverse i)

    inputs : (r s : ℕ) → In r → In s → Kernel old s 1 ⊎ Kernel old s r → Kernel older s 1 ⊎ Kernel older s r
    inputs r s i l = ⊎_map (kernel_before older old s 1 (kept l) (kept_true older old)) (kernel_before older old s r (kept l) (kept i))

module _ {row older old : List ℕ} {b : ℕ} (unchanged : Unchanged row older old b) where
  -- Rules 5 and 6

  module _ (p : ℕ) where
    rest_kept : (x : ℕ) → Mem x (rest_at row b p) → Kept older old x
    rest_kept x m = unchanged.kept x (rest_in row b p x m)

    pub key_before : key_at older row b p ≡ key_at old row b p
    unfolding key_at
    key_before = ap packed (odd_nets_alike (lead_of older) (lead_of old) (rest_at row b p) rest_kept)

    pub sum_before : sum_at older row b p ≡ sum_at old row b p
    unfolding sum_at
    sum_before = ap (λ (s : Bool). flip (not s) (get_or row p 0)) (odd_sign_alike (lead_of older) (lead_of old) (rest_at row b p) rest_kept)

-- Rule 4

module _ {row older old : List ℕ} {p x : ℕ} (unchanged : InputsUnchanged row older old (start_of row p) p) where
  lead_before : HasLead row old p x → HasLead row older p x
  lead_before h = record { place = h.place; at = h.at; apart = h.apart; lead = unchanged.kept h.place h.at h.apart ∙ h.lead }

  lead_after : HasLead row older p x → HasLead row old p x
  lead_after h = record { place = h.place; at = h.at; apart = h.apart; lead = sym (unchanged.kept h.place h.at h.apart) ∙ h.lead }

pub alike_before : {row older old : List ℕ} {p q : ℕ} → InputsUnchanged row older old (start_of row p) p → InputsUnchanged row older old (start_of row q) q → Alike row old p q → Alike row older p q
alike_before c e a =
    record { left = λ x (h, n). (lead_before e (a.left x (lead_after c h, n)).0, n); right = λ x (h, n). (lead_before c (a.right x (lead_after e h, n)).0, n) }

-- Rules 7 and 8

-- neither the lead of the side's select nor that of its literal t has changed
pub record SideUnchanged (older old : List ℕ) (c u : ℕ) : Type 0 where
  pub select : Kept older old c
  pub then : Kept older old u

pub side_unchanged_or_changed : {cs : List (List ℕ)} {row marks : List ℕ} (older old : List ℕ) → Marked cs row marks → {l c u : ℕ} (s : SideAt row marks l c u)
    → SideUnchanged older old c u ⊎ ChangedIn (ReadAt row marks) row older old s.start
side_unchanged_or_changed {row = row} {marks = marks} older old marked {l} {c} {u} s =
    go (ℕ_discrete (lead_of older (get_or row s.place 0)) (lead_of old (get_or row s.place 0))) (ℕ_discrete (lead_of older u) (lead_of old u))
  where
    marked_so : (is_select_next (get_or marks s.place 0) ≡ true) ⊎ (is_select_after (get_or marks s.place 0) ≡ true)
    marked_so = ⊎_map (λ h. h.0) (λ h. h.0) s.marked

    three : length (clause_at row s.start) ≡ 3
    three = marked.select_three s.start s.place s.at marked_so

    next : LiteralAt row s.start (around s.start s.place)
    next = around_literal three s.at

    then : Moved older old u → ChangedIn (ReadAt row marks) row older old s.start
    then n = by s.marked
      where
        by : Turned row marks s.start s.place l u → ChangedIn (ReadAt row marks) row older old s.start
        by (inl m) =
            record {
              place = around s.start (around s.start s.place);
              at = inr (record { at = around_literal three next; three = three; select = s.place; select-at = s.at; by = inl (m.0, refl) });
              moved = subst⁻¹ (Moved older old) m.2 n;
            }
        by (inr m) =
            record {
              place = around s.start s.place;
              at = inr (record { at = next; three = three; select = s.place; select-at = s.at; by = inr (m.0, refl) });
              moved = subst⁻¹ (Moved older old) m.2 n;
            }

    go : Dec (Kept older old (get_or row s.place 0)) → Dec (Kept older old u) → SideUnchanged older old c u ⊎ ChangedIn (ReadAt row marks) row older old s.start
    go (yes e) (yes f) = inl (record { select = kept_negate older old c (subst (Kept older old) s.select e); then = f })
    go (no n) d = inr (record { place = s.place; at = inl (record { at = s.at; marked = marked_so }); moved = n })
    go (yes e) (no n) = inr (then n)
