-- What is searched for: literals, none of them twice.
-- Assumes nothing.
use mathlib.Core.Path.{◌≡◌, sym, ◌∙◌, ap, subst}
use mathlib.Core.Logic.{◌≢◌, ◌⊎◌, inl, inr}
use mathlib.Core.Bool.{true, false}
use mathlib.Core.List.Memᴰ
use mathlib.Core.List.{List, [], ◌∷◌, map}
use Prim.Native.Nat.{ℕ, ◌+◌, ◌/◌, ◌≤◌, ◌<◌}
use native.Mathlib.Omega.{arith}
use native.Mathlib.Decide.{dec_lt}
use lib.ListN.{length, get_or}
use borrow.Table.Steps.{cases}
use Rattle.clauses.specs.Code.{negate, net}
use Rattle.clauses.specs.Clause.{Mem, Within, Tautology}
use Rattle.clauses.specs.Listing.{within, same_set}
use Rattle.clauses.specs.Sign.{is_inverse}
use Rattle.clauses.specs.Row.{clause_at, Starts}
use Rattle.clauses.proofs.Lists.{mem_of_map}
use Rattle.clauses.proofs.Distinct.{Distinct, empty, more}
use Rattle.clauses.proofs.Codes.{same_net}
use Rattle.clauses.proofs.Clauses.{within_is, same_is, is_same, literals_distinct, literals_once, same_refl}
use Rattle.clauses.proofs.Picks.{picked, pick_same, pick_length, in_rest, perm_of_same, perm_length}
use Rattle.clauses.proofs.Signs.{net_flip}
use Rattle.clauses.proofs.Rows.{literal_some, clause_ended, starts_listed}
use Rattle.gates.specs.Normal.{Normal}
use Rattle.gates.specs.Search.{Once}
use Rattle.gates.specs.Mask.{masked}
use Rattle.gates.proofs.Marks.{clause_distinct}

pub once_distinct : {q : List ℕ} → Once q → Distinct q
once_distinct {q} e = subst Distinct e (literals_distinct q)

-- Two and three literals

pub two_distinct : {a b : ℕ} → a ≢ b → Distinct (a ∷ b ∷ [])
two_distinct n = more (λ m. n (Memᴰ.eq_of_singleton m)) (more Memᴰ.not-nil empty)

pub three_distinct : {a b c : ℕ} → a ≢ b → a ≢ c → b ≢ c → Distinct (a ∷ b ∷ c ∷ [])
three_distinct {a} {b} {c} ab ac bc = more first (two_distinct bc)
  where
    first : Mem a (b ∷ c ∷ []) → ⊥
    first (Memᴰ.head e) = ab e
    first (Memᴰ.tail (Memᴰ.head e)) = ac e
    first (Memᴰ.tail (Memᴰ.tail k)) = Memᴰ.not-nil k

pub two_once : {a b : ℕ} → a ≢ b → Once (a ∷ b ∷ [])
two_once n = literals_once (two_distinct n)

pub three_once : {a b c : ℕ} → a ≢ b → a ≢ c → b ≢ c → Once (a ∷ b ∷ c ∷ [])
three_once ab ac bc = literals_once (three_distinct ab ac bc)

-- A clause of a row in normal form

-- in a clause that is no tautology different literals are of different nets
pub nets_differ : {c : List ℕ} → ¬ Tautology c → (a b : ℕ) → Mem a c → Mem b c → a ≢ b → net a ≢ net b
nets_differ {c} t a b i j n e = go (same_net a b e)
  where
    go : (a ≡ b) ⊎ (a ≡ negate b) → ⊥
    go (inl q) = n q
    go (inr q) = t (record { lit = b; plain = j; inverse = Memᴰ.cast (sym q) i })

nets_distinct : (c d : List ℕ) → Distinct c → Within c d → ¬ Tautology d → Distinct (map net c)
nets_distinct [] d k w t = empty
nets_distinct (x ∷ c) d (more n k) w t =
    more
    (λ m.
    let o = mem_of_map net c m in
    nets_differ t x o.of (w x (Memᴰ.head (λ i. x))) (w o.of (Memᴰ.tail o.in_list)) (λ e. n (Memᴰ.cast e o.in_list)) o.is)
    (nets_distinct c d k (λ y m. w y (Memᴰ.tail m)) t)

module _ {row : List ℕ} (normal : Normal row) (b : ℕ) (s : Starts row b) where
  pub clause_once : Once (clause_at row b)
  clause_once = literals_once (clause_distinct normal b s)

  pub nets_once : Once (map net (clause_at row b))
  nets_once = literals_once (nets_distinct (clause_at row b) (clause_at row b) (clause_distinct normal b s) (same_refl (clause_at row b)).left (normal.proper (clause_at row b) (starts_listed row b s)))

-- .. with the signs of a mask

masked_net : (m : ℕ) (c : List ℕ) {x : ℕ} → Mem x (masked m c) → Mem (net x) (map net c)
unfolding masked
masked_net m [] k = absurd (Memᴰ.not-nil k)
masked_net m (l ∷ c) (Memᴰ.head e) = Memᴰ.head (ap net e ∙ net_flip (is_inverse m) l)
masked_net m (l ∷ c) (Memᴰ.tail k) = Memᴰ.tail (masked_net (m / 2) c k)

masked_distinct : (m : ℕ) (c : List ℕ) → Distinct (map net c) → Distinct (masked m c)
unfolding masked
masked_distinct m [] d = empty
masked_distinct m (l ∷ c) (more n d) = more (λ k. n (Memᴰ.cast (sym (net_flip (is_inverse m) l)) (masked_net (m / 2) c k))) (masked_distinct (m / 2) c d)

pub masked_once : (m : ℕ) (c : List ℕ) → Once (map net c) → Once (masked m c)
masked_once m c o = literals_once (masked_distinct m c (once_distinct o))

-- A clause that holds all of them

-- .. and no more than they are holds nothing else
filled : (q c : List ℕ) → Distinct q → Within q c → length c ≤ length q → Within c q
filled [] [] d w l x m = m
filled [] (y ∷ c) d w l x m = absurd (omega arith)
filled (y ∷ q) c (more n d) w l x m =
    let p = picked c (w y (Memᴰ.head (λ i. y))) in
    go (filled q p.rest d (λ z k. in_rest p.pick z (w z (Memᴰ.tail k)) (λ e. n (Memᴰ.cast (sym e) k))) (omega (arith, pick_length p.pick))) ((pick_same p.pick).left x m)
  where
    go : {r : List ℕ} → Within r q → Mem x (y ∷ r) → Mem x (y ∷ q)
    go h (Memᴰ.head e) = Memᴰ.head e
    go h (Memᴰ.tail k) = Memᴰ.tail (h x k)

-- .. and one with more of them, or fewer, is another clause
pub sizes_apart : (row q : List ℕ) (b : ℕ) → Once q → Normal row → Starts row b → length q ≢ length (clause_at row b) → same_set q (clause_at row b) ≡ false
sizes_apart row q b o normal s n =
    cases (same_set q (clause_at row b))
    (λ t. absurd (n (perm_length (perm_of_same q (clause_at row b) (once_distinct o) (clause_distinct normal b s) (same_is q (clause_at row b) t)))))
    (λ t. t)

module _ (row q : List ℕ) (b n : ℕ) (size : length q ≡ n) (o : Once q) where
  pub same_ended : within q (clause_at row b) ≡ true → get_or row (b + n) 0 ≡ 0 → same_set q (clause_at row b) ≡ true
  same_ended h z =
      let w = within_is q (clause_at row b) h in
      is_same q (clause_at row b) (record { left = w; right = filled q (clause_at row b) (once_distinct o) w (short (dec_lt (length q) (length (clause_at row b)))) })
    where
      short : Dec (length q < length (clause_at row b)) → length (clause_at row b) ≤ length q
      short (yes l) = absurd (literal_some row b (b + n) (omega arith) (omega arith) z)
      short (no n) = omega arith

  pub same_longer : Normal row → Starts row b → get_or row (b + n) 0 ≢ 0 → same_set q (clause_at row b) ≡ false
  same_longer normal s some = sizes_apart row q b o normal s (λ e. some (rw (← size, e) (clause_ended row b)))
