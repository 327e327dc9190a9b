-- Some elements of a list, in its order.
-- Assumes nothing.
use mathlib.Core.Path.{◌≡◌, refl, ap, subst⁻¹}
use mathlib.Core.Logic.{◌⊎◌, inl, inr}
use mathlib.Core.Bool.{Bool, true, false}
use mathlib.Core.List.Memᴰ
use mathlib.Core.List.{List, [], ◌∷◌, map, Memᴰ}
use Prim.Native.Nat.{ℕ, zero, suc}
use lib.ListN.{length}
use Rattle.clauses.specs.Clause.{Mem, Within, Same}
use Rattle.clauses.specs.Lists.{keep, choose}
use Rattle.clauses.proofs.Lists.{in_first, mem_map, mem_of_map}
use Rattle.clauses.proofs.Distinct.{Distinct, empty, more, append_distinct, one_distinct, map_distinct}
use Rattle.clauses.proofs.Picks.{same_tail}

-- ws is ns with some elements left out
pub data Sub : List ℕ → List ℕ → Type 0 where
  none : Sub [] []
  take : {n : ℕ} {ws ns : List ℕ} → Sub ws ns → Sub (n ∷ ws) (n ∷ ns)
  skip : {n : ℕ} {ws ns : List ℕ} → Sub ws ns → Sub ws (n ∷ ns)

sub_nil : (ns : List ℕ) → Sub [] ns
sub_nil [] = none
sub_nil (n ∷ ns) = skip (sub_nil ns)

pub sub_within : {ws ns : List ℕ} → Sub ws ns → Within ws ns
sub_within none x k = elim k [ ]
sub_within (take s) x (Memᴰ.head e) = Memᴰ.head e
sub_within (take s) x (Memᴰ.tail k) = Memᴰ.tail (sub_within s x k)
sub_within (skip s) x k = Memᴰ.tail (sub_within s x k)

pub sub_distinct : {ws ns : List ℕ} → Sub ws ns → Distinct ns → Distinct ws
sub_distinct none d = d
sub_distinct (take {n = n} s) (more m d) = more (λ k. m (sub_within s n k)) (sub_distinct s d)
sub_distinct (skip s) (more m d) = sub_distinct s d

pub sub_unique : {ws zs ns : List ℕ} → Sub ws ns → Sub zs ns → Distinct ns → Same ws zs → ws ≡ zs
sub_unique none none d s = refl
sub_unique (take {n = n} a) (take b) (more m d) s =
    ap (λ (t : List ℕ). n ∷ t) (sub_unique a b d (same_tail s (more (λ k. m (sub_within a n k)) (sub_distinct a d)) (more (λ k. m (sub_within b n k)) (sub_distinct b d))))
sub_unique (take {n = n} a) (skip b) (more m d) s = absurd (m (sub_within b n (s.left n in_first)))
sub_unique (skip {n = n} a) (take b) (more m d) s = absurd (m (sub_within a n (s.right n in_first)))
sub_unique (skip a) (skip b) (more m d) s = sub_unique a b d s

pub keep_sub : (f : ℕ → Bool) (ns : List ℕ) → Sub (keep f ns) ns
unfolding keep
keep_sub f [] = none
keep_sub f (n ∷ ns) = go (f n) refl (keep_sub f ns)
  where
    go : (b : Bool) → f n ≡ b → Sub (keep f ns) ns → Sub (keep f (n ∷ ns)) (n ∷ ns)
    go true e ih = rw (e, keep) (take ih)
    go false e ih = rw (e, keep) (skip ih)

pub sub_choose : {ws ns : List ℕ} → Sub ws ns → Memᴰ ws (choose (length ws) ns)
unfolding choose
sub_choose none = in_first
sub_choose (take {n = n} {ws = ws} {ns = ns} s) = Memᴰ.append_left (choose (suc (length ws)) ns) (mem_map (λ (c : List ℕ). n ∷ c) (sub_choose s))
sub_choose {ws} (skip {n = n} {ns = ns} s) = go ws (sub_choose s)
  where
    go : (zs : List ℕ) → Memᴰ zs (choose (length zs) ns) → Memᴰ zs (choose (length zs) (n ∷ ns))
    go [] h = in_first
    go (z ∷ zs) h = Memᴰ.append_right (map (λ (c : List ℕ). n ∷ c) (choose (length zs) ns)) h

pub record Chosen (k : ℕ) (ns ws : List ℕ) : Type 0 where
  pub sub : Sub ws ns
  pub size : length ws ≡ k

pub choose_sub : (k : ℕ) (ns ws : List ℕ) → Memᴰ ws (choose k ns) → Chosen k ns ws
unfolding choose
choose_sub zero ns ws m = let e = Memᴰ.eq_of_singleton m in subst⁻¹ (Chosen 0 ns) e (record { sub = sub_nil ns; size = refl })
choose_sub (suc k) [] ws m = absurd (Memᴰ.not-nil m)
choose_sub (suc k) (n ∷ ns) ws m = go (Memᴰ.append_cases (map (λ (c : List ℕ). n ∷ c) (choose k ns)) m) (choose_sub k ns) (choose_sub (suc k) ns ws)
  where
    go : Memᴰ ws (map (λ (c : List ℕ). n ∷ c) (choose k ns)) ⊎ Memᴰ ws (choose (suc k) ns)
        → ((zs : List ℕ) → Memᴰ zs (choose k ns) → Chosen k ns zs) → (Memᴰ ws (choose (suc k) ns) → Chosen (suc k) ns ws) → Chosen (suc k) (n ∷ ns) ws
    go (inl q) f g =
        let o = mem_of_map (λ (c : List ℕ). n ∷ c) (choose k ns) q in
        let h = f o.of o.in_list in
        subst⁻¹ (Chosen (suc k) (n ∷ ns)) o.is (record { sub = take h.sub; size = ap suc h.size })
    go (inr q) f g = let h = g q in record { sub = skip h.sub; size = h.size }

pub choose_distinct : (k : ℕ) (ns : List ℕ) → Distinct ns → Distinct (choose k ns)
unfolding choose
choose_distinct zero ns d = one_distinct []
choose_distinct (suc k) [] d = empty
choose_distinct (suc k) (n ∷ ns) (more m d) =
    append_distinct (map (λ (c : List ℕ). n ∷ c) (choose k ns)) (choose (suc k) ns)
    (map_distinct (λ (c : List ℕ). n ∷ c) (choose k ns) (λ x y e. cc) (choose_distinct k ns d)) (choose_distinct (suc k) ns d) apart
  where
    apart : (z : List ℕ) → Memᴰ z (map (λ (c : List ℕ). n ∷ c) (choose k ns)) → Memᴰ z (choose (suc k) ns) → ⊥
    apart z p q =
        let o = mem_of_map (λ (c : List ℕ). n ∷ c) (choose k ns) p in
        m (sub_within (choose_sub (suc k) ns z q).sub n (subst⁻¹ (Mem n) o.is in_first))
