-- A row that passes test 10 has literals of nets 1 to V alone.
-- Assumes nothing.
use mathlib.Core.Path.{◌≡◌, refl, sym, ◌∙◌, subst, subst⁻¹}
use mathlib.Core.Logic.{◌≢◌}
use mathlib.Core.Bool.{Bool, true, false}
use mathlib.Core.List.{List, [], ◌∷◌, map, Memᴰ}
use Prim.Native.Nat.{ℕ, ◌≤◌}
use native.Mathlib.Omega.{arith}
use lib.Dec.{eqb}
use lib.IntN.{ℤ, pos, negsuc, nat_abs}
use lib.ListN.{length}
use borrow.Author.Tests.{eqb-false}
use Rattle.clauses.specs.Code.{code_of, net}
use Rattle.clauses.specs.Clause.{onto, clauses_in, clauses_of, Mem}
use Rattle.clauses.specs.Listing.{NetUpTo, Fits}
use Rattle.clauses.specs.Refusal.{first_over}
use Rattle.clauses.proofs.Lists.{in_first, mem_of_map}
use Rattle.clauses.proofs.PrintedText.{within_head, within_tail}

-- every literal of the clauses is one of the codes, and not 0
abbrev Listed : List ℕ → List (List ℕ) → Type 0
Listed codes cs = (c : List ℕ) → Memᴰ c cs → (x : ℕ) → Mem x c → Mem x codes × (x ≢ 0)

onto_listed : (y : ℕ) (codes : List ℕ) (cs : List (List ℕ)) → y ≢ 0 → Listed codes cs → Listed (y ∷ codes) (onto y cs)
unfolding onto
onto_listed y codes cs n h c k x m = go cs h k
  where
    first_in : (d : List ℕ) → ((i : Mem x d) → Mem x codes × (x ≢ 0)) → Mem x (y ∷ d) → Mem x (y ∷ codes) × (x ≢ 0)
    first_in d f (Memᴰ.head e) = (Memᴰ.head e, λ z. n (sym e ∙ z))
    first_in d f (Memᴰ.tail i) = let t = f i in (Memᴰ.tail t.0, t.1)

    go : (cs : List (List ℕ)) → Listed codes cs → Memᴰ c (onto y cs) → Mem x (y ∷ codes) × (x ≢ 0)
    go [] h (Memᴰ.head e) = first_in [] (λ i. elim i [ ]) (subst (Mem x) e m)
    go [] h (Memᴰ.tail k) = elim k [ ]
    go (d ∷ ds) h (Memᴰ.head e) = first_in d (h d in_first x) (subst (Mem x) e m)
    go (d ∷ ds) h (Memᴰ.tail k) = let t = h c (Memᴰ.tail k) x m in (Memᴰ.tail t.0, t.1)

clauses_listed : (codes : List ℕ) → Listed codes (clauses_in codes)
unfolding clauses_in
clauses_listed [] = λ c k. elim k [ ]
clauses_listed (y ∷ codes) = go (eqb y 0) refl (clauses_listed codes)
  where
    go : (b : Bool) → eqb y 0 ≡ b → Listed codes (clauses_in codes) → Listed (y ∷ codes) (clauses_in (y ∷ codes))
    go true e h = rw (clauses_in, e) blank
      where
        blank : Listed (y ∷ codes) ([] ∷ clauses_in codes)
        blank c (Memᴰ.head p) x m = elim (subst (Mem x) p m) [ ]
        blank c (Memᴰ.tail k) x m = let t = h c k x m in (Memᴰ.tail t.0, t.1)
    go false e h = rw (clauses_in, e) (onto_listed y codes (clauses_in codes) (eqb-false y 0 e) h)

magnitude_within : (v : ℕ) (row : List ℤ) → length row ≤ first_over v row → (z : ℤ) → Memᴰ z row → nat_abs z ≤ v
magnitude_within v [] h z x'' = elim x'' [ ]
magnitude_within v (y ∷ row) h z (Memᴰ.head e) = rw e (within_head v y row h)
magnitude_within v (y ∷ row) h z (Memᴰ.tail k) = magnitude_within v row (within_tail v y row h) z k

code_net : (v : ℕ) (z : ℤ) → nat_abs z ≤ v → code_of z ≢ 0 → NetUpTo v (net (code_of z))
unfolding code_of
code_net v (pos n) h d = (omega arith, omega arith)
code_net v (negsuc n) h d = (omega arith, omega arith)

pub entries_fit : (v : ℕ) (row : List ℤ) → length row ≤ first_over v row → Fits v (clauses_of row)
unfolding clauses_of
entries_fit v row h c k x m =
    let t = clauses_listed (map code_of row) c k x m in
    let o = mem_of_map code_of row t.0 in
    subst⁻¹ (λ (y : ℕ). NetUpTo v (net y)) o.is (code_net v o.of (magnitude_within v row h o.of o.in_list) (λ z. t.1 (o.is ∙ z)))
