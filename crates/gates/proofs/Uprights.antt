-- An XOR has one clause in which at most the lowest net is inverse, and no two XORs have the same one.
-- Assumes nothing.
use mathlib.Core.Path.{◌≡◌, refl, sym, ◌∙◌, ap, ap₂}
use mathlib.Core.Logic.{◌⊎◌, inl, inr}
use mathlib.Core.Bool.{Bool, true, false, not, ◌||◌, false≢true, true≢false}
use mathlib.Core.List.Memᴰ
use mathlib.Core.List.{List, [], ◌∷◌}
use Prim.Native.Nat.{ℕ, ◌≤◌}
use native.Mathlib.Omega.{arith}
use native.Mathlib.Decide.{ℕ_discrete, dec_le}
use lib.Dec.{leb}
use borrow.Author.Tests.{le-leb, leb-true}
use Rattle.clauses.specs.Code.{net}
use Rattle.clauses.specs.Clause.{Mem, Within, Same}
use Rattle.clauses.specs.Sign.{plus, flip, is_inverse, parity, inverted}
use Rattle.clauses.proofs.Lists.{or_cases, or_left, or_right, not_is, mem_map, mem_of_map, all_have, have_all, Witness}
use Rattle.clauses.proofs.Clauses.{same_sym}
use Rattle.clauses.proofs.Distinct.{Distinct, more}
use Rattle.clauses.proofs.Picks.{Picked, picked, pick_rest, pick_distinct}
use Rattle.clauses.proofs.Signs.{plus_self, plus_comm, plus_assoc, plus_swap, net_flip, is_inverse_flip, same_net_flip, parity_pick, change, change_same, change_other, change_parity}
use Rattle.gates.specs.Gate.{Apart, XorGate}
use Rattle.gates.specs.Mark.{is_lowest, is_upright}
use Rattle.gates.proofs.Xors.{apart_distinct, apart_once, xor_resign}

abbrev pub Upright : List ℕ → Type 0
Upright c = (x : ℕ) → Mem x c → is_inverse x ≡ true → (y : ℕ) → Mem y c → net x ≤ net y

pub upright_is : (c : List ℕ) → is_upright c ≡ true → Upright c
unfolding is_upright is_lowest
upright_is c h x k e y m = go (or_cases (not (is_inverse x)) (is_lowest c x) (all_have (λ z. not (is_inverse z) || is_lowest c z) c h x k))
  where
    go : (not (is_inverse x) ≡ true) ⊎ (is_lowest c x ≡ true) → net x ≤ net y
    go (inl n) = absurd (false≢true (sym (not_is (is_inverse x) n) ∙ e))
    go (inr l) = leb-true (net x) (net y) (all_have (λ z. leb (net x) (net z)) c l y m)

pub is-upright : (c : List ℕ) → Upright c → is_upright c ≡ true
unfolding is_upright is_lowest
is-upright c h = have_all (λ x. not (is_inverse x) || is_lowest c x) c (λ x k. go x k (is_inverse x) refl)
  where
    go : (x : ℕ) → Mem x c → (b : Bool) → is_inverse x ≡ b → (not (is_inverse x) || is_lowest c x) ≡ true
    go x k false e = or_left (is_lowest c x) (ap not e)
    go x k true e = or_right (not (is_inverse x)) (have_all (λ y. leb (net x) (net y)) c (λ y m. le-leb (net x) (net y) (h x k e y m)))

pub upright_same : {c d : List ℕ} → Same c d → Upright c → Upright d
upright_same s u x k e y m = u x (s.right x k) e y (s.right y m)

-- The chosen signs

-- the literal of the lowest net
record Lowest (c : List ℕ) : Type 0 where
  it : ℕ
  listed : Mem it c
  low : (y : ℕ) → Mem y c → net it ≤ net y

lowest : (x : ℕ) (xs : List ℕ) → Lowest (x ∷ xs)
lowest x [] = record { it = x; listed = Memᴰ.head refl; low = one }
  where
    one : (y : ℕ) → Mem y (x ∷ []) → net x ≤ net y
    one y (Memᴰ.tail x6) = elim x6 [ ]
    one y (Memᴰ.head e) = rw e (omega arith)
lowest x (z ∷ zs) = go (lowest z zs)
  where
    go : Lowest (z ∷ zs) → Lowest (x ∷ z ∷ zs)
    go r = pick (dec_le (net x) (net r.it))
      where
        pick : Dec (net x ≤ net r.it) → Lowest (x ∷ z ∷ zs)
        pick (yes h) = record { it = x; listed = Memᴰ.head refl; low = low }
          where
            low : (y : ℕ) → Mem y (x ∷ z ∷ zs) → net x ≤ net y
            low y (Memᴰ.head e) = rw e (omega arith)
            low y (Memᴰ.tail k) = omega (arith, r.low y k)
        pick (no n) = record { it = r.it; listed = Memᴰ.tail r.listed; low = low }
          where
            low : (y : ℕ) → Mem y (x ∷ z ∷ zs) → net r.it ≤ net y
            low y (Memᴰ.head e) = rw e (omega arith)
            low y (Memᴰ.tail k) = r.low y k

-- the signs with which the literals' sum is odd and at most the lowest net is inverse
pub record Turned (ls : List ℕ) (odd : Bool) : Type 0 where
  pub signs : ℕ → Bool
  pub sum : plus odd (parity signs ls) ≡ true
  pub upright : Upright (inverted signs ls)

pub turned : (l : ℕ) (ls : List ℕ) (odd : Bool) → Apart (l ∷ ls) → Turned (l ∷ ls) odd
turned l ls odd apart = record { signs = signs; sum = sum; upright = upright }
  where
    c : List ℕ
    c = l ∷ ls

    low : Lowest c
    low = lowest l ls

    m : ℕ
    m = low.it

    turn : Bool
    turn = not (plus odd (parity is_inverse c))

    signs : ℕ → Bool
    signs = change m (plus turn (is_inverse m)) is_inverse

    count : parity signs c ≡ plus turn (parity is_inverse c)
    count = go (picked c low.listed)
      where
        go : Picked m c → parity signs c ≡ plus turn (parity is_inverse c)
        go p =
            parity_pick signs p.pick
            ∙ ap₂ plus (change_same m (plus turn (is_inverse m)) is_inverse)
            (change_parity m (plus turn (is_inverse m)) is_inverse p.rest (out (pick_distinct p.pick (apart_distinct apart))))
            ∙ sym (plus_assoc turn (is_inverse m) (parity is_inverse p.rest)) ∙ ap (plus turn) (sym (parity_pick is_inverse p.pick))
          where
            out : Distinct (m ∷ p.rest) → Mem m p.rest → ⊥
            out (more n d) = n

    sum : plus odd (parity signs c) ≡ true
    sum = ap (plus odd) count ∙ plus_swap odd turn (parity is_inverse c) ∙ opposite (plus odd (parity is_inverse c))
      where
        opposite : (b : Bool) → plus (not b) b ≡ true
        opposite false = refl
        opposite true = refl

    upright : Upright (inverted signs c)
    upright x k e y i =
        let o = mem_of_map (λ (z : ℕ). flip (signs z) z) c k in
        let q = mem_of_map (λ (z : ℕ). flip (signs z) z) c i in
        let p : net x ≡ net o.of = ap net o.is ∙ net_flip (signs o.of) o.of in
        let r : net y ≡ net q.of = ap net q.is ∙ net_flip (signs q.of) q.of in
        let s : net m ≤ net q.of = low.low q.of q.in_list in
        let t : net o.of ≡ net m = ap net (is_low o.of (sym (is_inverse_flip (signs o.of) o.of) ∙ ap is_inverse (sym o.is) ∙ e)) in
        rw (p, r, t) s
      where
        is_low : (z : ℕ) → plus (signs z) (is_inverse z) ≡ true → z ≡ m
        is_low z h = go (ℕ_discrete z m)
          where
            go : Dec (z ≡ m) → z ≡ m
            go (yes q) = q
            go (no n) = absurd (false≢true (sym (ap (λ (b : Bool). plus b (is_inverse z)) (change_other m (plus turn (is_inverse m)) is_inverse z n) ∙ plus_self (is_inverse z)) ∙ h))

pub xor_turned : {cs : List (List ℕ)} (ls : List ℕ) (odd : Bool) (f : ℕ → Bool) → plus odd (parity f ls) ≡ true → XorGate cs ls odd → XorGate cs (inverted f ls) true
xor_turned {cs} ls odd f e g = rw (plus_comm (parity f ls) odd, e) at (xor_resign ls odd f g)

-- No two alike

parity_none : (f : ℕ → Bool) (c : List ℕ) → ((x : ℕ) → Mem x c → f x ≡ false) → parity f c ≡ false
parity_none f [] h = refl
parity_none f (x ∷ c) h = ap₂ plus (h x (Memᴰ.head refl)) (parity_none f c (λ y k. h y (Memᴰ.tail k)))

parity_some : (f : ℕ → Bool) (c : List ℕ) → parity f c ≡ true → Witness f c
parity_some f [] e = absurd (false≢true e)
parity_some f (x ∷ c) e = go (f x) refl (parity_some f c)
  where
    go : (b : Bool) → f x ≡ b → (parity f c ≡ true → Witness f c) → Witness f (x ∷ c)
    go true q ih = record { it = x; listed = Memᴰ.head refl; passes = q }
    go false q ih = let w = ih (rw q at e) in record { it = w.it; listed = Memᴰ.tail w.listed; passes = w.passes }

-- an inverse is the only one
upright_odd : {c : List ℕ} → Upright c → Apart c → (x : ℕ) → Mem x c → is_inverse x ≡ true → parity is_inverse c ≡ true
upright_odd {c} u apart x k e = go (picked c k)
  where
    go : Picked x c → parity is_inverse c ≡ true
    go p = parity_pick is_inverse p.pick ∙ ap₂ plus e (parity_none is_inverse p.rest (λ y i. plain y i (is_inverse y) refl))
      where
        out : Distinct (x ∷ p.rest) → Mem x p.rest → ⊥
        out (more n d) = n

        plain : (y : ℕ) → Mem y p.rest → (b : Bool) → is_inverse y ≡ b → b ≡ false
        plain y i false q = refl
        plain y i true q =
            let m = pick_rest p.pick y i in
            let h : net x ≤ net y = u x k e y m in
            let l : net y ≤ net x = u y m q x k in
            absurd (out (pick_distinct p.pick (apart_distinct apart)) (Memᴰ.cast (apart_once apart x y k m (omega arith)) i))

-- a literal of the same net
record OfNet (d : List ℕ) (x : ℕ) : Type 0 where
  it : ℕ
  listed : Mem it d
  alike : net it ≡ net x

of_net : {c d : List ℕ} → Within (inverted is_inverse c) (inverted is_inverse d) → (x : ℕ) → Mem x c → OfNet d x
of_net {c} {d} w x k =
    let o = mem_of_map (λ (y : ℕ). flip (is_inverse y) y) d (w (flip (is_inverse x) x) (mem_map (λ (y : ℕ). flip (is_inverse y) y) k)) in
    record { it = o.of; listed = o.in_list; alike = sym (net_flip (is_inverse o.of) o.of) ∙ ap net (sym o.is) ∙ net_flip (is_inverse x) x }

inverse_too : {c d : List ℕ} → Upright c → Upright d → Apart c → Apart d → Within (inverted is_inverse d) (inverted is_inverse c) → parity is_inverse c ≡ parity is_inverse d
    → (x y : ℕ) → Mem x c → Mem y d → net y ≡ net x → is_inverse x ≡ true → is_inverse y ≡ true
inverse_too {c} {d} u v a b w e x y k m n i =
    let z = parity_some is_inverse d (sym e ∙ upright_odd u a x k i) in
    let o = of_net w z.it z.listed in
    let h : net z.it ≤ net y = v z.it z.listed z.passes y m in
    let l : net x ≤ net o.it = u x k i o.it o.listed in
    ap is_inverse (apart_once b y z.it m z.listed (omega (arith, o.alike))) ∙ z.passes

pub upright_only : {c d : List ℕ} → Upright c → Upright d → Apart c → Apart d → Same (inverted is_inverse c) (inverted is_inverse d) → parity is_inverse c ≡ parity is_inverse d → Same c d
upright_only {c} {d} u v a b s e = record { left = half u v a b s e; right = half v u b a (same_sym s) (sym e) }
  where
    half : {c d : List ℕ} → Upright c → Upright d → Apart c → Apart d → Same (inverted is_inverse c) (inverted is_inverse d) → parity is_inverse c ≡ parity is_inverse d → Within c d
    half {c} {d} u v a b s e x k = go (of_net s.left x k)
      where
        go : OfNet d x → Mem x d
        go o = Memᴰ.cast (same_net_flip x o.it (sym o.alike) ∙ ap (λ (t : Bool). flip t o.it) (signs (is_inverse x) (is_inverse o.it) refl refl)) o.listed
          where
            signs : (p q : Bool) → is_inverse x ≡ p → is_inverse o.it ≡ q → plus p q ≡ false
            signs false false i j = refl
            signs true true i j = refl
            signs true false i j = absurd (true≢false (sym (inverse_too u v a b s.right e x o.it k o.listed o.alike i) ∙ j))
            signs false true i j = absurd (true≢false (sym (inverse_too v u b a s.left (sym e) o.it x o.listed k (sym o.alike) j) ∙ i))
