-- Laws of signs: sums of bits, literals inverted by a bit, and the parity of a list.
-- Assumes nothing.
use mathlib.Core.Path.{◌≡◌, refl, sym, ◌∙◌, ap, ap₂}
use mathlib.Core.Logic.{◌≢◌, ◌⊎◌, inl, inr}
use mathlib.Core.Bool.{Bool, true, false, not, not-not}
use mathlib.Core.List.Memᴰ
use mathlib.Core.List.{List, [], ◌∷◌, ◌++◌}
use Prim.Native.Nat.{ℕ, ◌+◌, ◌*◌, ◌/◌, ◌%◌}
use native.Mathlib.Omega.{arith}
use native.Mathlib.Decide.{ℕ_discrete}
use lib.Dec.{eqb}
use lib.Bits.{differ, bit_xor, xor_step, xor_zero_r}
use borrow.Author.Tests.{eq-eqb, ne_eqb}
use Rattle.clauses.specs.Code.{negate, net}
use Rattle.clauses.specs.Clause.{Mem, Within, Same}
use Rattle.clauses.specs.Lists.{Pick, first, later}
use Rattle.clauses.specs.Sign.{plus, flip, is_inverse, parity, inverted}
use Rattle.clauses.proofs.Lists.{mem_map, mem_of_map}
use Rattle.clauses.proofs.Codes.{negate_negate, net_negate, same_net}
use Rattle.clauses.proofs.Picks.{Perm}

-- Sums of bits

pub plus_false : (a : Bool) → plus a false ≡ a
plus_false false = refl
plus_false true = refl

pub plus_self : (a : Bool) → plus a a ≡ false
plus_self false = refl
plus_self true = refl

pub plus_cancel : (a b : Bool) → plus a (plus a b) ≡ b
plus_cancel false b = refl
plus_cancel true b = not-not b

pub plus_comm : (a b : Bool) → plus a b ≡ plus b a
plus_comm false b = sym (plus_false b)
plus_comm true false = refl
plus_comm true true = refl

pub plus_assoc : (a b c : Bool) → plus a (plus b c) ≡ plus (plus a b) c
plus_assoc false b c = refl
plus_assoc true false c = refl
plus_assoc true true c = not-not c

pub plus_swap : (a b c : Bool) → plus a (plus b c) ≡ plus b (plus a c)
plus_swap false b c = refl
plus_swap true false c = refl
plus_swap true true c = refl

-- Inverted literals

pub flip_flip : (b : Bool) (c : ℕ) → flip b (flip b c) ≡ c
flip_flip false c = refl
flip_flip true c = negate_negate c

pub flip_plus : (b d : Bool) (c : ℕ) → flip b (flip d c) ≡ flip (plus b d) c
flip_plus false d c = refl
flip_plus true false c = refl
flip_plus true true c = negate_negate c

pub net_flip : (b : Bool) (c : ℕ) → net (flip b c) ≡ net c
net_flip false c = refl
net_flip true c = net_negate c

-- The sign of a code

odd_cases : (c : ℕ) → (c % 2 ≡ 0) ⊎ (c % 2 ≡ 1)
odd_cases c = go (ℕ_discrete (c % 2) 0)
  where
    go : Dec (c % 2 ≡ 0) → (c % 2 ≡ 0) ⊎ (c % 2 ≡ 1)
    go (yes e) = inl e
    go (no n) = inr (omega arith)

pub inverse_of_odd : (c : ℕ) → c % 2 ≡ 1 → is_inverse c ≡ true
unfolding is_inverse
inverse_of_odd c e = eq-eqb (c % 2) 1 e

pub plain_of_even : (c : ℕ) → c % 2 ≡ 0 → is_inverse c ≡ false
unfolding is_inverse
plain_of_even c e = ne_eqb (c % 2) 1 (λ q. not_both e q)
  where
    not_both : c % 2 ≡ 0 → c % 2 ≡ 1 → ⊥
    not_both p q = omega arith

-- a literal is inverted in its lowest bit
xor_one : (c : ℕ) → bit_xor c 1 ≡ negate c
xor_one c = xor_step c 1 ∙ ap (λ (n : ℕ). n * 2 + differ (c % 2) 1) (xor_zero_r (c / 2)) ∙ go (odd_cases c)
  where
    go : (c % 2 ≡ 0) ⊎ (c % 2 ≡ 1) → c / 2 * 2 + differ (c % 2) 1 ≡ negate c
    go (inl e) = rw e (omega arith)
    go (inr e) = rw e (omega arith)

pub xor_flip : (m c : ℕ) → bit_xor c (m % 2) ≡ flip (is_inverse m) c
xor_flip m c = go (odd_cases m)
  where
    go : (m % 2 ≡ 0) ⊎ (m % 2 ≡ 1) → bit_xor c (m % 2) ≡ flip (is_inverse m) c
    go (inl e) = rw (plain_of_even m e, e) (xor_zero_r c)
    go (inr e) = rw (inverse_of_odd m e, e) (xor_one c)

pub is_inverse_negate : (c : ℕ) → is_inverse (negate c) ≡ not (is_inverse c)
is_inverse_negate c = go (odd_cases c)
  where
    go : (c % 2 ≡ 0) ⊎ (c % 2 ≡ 1) → is_inverse (negate c) ≡ not (is_inverse c)
    go (inl e) = inverse_of_odd (negate c) (omega arith) ∙ ap not (sym (plain_of_even c e))
    go (inr e) = plain_of_even (negate c) (omega arith) ∙ ap not (sym (inverse_of_odd c e))

pub is_inverse_flip : (b : Bool) (c : ℕ) → is_inverse (flip b c) ≡ plus b (is_inverse c)
is_inverse_flip false c = refl
is_inverse_flip true c = is_inverse_negate c

-- a code is its net with its sign
pub code_split : (c : ℕ) → c ≡ flip (is_inverse c) (2 * net c)
code_split c = go (odd_cases c)
  where
    go : (c % 2 ≡ 0) ⊎ (c % 2 ≡ 1) → c ≡ flip (is_inverse c) (2 * net c)
    go (inl e) = rw (plain_of_even c e) (omega arith)
    go (inr e) = rw (inverse_of_odd c e) (omega arith)

-- two codes of one net differ by their signs
pub same_net_flip : (a b : ℕ) → net a ≡ net b → a ≡ flip (plus (is_inverse a) (is_inverse b)) b
same_net_flip a b e = go (same_net a b e)
  where
    go : (a ≡ b) ⊎ (a ≡ negate b) → a ≡ flip (plus (is_inverse a) (is_inverse b)) b
    go (inl q) = q ∙ ap (λ (s : Bool). flip s b) (sym (ap (λ (x : ℕ). plus (is_inverse x) (is_inverse b)) q ∙ plus_self (is_inverse b)))
    go (inr q) = q ∙ ap (λ (s : Bool). flip s b) (sym (ap (λ (s : Bool). plus s (is_inverse b)) (ap is_inverse q ∙ is_inverse_negate b) ∙ opposite (is_inverse b)))
      where
        opposite : (s : Bool) → plus (not s) s ≡ true
        opposite false = refl
        opposite true = refl

-- the net of a code, as a literal
pub plain_net : (x : ℕ) → 2 * net x ≡ flip (is_inverse x) x
plain_net x = sym (flip_flip (is_inverse x) (2 * net x)) ∙ ap (flip (is_inverse x)) (sym (code_split x))

pub plain_flip : (x : ℕ) → is_inverse (flip (is_inverse x) x) ≡ false
plain_flip x = is_inverse_flip (is_inverse x) x ∙ plus_self (is_inverse x)

-- plain literals of one net are equal
pub plain_equal : (x y : ℕ) → is_inverse x ≡ false → is_inverse y ≡ false → net x ≡ net y → x ≡ y
plain_equal x y p q e =
    code_split x ∙ ap (λ (b : Bool). flip b (2 * net x)) (p ∙ sym q) ∙ ap (λ (n : ℕ). flip (is_inverse y) (2 * n)) e ∙ sym (code_split y)

-- Parities

pub parity_pick : (f : ℕ → Bool) {y : ℕ} {xs ys : List ℕ} → Pick y xs ys → parity f xs ≡ plus (f y) (parity f ys)
parity_pick f first = refl
parity_pick f {y} (later {y = z} {xs = xs} {ys = ys} h) = ap (plus (f z)) (parity_pick f h) ∙ plus_swap (f z) (f y) (parity f ys)

pub parity_append : (f : ℕ → Bool) (xs ys : List ℕ) → parity f (xs ++ ys) ≡ plus (parity f xs) (parity f ys)
parity_append f [] ys = refl
parity_append f (x ∷ xs) ys = ap (plus (f x)) (parity_append f xs ys) ∙ plus_assoc (f x) (parity f xs) (parity f ys)

pub perm_parity : (f : ℕ → Bool) {xs ys : List ℕ} → Perm xs ys → parity f xs ≡ parity f ys
perm_parity f Perm.none = refl
perm_parity f (Perm.one {x = x} h p) = ap (plus (f x)) (perm_parity f p) ∙ sym (parity_pick f h)

pub none_odd : (ls : List ℕ) → parity (λ x. false) ls ≡ false
none_odd [] = refl
none_odd (l ∷ ls) = none_odd ls

pub parity_both : (f g : ℕ → Bool) (ls : List ℕ) → parity (λ x. plus (f x) (g x)) ls ≡ plus (parity f ls) (parity g ls)
parity_both f g [] = refl
parity_both f g (l ∷ ls) =
    ap (plus (plus (f l) (g l))) (parity_both f g ls)
    ∙ sym (plus_assoc (f l) (g l) (plus (parity f ls) (parity g ls)))
    ∙ ap (plus (f l)) (plus_swap (g l) (parity f ls) (parity g ls))
    ∙ plus_assoc (f l) (parity f ls) (plus (g l) (parity g ls))

pub parity_inverted : (f g : ℕ → Bool) (ls : List ℕ) → parity g (inverted f ls) ≡ parity (λ x. g (flip (f x) x)) ls
parity_inverted f g [] = refl
parity_inverted f g (l ∷ ls) = ap (plus (g (flip (f l) l))) (parity_inverted f g ls)

-- Lists with some literals inverted

pub none_inverted : (ls : List ℕ) → inverted (λ x. false) ls ≡ ls
none_inverted [] = refl
none_inverted (l ∷ ls) = ap (λ (t : List ℕ). l ∷ t) (none_inverted ls)

pub inverted_same : (f : ℕ → Bool) {c d : List ℕ} → Same c d → Same (inverted f c) (inverted f d)
inverted_same f {c} {d} h = record { left = half c d h.left; right = half d c h.right }
  where
    half : (c d : List ℕ) → Within c d → Within (inverted f c) (inverted f d)
    half c d w x k =
        let o = mem_of_map (λ (y : ℕ). flip (f y) y) c k in
        Memᴰ.cast o.is (mem_map (λ (y : ℕ). flip (f y) y) (w o.of o.in_list))

pub inverted_twice : (f g : ℕ → Bool) (ls : List ℕ) → inverted (λ x. plus (f x) (g (flip (f x) x))) ls ≡ inverted g (inverted f ls)
inverted_twice f g [] = refl
inverted_twice f g (l ∷ ls) =
    ap₂ (λ (y : ℕ) (t : List ℕ). y ∷ t)
    (ap (λ (b : Bool). flip b l) (plus_comm (f l) (g (flip (f l) l))) ∙ sym (flip_plus (g (flip (f l) l)) (f l) l)) (inverted_twice f g ls)

-- A choice of signs, changed at one literal

abbrev pub change : ℕ → Bool → (ℕ → Bool) → ℕ → Bool
change l b f x = elim (eqb x l) [ true ↦ b | false ↦ f x ]

pub change_same : (l : ℕ) (b : Bool) (f : ℕ → Bool) → change l b f l ≡ b
change_same l b f = rw (eq-eqb l l refl, change)

pub change_other : (l : ℕ) (b : Bool) (f : ℕ → Bool) (x : ℕ) → x ≢ l → change l b f x ≡ f x
change_other l b f x n = rw (ne_eqb x l n, change)

pub change_parity : (l : ℕ) (b : Bool) (f : ℕ → Bool) (ls : List ℕ) → (Mem l ls → ⊥) → parity (change l b f) ls ≡ parity f ls
change_parity l b f [] n = refl
change_parity l b f (x ∷ ls) n =
    ap₂ plus (change_other l b f x (λ e. n (Memᴰ.head (sym e)))) (change_parity l b f ls (λ k. n (Memᴰ.tail k)))

pub change_inverted : (l : ℕ) (b : Bool) (f : ℕ → Bool) (ls : List ℕ) → (Mem l ls → ⊥) → inverted (change l b f) ls ≡ inverted f ls
change_inverted l b f [] n = refl
change_inverted l b f (x ∷ ls) n =
    ap₂ (λ (y : ℕ) (t : List ℕ). y ∷ t) (ap (λ (s : Bool). flip s x) (change_other l b f x (λ e. n (Memᴰ.head (sym e))))) (change_inverted l b f ls (λ k. n (Memᴰ.tail k)))
