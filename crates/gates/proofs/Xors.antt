-- An XOR may be written with its literals in any order, and with other signs.
-- Assumes nothing.
use mathlib.Core.Path.{◌≡◌, refl, sym, ◌∙◌, ap, ap₂, subst, subst₂}
use mathlib.Core.Logic.{◌⊎◌, inl, inr}
use mathlib.Core.Bool.{Bool, true, false, not, not-not}
use mathlib.Core.List.Memᴰ
use mathlib.Core.List.{List, [], ◌∷◌}
use Prim.Native.Nat.{ℕ, ◌≤◌}
use lib.ListN.{length-map}
use Rattle.clauses.specs.Code.{negate, net}
use Rattle.clauses.specs.Clause.{Mem, Within, Same, Tautology, Present}
use Rattle.clauses.specs.Lists.{Pick, first, later}
use Rattle.clauses.specs.Listing.{Fits}
use Rattle.clauses.specs.Sign.{plus, flip, parity, inverted}
use Rattle.clauses.proofs.Lists.{in_first, mem_map, mem_of_map}
use Rattle.clauses.proofs.Distinct.{Distinct, empty, more}
use Rattle.clauses.proofs.Codes.{same_net}
use Rattle.clauses.proofs.Clauses.{same_sym, present_same, fits_present}
use Rattle.clauses.proofs.Picks.{pick_same, pick_distinct, Perm, perm_of_same, perm_length}
use Rattle.clauses.proofs.Signs.{plus_false, net_flip, perm_parity, none_odd, parity_both, parity_inverted, none_inverted, inverted_same, inverted_twice, change, change_same, change_parity, change_inverted}
use Rattle.gates.specs.Gate.{Apart, XorGate}

-- Literals of different nets

pub apart_distinct : {ls : List ℕ} → Apart ls → Distinct ls
apart_distinct Apart.empty = empty
apart_distinct (Apart.more {l = l} h r) = more (λ k. h l k refl) (apart_distinct r)

-- literals of a clause that is no tautology, none twice, are of different nets
pub apart_clause : (ls : List ℕ) → Distinct ls → ¬ Tautology ls → Apart ls
apart_clause [] d t = Apart.empty
apart_clause (l ∷ ls) (more n d) t =
    Apart.more (λ m k e. go m k (same_net m l e)) (apart_clause ls d (λ u. t (record { lit = u.lit; plain = Memᴰ.tail u.plain; inverse = Memᴰ.tail u.inverse })))
  where
    go : (m : ℕ) → Mem m ls → (m ≡ l) ⊎ (m ≡ negate l) → ⊥
    go m k (inl e) = n (Memᴰ.cast (sym e) k)
    go m k (inr e) = t (record { lit = l; plain = in_first; inverse = Memᴰ.tail (Memᴰ.cast (sym e) k) })

pub apart_once : {ls : List ℕ} → Apart ls → (a b : ℕ) → Mem a ls → Mem b ls → net a ≡ net b → a ≡ b
apart_once Apart.empty a b x7 _ e = elim x7 [ ]
apart_once (Apart.more {l = l} h r) a b (Memᴰ.head p) (Memᴰ.head q) e = p ∙ sym q
apart_once (Apart.more {l = l} h r) a b (Memᴰ.head p) (Memᴰ.tail k) e = absurd (h b k (sym e ∙ ap net p))
apart_once (Apart.more {l = l} h r) a b (Memᴰ.tail k) (Memᴰ.head q) e = absurd (h a k (e ∙ ap net q))
apart_once (Apart.more {l = l} h r) a b (Memᴰ.tail k) (Memᴰ.tail m) e = apart_once r a b k m e

apart_within : {ls : List ℕ} (ds : List ℕ) → Apart ls → Within ds ls → Distinct ds → Apart ds
apart_within [] h w d = Apart.empty
apart_within (l ∷ ds) h w (more n d) =
    Apart.more (λ m k e. n (Memᴰ.cast (sym (apart_once h m l (w m (Memᴰ.tail k)) (w l in_first) e)) k))
    (apart_within ds h (λ x k. w x (Memᴰ.tail k)) d)

pub apart_out : {k : ℕ} {ks : List ℕ} → Apart (k ∷ ks) → Mem k ks → ⊥
apart_out {k} (Apart.more h r) i = h k i refl

pub apart_inverted : (f : ℕ → Bool) {ls : List ℕ} → Apart ls → Apart (inverted f ls)
apart_inverted f Apart.empty = Apart.empty
apart_inverted f (Apart.more {l = l} {ls = ls} h r) =
    Apart.more
    (λ m k e.
    let o = mem_of_map (λ (y : ℕ). flip (f y) y) ls k in
    h o.of o.in_list (sym (ap net o.is ∙ net_flip (f o.of) o.of) ∙ e ∙ net_flip (f l) l))
    (apart_inverted f r)

-- XORs

-- the literals in any order
pub xor_same : {cs : List (List ℕ)} {ls : List ℕ} (ds : List ℕ) {odd : Bool} → XorGate cs ls odd → Same ls ds → Distinct ds → XorGate cs ds odd
xor_same {cs} {ls} ds g s d =
    record {
      three = rw (← perm_length p) g.three;
      five = rw (← perm_length p) g.five;
      apart = apart_within ds g.apart s.right d;
      all = λ f e. present_same (inverted_same f (same_sym s)) (g.all f (perm_parity f p ∙ e));
    }
  where
    p : Perm ls ds
    p = perm_of_same ls ds (apart_distinct g.apart) d s

-- one literal in front, or two
pub xor_front : {cs : List (List ℕ)} {c rest : List ℕ} {k : ℕ} {odd : Bool} → XorGate cs c odd → Pick k c rest → XorGate cs (k ∷ rest) odd
xor_front g p = xor_same _ g (pick_same p) (pick_distinct p (apart_distinct g.apart))

pub xor_front_two : {cs : List (List ℕ)} {c rest left : List ℕ} {k m : ℕ} {odd : Bool} → XorGate cs c odd → Pick k c rest → Pick m rest left → XorGate cs (k ∷ m ∷ left) odd
xor_front_two g p q = xor_front (xor_front (xor_front g p) (later q)) (later first)

-- with some literals inverted the sum changes by their number
pub xor_resign : {cs : List (List ℕ)} (ls : List ℕ) (odd : Bool) (f : ℕ → Bool) → XorGate cs ls odd → XorGate cs (inverted f ls) (plus (parity f ls) odd)
xor_resign {cs} ls odd f g =
    record {
      three = rw length-map g.three;
      five = rw length-map g.five;
      apart = apart_inverted f g.apart;
      all = λ h e. subst (Present cs) (inverted_twice f h ls) (g.all (λ x. plus (f x) (h (flip (f x) x))) (count h e));
    }
  where
    count : (h : ℕ → Bool) → parity h (inverted f ls) ≡ not (plus (parity f ls) odd) → parity (λ x. plus (f x) (h (flip (f x) x))) ls ≡ not odd
    count h e =
        parity_both f (λ x. h (flip (f x) x)) ls ∙ ap (plus (parity f ls)) (sym (parity_inverted f h ls) ∙ e)
        ∙ last (parity f ls) odd
      where
        last : (a b : Bool) → plus a (not (plus a b)) ≡ not b
        last false b = refl
        last true b = ap not (not-not b)

-- with the first literal inverted where the sum is even, the sum is odd
pub xor_upright : {cs : List (List ℕ)} {k : ℕ} {ks : List ℕ} (odd : Bool) → XorGate cs (k ∷ ks) odd → XorGate cs (flip (not odd) k ∷ ks) true
xor_upright true g = g
xor_upright {cs} {k} {ks} false g = subst₂ (XorGate cs) turned sum (xor_resign (k ∷ ks) false f g)
  where
    f : ℕ → Bool
    f = change k true (λ x. false)

    out : Mem k ks → ⊥
    out = apart_out g.apart

    turned : inverted f (k ∷ ks) ≡ negate k ∷ ks
    turned =
        ap₂ (λ (y : ℕ) (t : List ℕ). y ∷ t) (ap (λ (b : Bool). flip b k) (change_same k true (λ x. false)))
        (change_inverted k true (λ x. false) ks out ∙ none_inverted ks)

    sum : plus (parity f (k ∷ ks)) false ≡ true
    sum =
        plus_false (parity f (k ∷ ks))
        ∙ ap₂ plus (change_same k true (λ x. false)) (change_parity k true (λ x. false) ks out ∙ none_odd ks)

-- one of its clauses, with at most the first literal inverted
xor_clause : {cs : List (List ℕ)} {l : ℕ} {ls : List ℕ} {odd : Bool} → XorGate cs (l ∷ ls) odd → Present cs (inverted (change l (not odd) (λ x. false)) (l ∷ ls))
xor_clause {l = l} {ls = ls} {odd = odd} g =
    g.all (change l (not odd) (λ x. false))
    (ap₂ plus (change_same l (not odd) (λ x. false)) (change_parity l (not odd) (λ x. false) ls (apart_out g.apart) ∙ none_odd ls) ∙ plus_false (not odd))

-- its literals are of nets from 1 to V
pub xor_fits : {v : ℕ} {cs : List (List ℕ)} → Fits v cs → {ls : List ℕ} {odd : Bool} → XorGate cs ls odd → (m : ℕ) → Mem m ls → (1 ≤ net m) × (net m ≤ v)
xor_fits fit {ls = []} g m k = absurd (Memᴰ.not-nil k)
xor_fits {v = v} {cs = cs} fit {ls = l ∷ ls} {odd = odd} g m k =
    subst (λ (n : ℕ). (1 ≤ n) × (n ≤ v)) (net_flip (signs m) m)
    (fits_present fit (xor_clause g) (flip (signs m) m) (mem_map (λ (y : ℕ). flip (signs y) y) k))
  where
    signs : ℕ → Bool
    signs = change l (not odd) (λ x. false)
