-- The XORs of the row stand for all XORs of the list: where the sums of equal nets are joined, every conclusion of rules 5 and 6 is.
-- Assumes nothing.
use mathlib.Core.Path.{◌≡◌, refl, sym, ◌∙◌, ap, ap₂, subst, subst⁻¹}
use mathlib.Core.Logic.{◌≢◌, inl, inr}
use mathlib.Core.Bool.{Bool, true, false, not, false≢true, not-not}
use mathlib.Core.List.{List, [], ◌∷◌, ◌++◌}
use Prim.Native.Nat.{ℕ, ◌+◌, ◌*◌, ◌<◌}
use native.Mathlib.Omega.{arith}
use lib.Dec.{eqb}
use lib.ListN.{length, get_or}
use Rattle.clauses.specs.Code.{net}
use Rattle.clauses.specs.Clause.{Same}
use Rattle.clauses.specs.Listing.{Fits}
use Rattle.clauses.proofs.Lists.{in_first, in_second}
use Rattle.clauses.proofs.Picks.{Picked, picked, perm_of_same}
use Rattle.clauses.specs.Sign.{plus, flip, is_inverse, parity, inverted}
use Rattle.gates.specs.Gate.{XorGate}
use Rattle.gates.specs.Found.{is_xor, Found}
use Rattle.clauses.specs.Row.{clause_at, Starts, LiteralAt}
use Rattle.clauses.proofs.Signs.{plus_self, plus_cancel, plus_assoc, plus_comm, flip_flip, flip_plus, net_flip, is_inverse_flip, plain_net, parity_pick, parity_append, perm_parity, parity_both, parity_inverted}
use Rattle.clauses.proofs.Rows.{literal_in, literal_of}
use Rattle.gates.proofs.Xors.{apart_distinct, xor_front, xor_resign, xor_fits}
use Rattle.rules.specs.Rule.{Cancels}
use Rattle.rules.specs.Answer.{lead_of}
use Rattle.closure.specs.Making.{Kernel, Making, JoinedBy, Rule5, Rule6}
use Rattle.closure.specs.Marked.{Marked}
use Rattle.closure.specs.RowJoined.{XorsJoined}
use Rattle.closure.specs.Xors.{LeadRow, toggled, odd_nets, odd_sign, packed, XorAt, rest_at, key_at, sum_at}
use Rattle.closure.specs.declared.tally.Tally.{Tally}
use Rattle.rules.proofs.Leads.{lead_flip}
use Rattle.rules.proofs.Cancelling.{leads_to, inverse_led, cancels_even, cancels_sign}
use Rattle.closure.proofs.OddNets.{odd_cases, odd_same}
use Rattle.closure.proofs.XorItems.{Xored, canonical, represents, sign_append}
use Rattle.closure.proofs.XorPlaces.{others_parity}

-- bits that add up with a third to equal sums are equal
plus_same : (a b c : Bool) → plus a b ≡ plus a c → b ≡ c
plus_same a b c e = sym (plus_cancel a b) ∙ ap (plus a) e ∙ plus_cancel a c

-- the sign of a literal k among bits: the sum o of the XOR, k's own sign a, and the signs r of the others, which make o odd
turned_sum : (o a r s : Bool) → plus o (plus a r) ≡ true → plus (not (plus r s)) a ≡ plus o s
turned_sum o a r s e = ap (plus (not (plus r s))) (own o a r e) ∙ last o r s
  where
    own : (o a r : Bool) → plus o (plus a r) ≡ true → a ≡ plus r (not o)
    own false false false e = absurd (false≢true e)
    own false false true e = refl
    own false true false e = refl
    own false true true e = absurd (false≢true e)
    own true false false e = refl
    own true false true e = absurd (false≢true e)
    own true true false e = absurd (false≢true e)
    own true true true e = refl

    last : (o r s : Bool) → plus (not (plus r s)) (plus r (not o)) ≡ plus o s
    last false false false = refl
    last false false true = refl
    last false true false = refl
    last false true true = refl
    last true false false = refl
    last true false true = refl
    last true true false = refl
    last true true true = refl

-- the XOR of the row, without its literal at p, that stands for an XOR and its first literal
record StandsFor (row marks old : List ℕ) (k : ℕ) (ks : List ℕ) (odd : Bool) : Type 0 where
  b : ℕ
  p : ℕ
  at : XorAt row marks b p
  nets : odd_nets (lead_of old) (rest_at row b p) ≡ odd_nets (lead_of old) ks
  sum : sum_at old row b p ≡ flip (plus odd (odd_sign (lead_of old) ks)) k

-- the literals at the other places have the sums of those that are left without the one
rest_parity : {row : List ℕ} (b p : ℕ) → LiteralAt row b p → (h : ℕ → Bool) → parity h (clause_at row b) ≡ plus (h (get_or row p 0)) (parity h (rest_at row b p))
unfolding rest_at
rest_parity b p l = others_parity l

-- each XOR of the row is one of the list
pub xor-at : {cs : List (List ℕ)} {row marks : List ℕ} (old : List ℕ) → Marked cs row marks → {b p : ℕ} → XorAt row marks b p
    → Xored cs (lead_of old) (odd_nets (lead_of old) (rest_at row b p)) (sum_at old row b p)
unfolding sum_at odd_sign
xor-at {row = row} old marked {b} {p} x =
    record {
      k = get_or row p 0;
      ks = d.rest;
      gate = xor_front (marked.xor_is b x.place.start x.marked) d.pick;
      nets_are = odd_same (lead_of old) (rest_at row b p) d.rest (λ v n. same (leads_to (lead_of old) v));
      value_is = ap (λ (s : Bool). flip (not s) (get_or row p 0)) (same (inverse_led (lead_of old)));
    }
  where
    d : Picked (get_or row p 0) (clause_at row b)
    d = picked (clause_at row b) (literal_in row b p x.place)

    same : (h : ℕ → Bool) → parity h (rest_at row b p) ≡ parity h d.rest
    same h =
        plus_same (h (get_or row p 0)) (parity h (rest_at row b p)) (parity h d.rest)
        (sym (rest_parity b p x.place h) ∙ parity_pick h d.pick)

module _ {cs : List (List ℕ)} {row marks old : List ℕ} (found : Found cs row marks) (leads : LeadRow old) where
  abbrev f : ℕ → ℕ
  f = lead_of old

  f_flip : (b : Bool) (c : ℕ) → f (flip b c) ≡ flip b (f c)
  f_flip = lead_flip f (canonical leads)

  stands_for : {k : ℕ} {ks : List ℕ} {odd : Bool} → XorGate cs (k ∷ ks) odd → StandsFor row marks old k ks odd
  unfolding sum_at odd_sign
  stands_for {k} {ks} {odd} g = go (found.xor_found (k ∷ ks) odd g)
    where
      go : ((b : ℕ) × (φ : ℕ → Bool) × Starts row b × (is_xor (get_or marks (b + length (clause_at row b)) 0) ≡ true) × Same (inverted φ (k ∷ ks)) (clause_at row b)
          × (plus odd (parity φ (k ∷ ks)) ≡ true)) → StandsFor row marks old k ks odd
      go (b, φ, start, marked, same, sum) = let o = literal_of row b start (flip (φ k) k) (same.left (flip (φ k) k) in_first) in at_place o.place o.at o.is
        where
          c : List ℕ
          c = clause_at row b

          whole : (h : ℕ → Bool) → parity h (inverted φ (k ∷ ks)) ≡ parity h c
          whole h =
              perm_parity h
              (perm_of_same (inverted φ (k ∷ ks)) c (apart_distinct (xor_resign (k ∷ ks) odd φ g).apart) (apart_distinct (found.xor_is b start marked).apart) same)

          at_place : (p : ℕ) → LiteralAt row b p → get_or row p 0 ≡ flip (φ k) k → StandsFor row marks old k ks odd
          at_place p l e =
              record {
                b = b;
                p = p;
                at = record { place = l; marked = marked };
                nets = odd_same f (rest_at row b p) ks (λ v n. rest (leads_to f v) ∙ parity_inverted φ (leads_to f v) ks ∙ unsigned v ks);
                sum =
                    ap₂ (λ (s : Bool) (x : ℕ). flip (not s) x) (rest (inverse_led f) ∙ parity_inverted φ (inverse_led f) ks ∙ signed ks) e
                    ∙ flip_plus (not (plus (parity φ ks) (parity (inverse_led f) ks))) (φ k) k
                    ∙ ap (λ (s : Bool). flip s k) (turned_sum odd (φ k) (parity φ ks) (parity (inverse_led f) ks) sum);
              }
            where
              rest : (h : ℕ → Bool) → parity h (rest_at row b p) ≡ parity h (inverted φ ks)
              rest h =
                  plus_same (h (flip (φ k) k)) (parity h (rest_at row b p)) (parity h (inverted φ ks))
                  (ap (λ (x : ℕ). plus (h x) (parity h (rest_at row b p))) (sym e) ∙ sym (rest_parity b p l h) ∙ sym (whole h))

              unsigned : (v : ℕ) (xs : List ℕ) → parity (λ x. leads_to f v (flip (φ x) x)) xs ≡ parity (leads_to f v) xs
              unsigned v [] = refl
              unsigned v (x ∷ xs) = ap₂ plus (ap (λ (n : ℕ). eqb n v) (ap net (f_flip (φ x) x) ∙ net_flip (φ x) (f x))) (unsigned v xs)

              signs : (xs : List ℕ) → parity (λ x. inverse_led f (flip (φ x) x)) xs ≡ parity (λ x. plus (φ x) (inverse_led f x)) xs
              signs [] = refl
              signs (x ∷ xs) = ap₂ plus (ap is_inverse (f_flip (φ x) x) ∙ is_inverse_flip (φ x) (f x)) (signs xs)

              signed : (xs : List ℕ) → parity (λ x. inverse_led f (flip (φ x) x)) xs ≡ plus (parity φ xs) (parity (inverse_led f) xs)
              signed xs = signs xs ∙ parity_both φ (inverse_led f) xs

  -- Where the sums of equal nets are joined, every conclusion is
  module _ (fit : Fits (length old) cs) (small : length old < 65536) {new : List ℕ} {t : Tally} (m : Making cs old new t)
      (joined : XorsJoined row marks old new t) where
    new_flip : (s : Bool) (c : ℕ) → lead_of new (flip s c) ≡ flip s (lead_of new c)
    new_flip = lead_flip (lead_of new) (record { inverse = m.inverse; again = m.again; low = m.low })

    joined_flip : (s : Bool) (a b : ℕ) → JoinedBy new t a b → JoinedBy new t (flip s a) (flip s b)
    joined_flip s a b (inl e) = inl e
    joined_flip s a b (inr e) = inr (new_flip s a ∙ ap (flip s) e ∙ sym (new_flip s b))

    joined_turn : (s : Bool) (a b : ℕ) → JoinedBy new t (flip s a) b → JoinedBy new t a (flip s b)
    joined_turn s a b j = subst (λ (x : ℕ). JoinedBy new t x (flip s b)) (flip_flip s a) (joined_flip s (flip s a) b j)

    joined_chain : (a b c : ℕ) → JoinedBy new t a b → Kernel old b c → JoinedBy new t a c
    joined_chain a b c (inl e) k = inl e
    joined_chain a b c (inr e) k = inr (e ∙ m.still b c k)

    -- an XOR of which at most one net is left
    left_alone : (k : ℕ) (ks : List ℕ) (odd : Bool) → XorGate cs (k ∷ ks) odd → (w : ℕ) → packed (odd_nets f ks) ≡ w → w < 65536
        → JoinedBy new t k (flip (plus odd (odd_sign f ks)) (2 * w))
    unfolding key_at
    left_alone k ks odd g w e h =
        joined_turn (plus odd (odd_sign f ks)) k (2 * w)
        (subst (λ (a : ℕ). JoinedBy new t a (2 * w)) s.sum
        (subst (λ (n : ℕ). JoinedBy new t (sum_at old row s.b s.p) (2 * n)) key (joined.alone s.b s.p s.at (subst⁻¹ (λ (n : ℕ). n < 65536) key h))))
      where
        s : StandsFor row marks old k ks odd
        s = stands_for g

        key : key_at old row s.b s.p ≡ w
        key = ap packed s.nets ∙ e

    none_left : {ks : List ℕ} {p : Bool} → Cancels (Kernel old) ks p → odd_nets f ks ≡ []
    unfolding odd_nets
    none_left {ks} h = odd_same f ks [] (λ v n. cancels_even f (Kernel old) (represents leads) h v n)

    sign_left : {ks : List ℕ} {p : Bool} → Cancels (Kernel old) ks p → odd_sign f ks ≡ p
    unfolding odd_sign
    sign_left h = cancels_sign f (Kernel old) (represents leads) h

    constant : (k : ℕ) (ks : List ℕ) (odd p : Bool) → XorGate cs (k ∷ ks) odd → Cancels (Kernel old) ks p → JoinedBy new t k (flip (plus odd p) 0)
    unfolding packed
    constant k ks odd p g h =
        subst (λ (s : Bool). JoinedBy new t k (flip (plus odd s) 0)) (sign_left h) (left_alone k ks odd g 0 (ap packed (none_left h)) (omega arith))

    literals : (k l : ℕ) (ks : List ℕ) (odd p : Bool) → XorGate cs (k ∷ l ∷ ks) odd → Cancels (Kernel old) ks p → JoinedBy new t k (flip (plus odd p) l)
    unfolding packed toggled odd_sign
    literals k l ks odd p g h =
        joined_chain k (flip (plus odd p) (f l)) (flip (plus odd p) l)
        (subst (JoinedBy new t k)
        (ap₂ (λ (s : Bool) (x : ℕ). flip (plus odd (plus (is_inverse (f l)) s)) x) (sign_left h) (plain_net (f l))
        ∙ flip_plus (plus odd (plus (is_inverse (f l)) p)) (is_inverse (f l)) (f l) ∙ ap (λ (s : Bool). flip s (f l)) (twice odd (is_inverse (f l)) p))
        (left_alone k (l ∷ ks) odd g (net (f l)) one below))
        (f_flip (plus odd p) (f l) ∙ ap (flip (plus odd p)) (leads.again l) ∙ sym (f_flip (plus odd p) l))
      where
        one : packed (odd_nets f (l ∷ ks)) ≡ net (f l)
        one =
            odd_cases f (λ (ns : List ℕ). packed ns ≡ net (f l)) l ks (λ e. ap packed (none_left h) ∙ sym e)
            (λ n. ap (λ (ns : List ℕ). packed (toggled (net (f l)) ns)) (none_left h) ∙ single (net (f l)))
          where
            single : (w : ℕ) → w + 65536 * 0 ≡ w
            single w = omega arith

        below : net (f l) < 65536
        below = let q = (xor_fits fit g l in_second).1 in let r = leads.low l in omega arith

        twice : (o i p : Bool) → plus (plus o (plus i p)) i ≡ plus o p
        twice o i p = sym (plus_assoc o (plus i p) i) ∙ ap (plus o) (plus_comm (plus i p) i ∙ plus_cancel i p)

    both : (k l : ℕ) (ks ls : List ℕ) (odd odd' p : Bool) → XorGate cs (k ∷ ks) odd → XorGate cs (l ∷ ls) odd' → Cancels (Kernel old) (ks ++ ls) p
        → JoinedBy new t k (flip (plus (plus odd odd') p) l)
    unfolding key_at
    both k l ks ls odd odd' p g h c =
        subst (JoinedBy new t k)
        (flip_plus (plus odd a) (plus odd' b) l ∙ ap (λ (s : Bool). flip s l) (exchange odd a odd' b ∙ ap (plus (plus odd odd')) (sym (sign_append f ks ls) ∙ sign_left c)))
        (joined_turn (plus odd a) k (flip (plus odd' b) l)
        (subst (λ (x : ℕ). JoinedBy new t x (flip (plus odd' b) l)) s.sum
        (subst (JoinedBy new t (sum_at old row s.b s.p)) u.sum
        (joined.sums s.b s.p u.b u.p s.at u.at (ap packed (s.nets ∙ odd_same f ks ls same ∙ sym u.nets))))))
      where
        s : StandsFor row marks old k ks odd
        s = stands_for g

        u : StandsFor row marks old l ls odd'
        u = stands_for h

        a : Bool
        a = odd_sign f ks

        b : Bool
        b = odd_sign f ls

        same : (v : ℕ) → v ≢ 0 → parity (leads_to f v) ks ≡ parity (leads_to f v) ls
        same v n =
            plus_same (parity (leads_to f v) ks) (parity (leads_to f v) ks) (parity (leads_to f v) ls)
            (plus_self (parity (leads_to f v) ks) ∙ sym (sym (parity_append (leads_to f v) ks ls) ∙ cancels_even f (Kernel old) (represents leads) c v n))

        exchange : (a b c d : Bool) → plus (plus a b) (plus c d) ≡ plus (plus a c) (plus b d)
        exchange false false c d = refl
        exchange false true false d = refl
        exchange false true true d = refl
        exchange true false false d = refl
        exchange true false true d = not-not d
        exchange true true false d = sym (not-not d)
        exchange true true true d = refl

    pub rule5 : Rule5 cs old new t
    rule5 = record { xor_constant = constant; xor_literals = literals }

    pub rule6 : Rule6 cs old new t
    rule6 = record { xor_xor = both }
