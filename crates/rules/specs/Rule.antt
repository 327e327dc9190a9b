-- How nets are joined: the conclusions that rules 1 to 8 draw from a grouping G.
-- Assumes nothing.
use Rattle.std.specs.Prelude.{◌≢◌, ◌⊎◌, Bool, false, List, [], ◌∷◌, ◌++◌, ℕ}
use Rattle.clauses.specs.Code.{negate}
use Rattle.clauses.specs.Clause.{Mem, Present}
use Rattle.clauses.specs.Lists.{Pick}
use Rattle.clauses.specs.Sign.{plus, flip}
use Rattle.gates.specs.Gate.{Input, AndGate, XorGate, IteGate}

-- 'A bag of literals cancels if, each replaced by its lead, equal nets drop out in pairs, signs and T being kept as parity, and no net
-- remains': the bag's first literal is joined to a constant, or to a later literal or its inverse, and the rest cancels; and the parity.
pub data Cancels (G : ℕ → ℕ → Type 0) : List ℕ → Bool → Type 0 where
  none : Cancels G [] false
  constant : {x : ℕ} {xs : List ℕ} {p : Bool} (b : Bool) → G x (flip b 0) → Cancels G xs p → Cancels G (x ∷ xs) (plus b p)
  pair : {x y : ℕ} {xs ys : List ℕ} {p : Bool} (b : Bool) → Pick y xs ys → G x (flip b y) → Cancels G ys p → Cancels G (x ∷ xs) (plus b p)

-- every input of the AND of c and l is joined to T or to some input of the AND of d and m
abbrev pub Covers : (ℕ → ℕ → Type 0) → List ℕ → ℕ → List ℕ → ℕ → Type 0
Covers G c l d m = (r : ℕ) → Input c l r → G r 1 ⊎ ((s : ℕ) × Input d m s × G r s)

-- the rules draw from G that a is joined to b
pub data Concludes (cs : List (List ℕ)) (G : ℕ → ℕ → Type 0) : ℕ → ℕ → Type 0 where
  -- 1. 'A clause whose literals other than k are all joined to F: k is joined to T.'
  unit : {c : List ℕ} {k : ℕ} → Present cs c → Mem k c → ((x : ℕ) → Mem x c → x ≢ k → G x 0) → Concludes cs G k 1
  -- 1. 'An empty clause joins T to F.'
  empty_clause : Present cs [] → Concludes cs G 1 0
  -- 2. 'Clauses (a, not b) and (not a, b): a is joined to b.'
  equal : {a b : ℕ} → Present cs (a ∷ negate b ∷ []) → Present cs (negate a ∷ b ∷ []) → Concludes cs G a b
  -- 3. 'AND with an input joined to F ..: l is joined to F.'
  and_false : {c : List ℕ} {l r : ℕ} → AndGate cs c l → Input c l r → G r 0 → Concludes cs G l 0
  -- 3. 'AND with .. two inputs joined as inverses: l is joined to F.'
  and_inverses : {c : List ℕ} {l r s : ℕ} → AndGate cs c l → Input c l r → Input c l s → G r (negate s) → Concludes cs G l 0
  -- 3. 'With an input r such that every input is joined to T or to r: l is joined to r.'
  and_input : {c : List ℕ} {l r : ℕ} → AndGate cs c l → Input c l r → ((s : ℕ) → Input c l s → G s 1 ⊎ G s r) → Concludes cs G l r
  -- 4. 'Two ANDs, where every input of each is joined to T or to some input of the other: the outputs are joined.'
  and_and : {c d : List ℕ} {l m : ℕ} → AndGate cs c l → AndGate cs d m → Covers G c l d m → Covers G d m c l → Concludes cs G l m
  -- 5. 'If a constraint without one literal k cancels, k is joined to the constant that the sum requires.'
  xor_constant : {k : ℕ} {ks : List ℕ} {odd p : Bool} → XorGate cs (k ∷ ks) odd → Cancels G ks p → Concludes cs G k (flip (plus odd p) 0)
  -- 5. 'If it cancels without two literals, they are joined as equals or inverses, as the sum requires.'
  xor_literals : {k m : ℕ} {ks : List ℕ} {odd p : Bool} → XorGate cs (k ∷ m ∷ ks) odd → Cancels G ks p → Concludes cs G k (flip (plus odd p) m)
  -- 6. 'Two XOR constraints: if the first without k and the second without m cancel together, k and m are joined as the two sums require.'
  xor_xor : {k m : ℕ} {ks ms : List ℕ} {odd odd' p : Bool} → XorGate cs (k ∷ ks) odd → XorGate cs (m ∷ ms) odd' → Cancels G (ks ++ ms) p
      → Concludes cs G k (flip (plus (plus odd odd') p) m)
  -- 7. 'ITE: c joined to T joins l to t;'
  ite_then : {l c t e : ℕ} → IteGate cs l c t e → G c 1 → Concludes cs G l t
  -- 7. 'c joined to F joins l to e;'
  ite_else : {l c t e : ℕ} → IteGate cs l c t e → G c 0 → Concludes cs G l e
  -- 7. 't joined to e joins l to t.'
  ite_same : {l c t e : ℕ} → IteGate cs l c t e → G t e → Concludes cs G l t
  -- 8. 'Two ITEs with c, t, e joined in that order, or with c joined to the other's inverse and t, e crossed: outputs joined. The same holds
  -- with one gate written with l, t and e all inverted.' A gate written so is an IteGate too.
  ite_ite : {l c t e m d u f : ℕ} → IteGate cs l c t e → IteGate cs m d u f → G c d → G t u → G e f → Concludes cs G l m
