-- A round that is being made: from a row of old leads, a row of new leads and a tally. Only inner contracts cite these.
-- Assumes nothing.
use Rattle.std.specs.Prelude.{◌≡◌, ◌≢◌, ◌⊎◌, Bool, true, false, List, [], ◌∷◌, ◌++◌, ℕ, ◌+◌, ◌≤◌, length}
use Rattle.clauses.specs.Code.{negate, net}
use Rattle.clauses.specs.Clause.{Mem, Present}
use Rattle.clauses.specs.Sign.{plus, flip}
use Rattle.gates.specs.Gate.{Input, AndGate, XorGate, IteGate}
use Rattle.rules.specs.Rule.{Cancels, Covers}
use Rattle.rules.specs.Grouping.{Closure, Next}
use Rattle.rules.specs.Answer.{lead_of, own}
use Rattle.closure.specs.declared.tally.Tally.{Tally}

-- a and b have one lead
abbrev pub Kernel : List ℕ → ℕ → ℕ → Type 0
Kernel leads a b = lead_of leads a ≡ lead_of leads b

-- what the round from the old leads joins
abbrev pub Drawn : List (List ℕ) → List ℕ → ℕ → ℕ → Type 0
Drawn cs old = Closure (Next cs (Kernel old))

-- the new leads join only what the round joins, all that the old ones joined, and the tally counts them
pub record Making (cs : List (List ℕ)) (old row : List ℕ) (t : Tally) : Type 0 where
  pub size : length row ≡ length old
  pub inverse : (c : ℕ) → lead_of row (negate c) ≡ negate (lead_of row c)
  pub again : (c : ℕ) → lead_of row (lead_of row c) ≡ lead_of row c
  pub low : (c : ℕ) → net (lead_of row c) ≤ net c
  pub sound : (a b : ℕ) → lead_of row a ≡ lead_of row b → Drawn cs old a b
  pub still : (a b : ℕ) → Kernel old a b → lead_of row a ≡ lead_of row b
  pub clash_drawn : t.clash ≡ true → Drawn cs old 1 0
  pub groups_are : t.groups ≡ length (own (length old) row)
  pub joins_are : t.groups + t.joins ≡ length (own (length old) old)

-- the tally of a round that starts with so many groups
abbrev pub fresh : ℕ → Tally
fresh groups = record { groups = groups; joins = 0; clash = false }

-- a and b are joined by the new leads, or everything is
abbrev pub JoinedBy : List ℕ → Tally → ℕ → ℕ → Type 0
JoinedBy row t a b = (t.clash ≡ true) ⊎ (lead_of row a ≡ lead_of row b)

-- the round has gone on: what was joined still is
abbrev pub Later : List ℕ → Tally → List ℕ → Tally → Type 0
Later row t row' t' = (a b : ℕ) → JoinedBy row t a b → JoinedBy row' t' a b

-- Every conclusion of a rule, drawn from the old leads, is joined (Rule.antt has the rules).
module _ (cs : List (List ℕ)) (old row : List ℕ) (t : Tally) where
  pub record Rule1 : Type 0 where
    pub unit : (c : List ℕ) (k : ℕ) → Present cs c → Mem k c → ((x : ℕ) → Mem x c → x ≢ k → Kernel old x 0) → JoinedBy row t k 1
    pub empty_clause : Present cs [] → JoinedBy row t 1 0

  pub record Rule2 : Type 0 where
    pub equal : (a b : ℕ) → Present cs (a ∷ negate b ∷ []) → Present cs (negate a ∷ b ∷ []) → JoinedBy row t a b

  pub record Rule3 : Type 0 where
    pub and_false : (c : List ℕ) (l r : ℕ) → AndGate cs c l → Input c l r → Kernel old r 0 → JoinedBy row t l 0
    pub and_inverses : (c : List ℕ) (l r s : ℕ) → AndGate cs c l → Input c l r → Input c l s → Kernel old r (negate s) → JoinedBy row t l 0
    pub and_input : (c : List ℕ) (l r : ℕ) → AndGate cs c l → Input c l r → ((s : ℕ) → Input c l s → Kernel old s 1 ⊎ Kernel old s r) → JoinedBy row t l r

  pub record Rule4 : Type 0 where
    pub and_and : (c d : List ℕ) (l m : ℕ) → AndGate cs c l → AndGate cs d m → Covers (Kernel old) c l d m → Covers (Kernel old) d m c l → JoinedBy row t l m

  pub record Rule5 : Type 0 where
    pub xor_constant : (k : ℕ) (ks : List ℕ) (odd p : Bool) → XorGate cs (k ∷ ks) odd → Cancels (Kernel old) ks p → JoinedBy row t k (flip (plus odd p) 0)
    pub xor_literals : (k m : ℕ) (ks : List ℕ) (odd p : Bool) → XorGate cs (k ∷ m ∷ ks) odd → Cancels (Kernel old) ks p → JoinedBy row t k (flip (plus odd p) m)

  pub record Rule6 : Type 0 where
    pub xor_xor : (k m : ℕ) (ks ms : List ℕ) (odd odd' p : Bool) → XorGate cs (k ∷ ks) odd → XorGate cs (m ∷ ms) odd' → Cancels (Kernel old) (ks ++ ms) p
        → JoinedBy row t k (flip (plus (plus odd odd') p) m)

  pub record Rule7 : Type 0 where
    pub ite_then : (l c t' e : ℕ) → IteGate cs l c t' e → Kernel old c 1 → JoinedBy row t l t'
    pub ite_else : (l c t' e : ℕ) → IteGate cs l c t' e → Kernel old c 0 → JoinedBy row t l e
    pub ite_same : (l c t' e : ℕ) → IteGate cs l c t' e → Kernel old t' e → JoinedBy row t l t'

  pub record Rule8 : Type 0 where
    pub ite_ite : (l c t' e m d u f : ℕ) → IteGate cs l c t' e → IteGate cs m d u f → Kernel old c d → Kernel old t' u → Kernel old e f → JoinedBy row t l m

  -- every conclusion of every rule is joined
  pub record Rules : Type 0 where
    pub one : Rule1
    pub two : Rule2
    pub three : Rule3
    pub four : Rule4
    pub five : Rule5
    pub six : Rule6
    pub seven : Rule7
    pub eight : Rule8
