-- A design and its copy in one clause list, and a comparison of their outputs. What is asked of the list is that clauses are present: more
-- clauses and more rules take nothing away.
-- Assumes nothing.
use Rattle.std.specs.Prelude.{◌≡◌, ◌≢◌, ℕ, suc, ◌*◌, ◌≤◌, ◌<◌}
use mathlib.Core.List.{List, [], ◌∷◌, map, Memᴰ}
use Rattle.clauses.specs.Code.{negate, net}
use Rattle.clauses.specs.Clause.{Mem, Present}
use Rattle.rules.specs.Design.{Gate, and, xor, ite, output, HoldsGate, Levelized}

-- a gate's copy, ρ taking each literal to its copy
abbrev pub copy_of : (ℕ → ℕ) → Gate → Gate
copy_of ρ (and l rs) = and (ρ l) (map ρ rs)
copy_of ρ (xor l rs) = xor (ρ l) (map ρ rs)
copy_of ρ (ite l c t e) = ite (ρ l) (ρ c) (ρ t) (ρ e)

-- why net w, of a level over 0, equals its copy
pub data EqualsCopy (cs : List (List ℕ)) (gs : List Gate) (ρ : ℕ → ℕ) (w : ℕ) : Type 0 where
  -- it is the output of a gate, plain or inverted
  driven : {g : Gate} → Memᴰ g gs → net (output g) ≡ w → EqualsCopy cs gs ρ w
  -- it is an input that a buffer or an inverter wires to its copy
  wired : HoldsGate cs (and (2 * w) (ρ (2 * w) ∷ [])) → EqualsCopy cs gs ρ w

-- The list holds the design gs and its copy. Nets of the copy have any names, and two nets of the design may have one copy.
pub record Copied (cs : List (List ℕ)) (gs : List Gate) (ρ level : ℕ → ℕ) : Type 0 where
  -- A loop can hold different states in the design and in the copy: of 3 = 1 AND 4, 4 = 2 AND 3 and the copies 5 = 1 AND 6, 6 = 2 AND 5,
  -- 1 and 2 being true, 3 and 4 may be false, 5 and 6 true (`loop_differs`, proofs/CopyExamples).
  pub levelized : Levelized gs level
  -- A net is copied as it stands or inverted, for all its uses alike: else a gate that takes its inverse could take another net in the copy.
  pub inverses : (x : ℕ) → ρ (negate x) ≡ negate (ρ x)
  -- Without a gate, or without its copy, nothing ties that output to its inputs.
  pub design : (g : Gate) → Memᴰ g gs → HoldsGate cs g
  pub copy : (g : Gate) → Memᴰ g gs → HoldsGate cs (copy_of ρ g)
  -- A net of level 0 is its own copy, as an input that both share, net 0, which stands for the constants, and a net that is not of the design. Any
  -- other is driven or wired: inputs that are neither shared nor wired can differ.
  pub shared : (w : ℕ) → level w ≡ 0 → ρ (2 * w) ≡ 2 * w
  pub equal : (w : ℕ) → 0 < level w → EqualsCopy cs gs ρ w

-- Literal x of a comparison can be true only if an output differs from its copy (`differs_true`, proofs/Comparisons); n is over the outputs' levels,
-- by one more for each gate in between. Any literal o may be compared; what the outputs of a design are is not said. But for `by-ands`
-- it is not its own copy, as `ProperPins` asks: of x = o XOR o two clauses are left, which the rules do not know as a gate.
pub data Differs (cs : List (List ℕ)) (ρ level : ℕ → ℕ) : ℕ → ℕ → Type 0 where
  -- the XOR of an output and its copy
  by-xor : {n x o : ℕ} → level (net o) < n → HoldsGate cs (xor x (o ∷ ρ o ∷ [])) → Differs cs ρ level n x
  -- an AND of an output and the inverse of its copy: one half of an XOR that is an OR of two ANDs
  by-and : {n x o : ℕ} {rs : List ℕ} → level (net o) < n → HoldsGate cs (and x rs) → Mem o rs → Mem (negate (ρ o)) rs → Differs cs ρ level n x
  -- an XOR made of three ANDs: neither p, 'both are true', nor q, 'both are false'
  by-ands : {n x o p q : ℕ} {rs : List ℕ} → level (net o) < n → HoldsGate cs (and p (o ∷ ρ o ∷ [])) → HoldsGate cs (and q (negate o ∷ negate (ρ o) ∷ []))
      → HoldsGate cs (and x rs) → Mem (negate p) rs → Mem (negate q) rs → Differs cs ρ level (suc n) x
  -- an OR of such literals, of which only this clause matters: x is false or one of them is true
  by_or : {n x : ℕ} {c : List ℕ} → Present cs c → Mem (negate x) c → ((y : ℕ) → Mem y c → y ≢ negate x → Differs cs ρ level n y)
      → Differs cs ρ level (suc n) x

-- The list says that some output differs from its copy, as a miter does (`miter_true`, proofs/Comparisons); n bounds the rounds.
pub data Miter (cs : List (List ℕ)) (ρ level : ℕ → ℕ) : ℕ → Type 0 where
  -- by a clause of one such literal
  asserted : {n x : ℕ} → Differs cs ρ level n x → Present cs (x ∷ []) → Miter cs ρ level n
  -- by a clause of several
  some_of : {n : ℕ} {c : List ℕ} → ((x : ℕ) → Mem x c → Differs cs ρ level n x) → Present cs c → Miter cs ρ level (suc n)
  -- by an output that is wired to the inverse of its copy
  opposed : {n o : ℕ} → level (net o) ≤ n → HoldsGate cs (and o (negate (ρ o) ∷ [])) → Miter cs ρ level n
