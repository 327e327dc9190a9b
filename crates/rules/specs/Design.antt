-- A design as its designer draws it: gates and levels, and the clauses that a gate is written in.
-- Assumes nothing.
use Rattle.std.specs.Prelude.{◌≢◌, Bool, true, cond, ℕ, ◌≤◌, ◌<◌, length}
use mathlib.Core.List.{List, [], ◌∷◌, map, Memᴰ}
use Rattle.clauses.specs.Code.{negate, net}
use Rattle.clauses.specs.Clause.{Mem, Included}
use Rattle.clauses.specs.Lists.{all, each}
use Rattle.clauses.specs.Sign.{parity}
use Rattle.gates.specs.Gate.{Apart}
use Rattle.gates.specs.Listing.{signings}

-- A gate, by its pins, the output first. A pin is a literal: a net as it stands or inverted, so that OR, NAND and NOR are ANDs too.
pub data Gate : Type 0 where
  -- of one input it is a buffer or an inverter, and of none its output pin is tied to T
  and : ℕ → List ℕ → Gate
  xor : ℕ → List ℕ → Gate
  -- the multiplexer l = c ? t : e
  ite : (l c t e : ℕ) → Gate

abbrev pub output : Gate → ℕ
output (and l rs) = l
output (xor l rs) = l
output (ite l c t e) = l

abbrev pub inputs : Gate → List ℕ
inputs (and l rs) = rs
inputs (xor l rs) = rs
inputs (ite l c t e) = c ∷ t ∷ e ∷ []

-- the value that a gate gives its output
abbrev pub computes : (ℕ → Bool) → Gate → Bool
computes value (and l rs) = all value rs
computes value (xor l rs) = parity value rs
computes value (ite l c t e) = cond (value c) (value t) (value e)

-- the clauses that say so, its Tseitin encoding (`encoding_true`, proofs/Encodings)
abbrev pub encoding : Gate → List (List ℕ)
encoding (and l rs) = (l ∷ map negate rs) ∷ map (λ r. negate l ∷ r ∷ []) rs
encoding (xor l rs) = signings (l ∷ rs) true
encoding (ite l c t e) = (negate c ∷ negate l ∷ t ∷ []) ∷ (negate c ∷ l ∷ negate t ∷ []) ∷ (c ∷ negate l ∷ e ∷ []) ∷ (c ∷ l ∷ negate e ∷ []) ∷ []

-- the clauses of a design, which is a list of gates
abbrev pub encodings : List Gate → List (List ℕ)
encodings gs = each gs encoding

-- Which pins may be on one net, and how many inputs there may be. Of gates with other pins the rules know some only as gates of another kind: an
-- XOR of one input is a buffer and of none a tie, a multiplexer whose t and e are inverses is an XOR. Others they do not know at all.
abbrev pub ProperPins : Gate → Type 0
-- no input is on the output's net, and none stands beside its inverse; one may stand twice
ProperPins (and l rs) = (r : ℕ) → Mem r rs → (net r ≢ net l) × ¬ Mem (negate r) rs
-- all pins are on different nets; there are two to four inputs
ProperPins (xor l rs) = Apart (l ∷ rs) × (2 ≤ length rs) × (length rs ≤ 4)
-- only t and e may be on one net, and not as inverses
ProperPins (ite l c t e) = Apart (l ∷ c ∷ t ∷ []) × Apart (l ∷ c ∷ e ∷ []) × (e ≢ negate t)

-- The list holds every clause of the gate, as sets. So its operands stand in any order, and ways to write it that give the same clauses are one.
pub record HoldsGate (cs : List (List ℕ)) (g : Gate) : Type 0 where
  pub proper : ProperPins g
  pub clauses : Included (encoding g) cs

-- Each gate's output is of a higher level than its inputs: the design has no combinational loop. Any such levels will do, for
-- one the number of gates on the longest path to a net.
abbrev pub Levelized : List Gate → (ℕ → ℕ) → Type 0
Levelized gs level = (g : Gate) → Memᴰ g gs → (x : ℕ) → Mem x (inputs g) → level (net x) < level (net (output g))
