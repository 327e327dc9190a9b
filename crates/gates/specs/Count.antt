-- The three counts of gates, computed.
-- Assumes nothing.
use Rattle.std.specs.Prelude.{Bool, true, false, not, ◌&&◌, List, [], ◌∷◌, ℕ, length}
use Rattle.clauses.specs.Lists.{all, keep, each, only, choose}
use Rattle.clauses.specs.Listing.{present}
use Rattle.clauses.specs.Sign.{is_inverse}
use Rattle.clauses.specs.Code.{nets_of}
use Rattle.gates.specs.Listing.{ands, signings, Ite, ites}

-- the n of IsAndCount cs n
unfoldable pub and_count : List (List ℕ) → ℕ
and_count cs = length (ands cs)

-- a set of nets, and whether their sum is odd
pub record Xor : Type 0 where
  pub nets : List ℕ
  pub odd : Bool

-- the XORs over plain nets
unfoldable pub xors : ℕ → List (List ℕ) → List Xor
xors v cs =
    each (3 ∷ 4 ∷ 5 ∷ []) (λ k.
    each (choose k (nets_of v)) (λ ws.
    each (true ∷ false ∷ []) (λ odd.
    only (all (present cs) (signings ws (not odd))) (record { nets = ws; odd = odd } ∷ []))))

-- the n of IsXorCount cs n
unfoldable pub xor_count : ℕ → List (List ℕ) → ℕ
xor_count v cs = length (xors v cs)

-- l and c are plain nets
unfoldable pub is_plain : Ite → Bool
is_plain g = not (is_inverse g.l) && not (is_inverse g.c)

-- the n of IsIteCount cs n
unfoldable pub ite_count : ℕ → List (List ℕ) → ℕ
ite_count v cs = length (keep is_plain (ites v cs))
