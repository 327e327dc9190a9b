-- A gate of fewer clauses is a gate of more: what is a gate of one list is one of every list that holds its clauses. That is the renaming of gates
-- with no name changed.
-- Assumes nothing.
use mathlib.Core.Path.{subst}
use mathlib.Core.Bool.{Bool}
use mathlib.Core.List.{List, map-id}
use Prim.Native.Nat.{ℕ}
use Rattle.clauses.specs.Clause.{Included}
use Rattle.clauses.proofs.Renaming.{same_names, images_included}
use Rattle.gates.specs.Gate.{AndGate, XorGate, IteGate}
use Rattle.gates.proofs.Renamed.{and_renamed, xor_renamed, ite_renamed}

module _ {cs ds : List (List ℕ)} (more : Included cs ds) where
  pub and_present : {c : List ℕ} {l : ℕ} → AndGate cs c l → AndGate ds c l
  and_present {c} {l} g = subst (λ (d : List ℕ). AndGate ds d l) (map-id c) (and_renamed (λ x. x) (λ x. x) same_names cs ds (images_included more) g)

  pub xor_present : {ls : List ℕ} {odd : Bool} → XorGate cs ls odd → XorGate ds ls odd
  xor_present {ls} {odd} g = subst (λ (ms : List ℕ). XorGate ds ms odd) (map-id ls) (xor_renamed (λ x. x) (λ x. x) same_names cs ds (images_included more) g)

  pub ite_present : {l c t e : ℕ} → IteGate cs l c t e → IteGate ds l c t e
  ite_present = ite_renamed (λ x. x) (λ x. x) same_names cs ds (images_included more)
