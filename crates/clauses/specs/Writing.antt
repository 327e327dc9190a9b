-- Bytes put into a lent buffer, one after another.
-- Assumes nothing.
use Rattle.std.specs.Prelude.{◌≡◌, List, ℕ, ◌+◌, length}
use Rattle.std.proofs.lemmas.List.Edits.{sets}

-- the buffer with the bytes from a place on, and the place after them
pub record Wrote (buffer : List ℕ) (at : ℕ) (bytes : List ℕ) (after : List ℕ) (next : ℕ) : Type 0 where
  pub content : after ≡ sets buffer at bytes
  pub end : next ≡ at + length bytes
