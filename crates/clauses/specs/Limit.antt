-- The limits of document 01, each once.
-- Assumes nothing.
use Rattle.std.specs.Prelude.{ℕ}

-- bytes of a text
abbrev pub max_text : ℕ
max_text = 65536

-- V
abbrev pub max_nets : ℕ
max_nets = 1024

-- C
abbrev pub max_clauses : ℕ
max_clauses = 4096

-- entries of a literal row
abbrev pub max_entries : ℕ
max_entries = 16384
