use mathlib.Core.List.{[], ◌∷◌}
use native.Mathlib.Omega.{arith}
use lib.ListN.{length-append}
use Rattle.clauses.specs.Bytes.{space, lf}
use Rattle.clauses.specs.Number.{decimal}
use Rattle.clauses.proofs.Writes.{wrote_then}
use Rattle.clauses.proofs.Texts.{header_length, header_parts}
use Rattle.clauses.proofs.printing.print_header.Goals as goal

pub put_bytes-nets-requires : goal.put_bytes-nets-requires
put_bytes-nets-requires c = omega (arith, c.requires, header_length c.args.sizes.nets c.args.sizes.clauses)

pub put_word-clauses-requires : goal.put_word-clauses-requires
put_word-clauses-requires c =
    let s = c.args in
    omega (arith, c.requires, c.put_bytes-nets.ensures.end, c.put_bytes-nets.auto.text, header_length s.sizes.nets s.sizes.clauses, length-append (decimal s.sizes.nets) (space ∷ []))

pub put_word-requires : goal.put_word-requires
put_word-requires c =
    let s = c.args in
    omega (
      arith,
      c.requires,
      c.put_bytes-nets.ensures.end,
      c.put_bytes-nets.auto.text,
      c.put_word-clauses.ensures.end,
      c.put_word-clauses.auto.text,
      header_length s.sizes.nets s.sizes.clauses,
      length-append (decimal s.sizes.nets) (space ∷ []),
      length-append (decimal s.sizes.clauses) (lf ∷ []),
    )

pub returns : goal.returns
returns c =
    rw (← header_parts c.args.sizes.nets c.args.sizes.clauses)
    (wrote_then (wrote_then c.put_bytes-nets.ensures c.put_word-clauses.ensures) c.put_word.ensures)
