use mathlib.Core.List.{[]}
use native.Mathlib.Omega.{arith}
use Rattle.clauses.proofs.Writes.{wrote_then}
use Rattle.sheet.specs.Sheet.{answer_of, numbers_text}
use Rattle.sheet.proofs.Texts.{numbers_length}
use Rattle.sheet.proofs.lines.put_numbers.Goals as goal

pub put_word-nets-requires : goal.put_word-nets-requires
put_word-nets-requires c =
    let start = c in
    omega (arith, start.requires, numbers_length start.args.v (answer_of start.args.s []))

pub put_word-ands-requires : goal.put_word-ands-requires
put_word-ands-requires c =
    let start = c in
    omega (arith, start.requires, numbers_length start.args.v (answer_of start.args.s []), c.put_word-nets.ensures.end, c.put_word-nets.auto.text)

pub put_word-xors-requires : goal.put_word-xors-requires
put_word-xors-requires c =
    let start = c in
    omega (arith, start.requires, numbers_length start.args.v (answer_of start.args.s []), c.put_word-ands.ensures.end, c.put_word-ands.auto.text, c.put_word-nets.ensures.end, c.put_word-nets.auto.text)

pub put_word-ites-requires : goal.put_word-ites-requires
put_word-ites-requires c =
    let start = c in
    omega (arith, start.requires, numbers_length start.args.v (answer_of start.args.s []), c.put_word-xors.ensures.end, c.put_word-xors.auto.text, c.put_word-ands.ensures.end, c.put_word-ands.auto.text, c.put_word-nets.ensures.end, c.put_word-nets.auto.text)

pub put_word-groups-requires : goal.put_word-groups-requires
put_word-groups-requires c =
    let start = c in
    omega (arith, start.requires, numbers_length start.args.v (answer_of start.args.s []), c.put_word-ites.ensures.end, c.put_word-ites.auto.text, c.put_word-xors.ensures.end, c.put_word-xors.auto.text, c.put_word-ands.ensures.end, c.put_word-ands.auto.text, c.put_word-nets.ensures.end, c.put_word-nets.auto.text)

pub put_word-requires : goal.put_word-requires
put_word-requires c =
    let start = c in
    omega (arith, start.requires, numbers_length start.args.v (answer_of start.args.s []), c.put_word-groups.ensures.end, c.put_word-groups.auto.text, c.put_word-ites.ensures.end, c.put_word-ites.auto.text, c.put_word-xors.ensures.end, c.put_word-xors.auto.text, c.put_word-ands.ensures.end, c.put_word-ands.auto.text, c.put_word-nets.ensures.end, c.put_word-nets.auto.text)

pub returns : goal.returns
unfolding numbers_text
returns c =
    wrote_then c.put_word-nets.ensures (wrote_then c.put_word-ands.ensures (wrote_then c.put_word-xors.ensures (wrote_then c.put_word-ites.ensures (wrote_then c.put_word-groups.ensures c.put_word.ensures))))
