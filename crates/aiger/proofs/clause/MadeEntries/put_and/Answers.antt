use mathlib.Core.List.{◌∷◌, []}
use native.Mathlib.Omega.{arith}
use Rattle.aiger.proofs.Entries.{clause_few, made_and}
use Rattle.aiger.proofs.Stores.{put_then, put_room}
use Rattle.aiger.proofs.clause.MadeEntries.put_and.Goals as goal

pub put_clause-requires-2-clause-room : goal.put_clause-requires-2-clause-room
put_clause-requires-2-clause-room c = put_room c.put_clause.ensures 10 3 c.requires.room (omega (arith, clause_few (c.inverse-off.result ∷ c.args.g.left ∷ [])))

pub put_clause-requires-3-clause-room : goal.put_clause-requires-3-clause-room
put_clause-requires-3-clause-room c =
    put_room c.put_clause-2.ensures 7 4 (put_room c.put_clause.ensures 10 7 c.requires.room (omega (arith, clause_few (c.inverse-off.result ∷ c.args.g.left ∷ []))))
    (omega (arith, clause_few (c.inverse-off.result ∷ c.args.g.right ∷ [])))

pub returns : goal.returns
returns c =
    rw (made_and c.args.g)
    (put_then (rw c.inverse-off.ensures at c.put_clause.ensures)
    (put_then (rw c.inverse-off.ensures at c.put_clause-2.ensures) (rw (c.inverse.ensures, c.inverse-2.ensures) at c.put_clause-3.ensures)))
