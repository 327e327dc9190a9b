use Rattle.closure.proofs.Joining.{join_clashed, join_same, join_inverses, join_lower, join_higher}
use Rattle.closure.proofs.tally.Tally.join.Goals as goal
use Rattle.closure.proofs.tally.Tally.join.Goals.{then-self-via-then-self, then-self-via-else-self+then-x-y, then-x-y-3, else-x-y-3}

pub returns-then-self : goal.returns-then-self
returns-then-self c =
    let s = c.args in
    let x = c.lead_of-x in
    let y = c.lead_of-y in
    elim c.then-self.branch [
      | then-self-via-then-self w ↦ join_clashed s.leads.now s.self s.a s.b x.result y.result x.ensures y.ensures w.if-self.true
      | then-self-via-else-self+then-x-y w ↦ join_same s.leads.now s.self s.a s.b x.result y.result x.ensures y.ensures w.if-self.false w.if-x-y.true
    ]

pub returns-then-x-y-2 : goal.returns-then-x-y-2
returns-then-x-y-2 c =
    let s = c.args in
    let x = c.lead_of-x in
    let y = c.lead_of-y in
    join_inverses s.leads.now s.self s.a s.b x.result y.result x.ensures y.ensures c.if-self.false c.if-x-y.false c.if-x-y-2.true

pub returns : goal.returns
returns c =
    let s = c.args in
    let x = c.lead_of-x in
    let y = c.lead_of-y in
    let row = s.leads.now in
    elim c.if-x-y-3.branch [
      | then-x-y-3 w ↦ rw (c.fewer.ensures, w.leads-is) (join_lower row s.self s.a s.b x.result y.result x.ensures y.ensures c.if-self.false c.if-x-y.false c.if-x-y-2.false w.if-x-y-3.true _ w.replace_all.ensures)
      | else-x-y-3 w ↦ rw (c.fewer.ensures, w.leads-is) (join_higher row s.self s.a s.b x.result y.result x.ensures y.ensures c.if-self.false c.if-x-y.false c.if-x-y-2.false w.if-x-y-3.false _ w.replace_all-else-x-y-3.ensures)
    ]
