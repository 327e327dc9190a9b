use Rattle.std.proofs.Common.{true, refl, arith}
use Rattle.std.proofs.lemmas.List.{length-set}
use Rattle.closure.proofs.WorklistSteps.{more_fits, list_room, working_more, more_seen}
use Rattle.closure.proofs.worklist.Worklist.list_clause.Goals as goal

pub offset_bounds-self-self : goal.offset_bounds-self-self
offset_bounds-self-self c =
    let p = c.requires in
    omega (arith, more_fits p.listing.working c.args.b p.ended.1 p.ended.0 p.listing.seen_room p.listing.list_room c.if-self-b.false, p.listing.working.low, p.ended.2)

pub bounds-self-self : goal.bounds-self-self
bounds-self-self c = let p = c.requires in list_room p.listing.working c.args.b p.ended.1 p.ended.0 p.listing.seen_room p.listing.list_room c.if-self-b.false

pub overflow_add-self : goal.overflow_add-self
overflow_add-self c =
    let p = c.requires in
    omega (arith, more_fits p.listing.working c.args.b p.ended.1 p.ended.0 p.listing.seen_room p.listing.list_room c.if-self-b.false, p.listing.working.low, p.ended.2)

pub overflow_add-self-3 : goal.overflow_add-self-3
overflow_add-self-3 c =
    let p = c.requires in
    omega (arith, more_fits p.listing.working c.args.b p.ended.1 p.ended.0 p.listing.seen_room p.listing.list_room c.if-self-b.false, c.clause_end-e.ensures, p.ended.2)

pub returns-clause-listed : goal.returns-clause-listed
returns-clause-listed c =
    let p = c.requires in
    let b = c.args.b in
    let w = p.listing.working in
    record {
      listing = record {
        working = working_more w b p.ended.1 p.ended.0 p.listing.seen_room p.listing.list_room c.if-self-b.false _ (omega (arith, c.clause_end-e.ensures));
        list_room = omega (arith, p.listing.list_room, length-set c.args.self.now.list.now c.args.self.now.work.clauses b);
        seen_room = omega (arith, p.listing.seen_room, length-set c.args.self.now.seen.now b true);
      };
      keeps = (more_seen w b p.ended.1 p.ended.0 p.listing.seen_room p.listing.list_room c.if-self-b.false).0;
      list_same = refl;
      seen_same = refl;
      list_size = length-set _ _ _;
      seen_size = length-set _ _ _;
    }
