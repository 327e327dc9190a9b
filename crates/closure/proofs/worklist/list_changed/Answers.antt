use Rattle.std.proofs.Common.{List, Bool, false, get_or, sym, refl, ap, ◌∙◌}
use Rattle.std.proofs.lemmas.List.{length-take-le}
use Rattle.closure.proofs.WorklistSteps.{working_fits, working_room, working_rest, listing_none, list_made, made_rest, holds_changed}
use Rattle.closure.proofs.worklist.list_changed.Goals as goal

pub list_moved-requires : goal.list_moved-requires
list_moved-requires c =
    let p = c.requires in record {
      older_len = (p.older_len.0, p.older_len.2);
      listing = listing_none c.args.occurrences.now.codes.now _ refl refl p.unseen p.codes_in_bounds.1 p.codes_in_bounds.0;
    }

pub slice_bounds-release_list-end : goal.slice_bounds-release_list-end
slice_bounds-release_list-end c = let l = c.list_moved.ensures.listed.listing in working_room l.working l.list_room

pub slice_bounds-release_list-end-2 : goal.slice_bounds-release_list-end-2
slice_bounds-release_list-end-2 c =
    let l = c.list_moved.ensures.listed.listing in
    let w = c.list_moved.new.self in
    sym (length-take-le w.work.clauses w.list.now (working_room l.working l.list_room))

pub returns-clause-list : goal.returns-clause-list
returns-clause-list c = let e = c.list_moved.ensures.listed in list_made e.listing _ (c.list-1.given.1.0 (sym e.list_same)) _ e.list_size

pub returns-clause-holds : goal.returns-clause-holds
returns-clause-holds c =
    let a = c.args in
    let o = a.occurrences.now in
    let p = c.requires in
    let e = c.list_moved.ensures in
    λ marks x.
    holds_changed o.codes.now marks o.starts.now o.reads.now o.occurs.now o.links.now a.older.now a.old.now c.list_moved.new.self.seen.now x p.older_len.1 p.older_len.0 e.told _ (made_rest e.listed.listing _ (c.list-1.given.1.0 (sym e.listed.list_same)))

pub returns-clause-seen : goal.returns-clause-seen
returns-clause-seen c =
    let e = c.list_moved.ensures.listed in
    λ q. ap (λ (s : List Bool). get_or s q false) (c.seen-2-1.given.1.0 (sym e.seen_same)) ∙ c.release_list.ensures q (working_rest e.listing.working e.listing.list_room q)

pub returns-clause-room : goal.returns-clause-room
returns-clause-room c = working_fits c.list_moved.ensures.listed.listing.working
