use Rattle.std.proofs.Common.{◌≡◌, ℕ, length, subst, arith}
use Rattle.clauses.specs.Chains.{Chained}
use Rattle.closure.specs.Occurrences.{net_at}
use Rattle.closure.proofs.OccurrenceIndex.{places_start}
use Rattle.closure.proofs.occurrences.index_row.Goals as goal

pub invariant_of-result : goal.invariant_of-result
invariant_of-result c =
    let a = c.args in
    let p = c.requires in
    let l = c.loop-q in
    let e : l.q ≡ length a.codes.now = omega (arith, c.loop-q-test.false, l.auto.q-end) in record {
      ended = p.ended.0;
      entries = omega (arith, p.ended.2);
      clauses = places_start a.codes.now a.marks.now c.list_clauses.new.starts c.list_clauses.new.reads c.list_clauses.ensures;
      rooms = (omega (arith, c.list_clauses.auto, p.codes_in_bounds), omega (arith, c.list_clauses.auto, p.codes_in_bounds), omega (arith, l.auto.links, p.codes_in_bounds));
      chains = subst (λ (q : ℕ). Chained (net_at a.codes.now) q l.occurs l.links) e l.invariant;
    }
