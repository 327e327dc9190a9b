use mathlib.Core.Path.{◌≡◌, refl}
use native.Mathlib.Omega.{arith}
use lib.ListN.{length}
use lib.Seq.{get_or-set_same, get_or-set_other}
use Rattle.closure.proofs.Tables.{entered}
use Rattle.closure.proofs.table.KeyTable.enter.Goals as goal

pub invariant_of-self : goal.invariant_of-self
invariant_of-self g c =
    let s = c.args.self.now in
    let e = c.link.ensures in
    let buckets : length s.heads ≡ g.row.BUCKETS = omega arith in
    record { chained = entered s.chained c.args.key (omega (arith, c.requires.0)) _ _ (rw buckets e.heads) (rw buckets e.next) }

pub returns : goal.returns
returns g c =
    let s = c.args.self.now in
    record {
      count = refl;
      key_is = get_or-set_same s.keys s.count c.args.key 0 (omega (arith, c.requires.0));
      value_is = get_or-set_same s.values s.count c.args.value 0 (omega (arith, c.requires.0));
      keeps = record {
        more = omega arith;
        key = λ i l. get_or-set_other s.keys s.count i c.args.key 0 (omega arith);
        value = λ i l. get_or-set_other s.values s.count i c.args.value 0 (omega arith);
      };
      keys_are = refl;
      values_are = refl;
    }
