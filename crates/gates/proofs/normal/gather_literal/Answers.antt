use mathlib.Core.Path.{◌≡◌, sym, ◌∙◌, ap}
use mathlib.Core.Bool.{cond, ◌||◌}
use mathlib.Core.List.{List}
use Prim.Native.Nat.{ℕ, ◌+◌, ◌≤◌}
use native.Mathlib.Omega.{arith}
use lib.Dec.{eqb}
use lib.ListN.{length, get_or, set, length-set}
use borrow.Author.Tests.{eq-eqb, ne_eqb}
use Rattle.clauses.specs.Code.{code_of, negate}
use Rattle.clauses.proofs.Signed.{code_small, read_back}
use Rattle.gates.specs.Normal.{max_code}
use Rattle.gates.proofs.normal.gather_literal.Goals as goal
use Rattle.gates.proofs.normal.gather_literal.Goals.{then-seen-y, else-seen-y, then-seen-inverse, else-seen-inverse}

pub code-y-requires : goal.code-y-requires
code-y-requires c = rw (read_back c.args.x c.ranges.x.sfits) c.requires.2

pub inverse-requires : goal.inverse-requires
inverse-requires c = tt

pub overflow_cast-inverse : goal.overflow_cast-inverse
overflow_cast-inverse c =
    let coded : c.code-y.result ≡ (code_of c.args.x) = c.code-y.ensures ∙ ap code_of (read_back c.args.x c.ranges.x.sfits) in
    let bounded : c.code-y.result ≤ max_code = omega (arith, coded, code_small c.args.x 1024 c.requires.2) in
    omega (arith, bounded, c.inverse.ensures)

pub offset_bounds-seen-inverse : goal.offset_bounds-seen-inverse
offset_bounds-seen-inverse c =
    let coded : c.code-y.result ≡ (code_of c.args.x) = c.code-y.ensures ∙ ap code_of (read_back c.args.x c.ranges.x.sfits) in
    let bounded : c.code-y.result ≤ max_code = omega (arith, coded, code_small c.args.x 1024 c.requires.2) in
    omega (arith, bounded, c.inverse.ensures)

pub bounds-seen-inverse : goal.bounds-seen-inverse
bounds-seen-inverse c =
    let coded : c.code-y.result ≡ (code_of c.args.x) = c.code-y.ensures ∙ ap code_of (read_back c.args.x c.ranges.x.sfits) in
    let bounded : c.code-y.result ≤ max_code = omega (arith, coded, code_small c.args.x 1024 c.requires.2) in
    omega (arith, bounded, c.inverse.ensures, c.requires.3)

pub overflow_cast-y : goal.overflow_cast-y
overflow_cast-y c =
    let coded : c.code-y.result ≡ (code_of c.args.x) = c.code-y.ensures ∙ ap code_of (read_back c.args.x c.ranges.x.sfits) in
    let bounded : c.code-y.result ≤ max_code = omega (arith, coded, code_small c.args.x 1024 c.requires.2) in
    omega (arith, bounded)

pub offset_bounds-seen-y : goal.offset_bounds-seen-y
offset_bounds-seen-y c =
    let coded : c.code-y.result ≡ (code_of c.args.x) = c.code-y.ensures ∙ ap code_of (read_back c.args.x c.ranges.x.sfits) in
    let bounded : c.code-y.result ≤ max_code = omega (arith, coded, code_small c.args.x 1024 c.requires.2) in
    omega (arith, bounded)

pub bounds-seen-y : goal.bounds-seen-y
bounds-seen-y c =
    let coded : c.code-y.result ≡ (code_of c.args.x) = c.code-y.ensures ∙ ap code_of (read_back c.args.x c.ranges.x.sfits) in
    let bounded : c.code-y.result ≤ max_code = omega (arith, coded, code_small c.args.x 1024 c.requires.2) in
    omega (arith, bounded, c.requires.3)

pub offset_bounds-codes-put : goal.offset_bounds-codes-put
offset_bounds-codes-put c = omega (arith, c.requires.0, c.requires.1)

pub bounds-codes-put : goal.bounds-codes-put
bounds-codes-put c = omega (arith, c.requires.0, c.requires.1)

pub overflow_add-put : goal.overflow_add-put
overflow_add-put c = omega (arith, c.requires.0, c.requires.1)

pub overflow_cast-seen : goal.overflow_cast-seen
overflow_cast-seen c =
    let coded : c.code-y.result ≡ (code_of c.args.x) = c.code-y.ensures ∙ ap code_of (read_back c.args.x c.ranges.x.sfits) in
    let bounded : c.code-y.result ≤ max_code = omega (arith, coded, code_small c.args.x 1024 c.requires.2) in
    omega (arith, bounded)

pub offset_bounds-seen-y-2 : goal.offset_bounds-seen-y-2
offset_bounds-seen-y-2 c =
    let coded : c.code-y.result ≡ (code_of c.args.x) = c.code-y.ensures ∙ ap code_of (read_back c.args.x c.ranges.x.sfits) in
    let bounded : c.code-y.result ≤ max_code = omega (arith, coded, code_small c.args.x 1024 c.requires.2) in
    omega (arith, bounded)

pub bounds-seen-y-2 : goal.bounds-seen-y-2
bounds-seen-y-2 c =
    let coded : c.code-y.result ≡ (code_of c.args.x) = c.code-y.ensures ∙ ap code_of (read_back c.args.x c.ranges.x.sfits) in
    let bounded : c.code-y.result ≤ max_code = omega (arith, coded, code_small c.args.x 1024 c.requires.2) in
    omega (arith, bounded, c.requires.3)

pub overflow_add-result : goal.overflow_add-result
overflow_add-result c = omega (arith, c.requires.0, c.requires.1)

pub shape_of-codes : goal.shape_of-codes
shape_of-codes c = elim c.if-seen-y.branch [ then-seen-y w ↦ ap length w.codes-is ∙ length-set c.args.codes.now c.args.t.put c.code-y.result | else-seen-y w ↦ ap length w.codes-is ]

pub shape_of-seen : goal.shape_of-seen
shape_of-seen c = length-set c.args.seen.now c.code-y.result c.args.stamp

pub returns : goal.returns
returns c =
    let seen : List ℕ = c.args.seen.now in
    let coded : c.code-y.result ≡ (code_of c.args.x) = c.code-y.ensures ∙ ap code_of (read_back c.args.x c.ranges.x.sfits) in
    let inverted : c.inverse.result ≡ negate ((code_of c.args.x)) = c.inverse.ensures ∙ ap negate coded in
    let ignores : c.if-seen-inverse.ignored ≡ eqb (get_or c.args.seen.now (negate ((code_of c.args.x))) 0) c.args.stamp || c.args.t.ignored = let at = ap (λ (z : ℕ). get_or c.args.seen.now z 0) inverted in
    elim c.if-seen-inverse.branch [
      | then-seen-inverse w ↦ rw (w.ignored-is, eq-eqb _ _ w.if-seen-inverse.true, eq-eqb _ c.args.stamp (sym at ∙ w.if-seen-inverse.true))
      | else-seen-inverse w ↦ rw (w.ignored-is, ne_eqb _ c.args.stamp (λ e. w.if-seen-inverse.false (at ∙ e)))
    ] in
    let puts : (c.if-seen-y.put ≡ cond (eqb (get_or c.args.seen.now ((code_of c.args.x)) 0) c.args.stamp) c.args.t.put (c.args.t.put + 1)) × (c.if-seen-y.codes ≡ cond (eqb (get_or c.args.seen.now ((code_of c.args.x)) 0) c.args.stamp) c.args.codes.now (set c.args.codes.now c.args.t.put ((code_of c.args.x)))) = let start = c in
    let at = ap (λ (z : ℕ). get_or start.args.seen.now z 0) coded in
    elim c.if-seen-y.branch [
      | then-seen-y w ↦ rw (ne_eqb _ start.args.stamp (λ e. w.if-seen-y.true (at ∙ e))) (w.put-is, w.codes-is ∙ ap (set start.args.codes.now start.args.t.put) coded)
      | else-seen-y w ↦ rw (eq-eqb _ start.args.stamp (sym at ∙ w.if-seen-y.false)) (w.put-is, w.codes-is)
    ] in
    λ i. record {
      gathered = record { end = c.args.t.end + 1; put = puts.0 i; ignored = ignores i };
      codes = puts.1 i;
      seen = set c.args.seen.now (coded i) c.args.stamp;
    }
