use mathlib.Core.Path.{◌≡◌, refl, sym, ◌∙◌, ap}
use mathlib.Core.Logic.{◌≢◌}
use mathlib.Core.Bool.{false}
use mathlib.Core.List.{List, [], ◌∷◌, ◌++◌, map}
use Prim.Native.Nat.{ℕ, ◌+◌, ◌<◌, ◌≤◌, ◌^◌}
use native.Mathlib.Omega.{arith}
use lib.IntN.{ℤ, pos, negsuc, nat_abs}
use lib.ListN.{length, get_or, take, length-map, length-append}
use lib.Signed.{mag}
use mir.Syntax.{w32}
use mir.Val.{to_z, of_z}
use Rattle.clauses.proofs.Clauses.{literals_length}
use Rattle.clauses.specs.Code.{code_of}
use Rattle.clauses.specs.Limit.{max_nets}
use Rattle.clauses.specs.Lists.{any}
use Rattle.clauses.specs.Listing.{literals, tautology}
use Rattle.clauses.specs.Row.{SmallEntries}
use Rattle.clauses.proofs.Rows.{literal_within}
use Rattle.clauses.proofs.Signed.{code_entry, code_small, read_back}
use Rattle.clauses.proofs.Walks.{stepped}
use Rattle.gates.specs.declared.normal.Gathered.{Gathered}
use Rattle.gates.specs.Normal.{Gathering, gathered_of}
use Rattle.gates.proofs.Normalising.{walking_none, walking_end, walking_more, gathered_more, stamped_old}
use Rattle.gates.proofs.normal.gather_clause.Goals as goal

code_none : (z : ℤ) → code_of z ≡ 0 → z ≡ pos 0
unfolding code_of
code_none (pos m) e = ap pos (omega arith)
code_none (negsuc m) e = absurd (omega arith)

code_zero : (z : ℤ) → mag z < 2 ^ 31 → of_z w32 z ≡ 0 → code_of z ≡ 0
unfolding code_of
code_zero z h e = ap code_of (sym (read_back z h) ∙ ap (to_z w32) e)

-- what stands at the place of a walk, as a code
here : (row : List ℤ) (x : ℤ) (lent : List ℤ) (at b : ℕ) (w : List ℕ) → x ≡ get_or lent at (pos 0) → lent ≡ row → at ≡ b + length w → code_of x ≡ get_or (map code_of row) (b + length w) 0
here row x lent at b w e l p =
    ap code_of (e ∙ ap (λ (r : List ℤ). get_or r at (pos 0)) l) ∙ sym (code_entry row at) ∙ ap (λ (i : ℕ). get_or (map code_of row) i 0) p

inside : (row : List ℤ) (x : ℤ) (b : ℕ) (w : List ℕ) → code_of x ≡ get_or (map code_of row) (b + length w) 0 → (of_z w32 x ≡ 0 → ⊥) → b + length w < length row
inside row x b w e some =
    let nonzero : get_or (map code_of row) (b + length w) 0 ≢ 0 = λ z. some (ap (of_z w32) (code_none x (e ∙ z))) in
    omega (arith, literal_within (map code_of row) (b + length w) nonzero, length-map row code_of)

small : (row : List ℤ) (x : ℤ) (lent : List ℤ) (at : ℕ) → SmallEntries row → x ≡ get_or lent at (pos 0) → lent ≡ row → nat_abs x ≤ max_nets
small row x lent at h e l = rw (e, l) (h at)

-- what is gathered of no literals
none_gathered : (b n : ℕ) → record { end = b; put = n; ignored = false } ≡ gathered_of b n []
unfolding literals tautology any
none_gathered b n = λ i. record { end = ends i; put = puts i; ignored = false }
  where
    ends : b ≡ b + 0
    ends = omega arith

    puts : n ≡ n + 0
    puts = omega arith

pub loop-walk-init : goal.loop-walk-init
loop-walk-init c = ([], record { lent = refl; place = omega arith; same = none_gathered c.args.b c.args.n; keeps = walking_none refl c.requires.4 })

pub returns-then-x-eq0 : goal.returns-then-x-eq0
returns-then-x-eq0 c =
    let w = c.loop-walk.invariant.0 in
    let k = c.loop-walk.invariant.1 in
    let at = here c.args.row.now c.next-x.result c.loop-walk.walk.row.now c.loop-walk.walk.at c.args.b w c.next-x.ensures.0 k.lent k.place in
    let e = walking_end k.keeps (sym at ∙ code_zero c.next-x.result c.next-x.type_inv c.if-x-eq0.true) in
    record {
      gathered = k.same ∙ ap (gathered_of c.args.b c.args.n) e;
      written = ap (λ (u : Gathered). take u.put c.loop-walk.codes) k.same ∙ k.keeps.written ∙ ap (λ (l : List ℕ). take c.args.n c.args.codes.now ++ literals l) e;
      older = stamped_old k.keeps.marks;
    }

pub gather_literal-gathered-requires : goal.gather_literal-gathered-requires
gather_literal-gathered-requires c =
    let w = c.loop-walk.invariant.0 in
    let k = c.loop-walk.invariant.1 in
    let at = here c.args.row.now c.next-x.result c.loop-walk.walk.row.now c.loop-walk.walk.at c.args.b w c.next-x.ensures.0 k.lent k.place in
    let within = inside c.args.row.now c.next-x.result c.args.b w at c.if-x-eq0.false in
    rw (read_back c.next-x.result c.next-x.type_inv) (
      rw k.same (omega (arith, literals_length w, c.requires.0)),
      rw k.same (omega (arith, within, c.requires.1, c.loop-walk.auto.codes)),
      small c.args.row.now c.next-x.result c.loop-walk.walk.row.now c.loop-walk.walk.at c.requires.2 c.next-x.ensures.0 k.lent,
      omega (arith, c.requires.3, c.loop-walk.auto.seen),
    )

pub loop-walk-preserved : goal.loop-walk-preserved
loop-walk-preserved c =
    let w = c.loop-walk.invariant.0 in
    let k = c.loop-walk.invariant.1 in
    let x = code_of c.next-x.result in
    let at = here c.args.row.now c.next-x.result c.loop-walk.walk.row.now c.loop-walk.walk.at c.args.b w c.next-x.ensures.0 k.lent k.place in
    let within = inside c.args.row.now c.next-x.result c.args.b w at c.if-x-eq0.false in
    let s = stepped c.args.row.now c.next-x.result c.loop-walk.walk c.next-x.new.walk k.lent (omega (arith, within, k.place)) c.next-x.ensures in
    let few = small c.args.row.now c.next-x.result c.loop-walk.walk.row.now c.loop-walk.walk.at c.requires.2 c.next-x.ensures.0 k.lent in
    let some : x ≢ 0 = λ z. c.if-x-eq0.false (ap (of_z w32) (code_none c.next-x.result z)) in
    let fits : x < length c.args.seen.now = omega (arith, code_small c.next-x.result max_nets few, c.requires.3) in
    let told = rw (read_back c.next-x.result c.next-x.type_inv, k.same) at c.gather_literal-gathered.ensures in (
      w ++ (x ∷ []),
      record {
        lent = s.lent;
        place = omega (arith, s.on, k.place, length-append w (x ∷ []));
        same = ap (λ (g : Gathering). g.gathered) told ∙ gathered_more k.keeps x at some fits;
        keeps =
            rw (ap (λ (g : Gathering). g.codes) told, ap (λ (g : Gathering). g.seen) told)
            (walking_more k.keeps x at some fits (omega (arith, within, c.requires.0, c.requires.1, c.loop-walk.auto.codes, literals_length w)));
      },
    )
