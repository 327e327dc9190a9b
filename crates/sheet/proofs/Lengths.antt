-- How long a sheet can be.
-- Assumes nothing.
use mathlib.Core.Logic.{◌≢◌}
use mathlib.Core.List.{List, [], ◌∷◌}
use Prim.Native.Nat.{ℕ, suc, ◌+◌, ◌*◌, ◌≤◌, ◌<◌}
use native.Mathlib.Omega.{arith}
use borrow.Table.Steps.{cases}
use lib.Dec.{eqb}
use lib.ListN.{length, length-append}
use Rattle.clauses.specs.Bytes.{comma, lf}
use Rattle.clauses.specs.Code.{net}
use Rattle.clauses.specs.Number.{decimal}
use Rattle.clauses.specs.Sign.{is_inverse}
use Rattle.clauses.proofs.Decimals.{decimal_length}
use Rattle.clauses.proofs.Numerals.{decimal_numeral}
use Rattle.rules.specs.declared.Verdict.{Verdict}
use Rattle.rules.specs.declared.Verdict.TheVariants.{Contradiction, Settled, Unfinished}
use Rattle.rules.specs.Answer.{Answer}
use Rattle.sheet.specs.Sheet.{names_line, verdict_text, values_line, lead_text, net_line, net_lead_line, net_lines, lead_lines, sheet_text}
use Rattle.sheet.proofs.Texts.{numbers_length, values_length, sheet_length, net_length}

-- a number of at most four digits
decimal_short : (n : ℕ) → n < 10000 → length (decimal n) ≤ 4
decimal_short n h = (decimal_numeral n (omega arith)).few_figures 3 (omega arith)

-- a code of T, F or a literal of a net with at most four digits
abbrev pub Small : ℕ → Type 0
Small code = code < 20000

lead_short : (code : ℕ) → Small code → length (lead_text code) ≤ 5
unfolding lead_text
lead_short code h =
    let d : length (decimal (net code)) ≤ 4 = decimal_short (net code) (omega arith) in
    cases (eqb code 0) (λ z. rw z (omega arith))
    (λ z. cases (eqb code 1) (λ o. rw (z, o) (omega arith)) (λ o. cases (is_inverse code) (λ i. rw (z, o, i) (omega arith)) (λ i. rw (z, o, i) (omega arith))))

pub data AllSmall : List ℕ → Type 0 where
  none : AllSmall []
  more : {code : ℕ} {codes : List ℕ} → Small code → AllSmall codes → AllSmall (code ∷ codes)

nets_short : (w : ℕ) {codes : List ℕ} → AllSmall codes → w + length codes ≤ 10000 → length (net_lines w codes) ≤ 11 * length codes
unfolding net_lines
nets_short w none h = omega arith
nets_short w (more {code = code} {codes = codes} k s) h =
    let rest : length (net_lines (suc w) codes) ≤ 11 * length codes = nets_short (suc w) s (omega arith) in
    omega (arith, length-append (net_line w code) (net_lines (suc w) codes), net_length w code, length-append (decimal w) (comma ∷ []), decimal_short w (omega arith), lead_short code k)

verdict_short : (w : Verdict) → length (verdict_text w) ≤ 13
unfolding verdict_text
verdict_short Contradiction = omega arith
verdict_short Settled = omega arith
verdict_short Unfinished = omega arith

values_short : (v : ℕ) (a : Answer) → length (values_line v a) ≤ 140
values_short v a =
    omega (
      arith,
      values_length v a,
      verdict_short a.verdict,
      numbers_length v a,
      length-append (decimal a.rounds) (comma ∷ []),
      length-append (decimal v) (comma ∷ []),
      length-append (decimal a.ands) (comma ∷ []),
      length-append (decimal a.xors) (comma ∷ []),
      length-append (decimal a.ites) (comma ∷ []),
      length-append (decimal a.groups) (lf ∷ []),
      decimal_length a.rounds,
      decimal_length v,
      decimal_length a.ands,
      decimal_length a.xors,
      decimal_length a.ites,
      decimal_length a.groups,
    )

leads_short : (w : Verdict) (leads : List ℕ) → (w ≢ Contradiction → AllSmall leads) → length leads ≤ 1024 → length (lead_lines w leads) ≤ 11273
unfolding lead_lines net_lead_line
leads_short Contradiction leads s h = omega arith
leads_short Settled leads s h =
    omega (arith, length-append net_lead_line (net_lines 1 leads), nets_short 1 (s (λ e. cc)) (omega arith))
leads_short Unfinished leads s h =
    omega (arith, length-append net_lead_line (net_lines 1 leads), nets_short 1 (s (λ e. cc)) (omega arith))

-- a sheet for at most 1,024 nets fits the buffer that it asks for
pub sheet_fits : (v : ℕ) (a : Answer) → (a.verdict ≢ Contradiction → AllSmall a.leads) → length a.leads ≤ 1024 → length (sheet_text v a) ≤ 16384
unfolding names_line
sheet_fits v a s h = omega (arith, sheet_length v a, values_short v a, leads_short a.verdict a.leads s h)
