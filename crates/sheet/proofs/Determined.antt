-- The sheet determines the answer: two different answers never print the same sheet.
-- Assumes nothing.
use mathlib.Core.Path.{◌≡◌, refl, sym, ◌∙◌, ap}
use mathlib.Core.Logic.{◌≢◌}
use mathlib.Core.Bool.{Bool, true, false, not, true≢false, false≢true}
use mathlib.Core.List.{List, [], ◌∷◌, ◌++◌, append_assoc}
use Prim.Native.Nat.{ℕ, suc, ◌+◌, ◌%◌, ◌^◌, ◌<◌}
use native.Mathlib.Omega.{arith}
use borrow.Author.Tests.{eqb-true, eqb-false}
use borrow.Table.Steps.{cases}
use lib.Dec.{eqb}
use lib.ListN.{length, length-append, replicate}
use Rattle.clauses.specs.Bytes.{comma, lf, minus, is_digit, every, front, behind}
use Rattle.clauses.specs.Code.{net}
use Rattle.clauses.specs.Number.{value, decimal, field}
use Rattle.clauses.specs.Sign.{is_inverse}
use Rattle.clauses.proofs.Splitting.{every_head, every_weaken, front_stop, behind_stop}
use Rattle.clauses.proofs.Numerals.{decimal_numeral, Numeral}
use Rattle.rules.specs.declared.Verdict.{Verdict}
use Rattle.rules.specs.declared.Verdict.TheVariants.{Contradiction, Settled, Unfinished}
use Rattle.rules.specs.Answer.{Answer, no_lead}
use Rattle.sheet.specs.Sheet.{names_line, verdict_text, numbers_text, values_line, lead_text, net_line, net_lead_line, net_lines, lead_lines, sheet_text}
use Rattle.sheet.proofs.Lengths.{Small, AllSmall, more}

-- Numbers

numeral : (n : ℕ) → n < 10 ^ 10 → Numeral n (decimal n)
numeral n h = decimal_numeral n (omega arith)

decimal_same : (n m : ℕ) → n < 10 ^ 10 → m < 10 ^ 10 → decimal n ≡ decimal m → n ≡ m
decimal_same n m hn hm e = sym (numeral n hn).worth ∙ ap (value 0) e ∙ (numeral m hm).worth

-- two numbers, each ended by a byte that is no digit
field_same : (n m end : ℕ) (r s : List ℕ) → is_digit end ≡ false → n < 10 ^ 10 → m < 10 ^ 10 → field n end ++ r ≡ field m end ++ s → (n ≡ m) × (r ≡ s)
field_same n m end r s d hn hm e = (decimal_same n m hn hm fronts, rests)
  where
    whole : decimal n ++ (end ∷ r) ≡ decimal m ++ (end ∷ s)
    whole = sym (append_assoc (decimal n) (end ∷ []) r) ∙ e ∙ append_assoc (decimal m) (end ∷ []) s

    fronts : decimal n ≡ decimal m
    fronts = sym (front_stop is_digit (decimal n) end r (numeral n hn).figures d) ∙ ap (front is_digit) whole ∙ front_stop is_digit (decimal m) end s (numeral m hm).figures d

    behinds : end ∷ r ≡ end ∷ s
    behinds = sym (behind_stop is_digit (decimal n) end r (numeral n hn).figures d) ∙ ap (behind is_digit) whole ∙ behind_stop is_digit (decimal m) end s (numeral m hm).figures d

    rests : r ≡ s
    rests = cc behinds

-- Leads

no_lf : ℕ → Bool
no_lf b = not (eqb b lf)

digit_no_lf : (b : ℕ) → is_digit b ≡ true → no_lf b ≡ true
unfolding no_lf is_digit
digit_no_lf b e = cases (eqb b lf) (λ t. absurd (false≢true (rw (eqb-true b lf t) at e))) (λ t. rw t)

-- the first byte of a decimal is a digit
decimal_first : (n : ℕ) → n < 10 ^ 10 → (b : ℕ) (l : List ℕ) → decimal n ≡ b ∷ l → is_digit b ≡ true
decimal_first n h b l e = every_head is_digit b l (rw e at (numeral n h).figures)

-- what a lead's text is
data LeadIs (code : ℕ) : List ℕ → Type 0 where
  is_false : code ≡ 0 → LeadIs code (70 ∷ [])
  is_true : code ≡ 1 → LeadIs code (84 ∷ [])
  is-plain : is_inverse code ≡ false → LeadIs code (decimal (net code))
  is-inverse : is_inverse code ≡ true → LeadIs code (minus ∷ decimal (net code))

lead_is : (code : ℕ) → LeadIs code (lead_text code)
unfolding lead_text
lead_is code =
    cases (eqb code 0) (λ z. rw z (is_false (eqb-true _ _ z)))
    (λ z. cases (eqb code 1) (λ o. rw (z, o) (is_true (eqb-true _ _ o)))
    (λ o. cases (is_inverse code) (λ i. rw (z, o, i) (is-inverse i)) (λ i. rw (z, o, i) (is-plain i))))

lead_no_lf : {code : ℕ} {l : List ℕ} → Small code → LeadIs code l → every no_lf l ≡ true
unfolding every no_lf
lead_no_lf h (is_false e) = refl
lead_no_lf h (is_true e) = refl
lead_no_lf {code} h (is-plain i) = every_weaken no_lf is_digit digit_no_lf (decimal (net code)) (numeral (net code) (omega arith)).figures
lead_no_lf {code} h (is-inverse i) = every_weaken no_lf is_digit digit_no_lf (decimal (net code)) (numeral (net code) (omega arith)).figures

parity_same : (a b : ℕ) → net a ≡ net b → is_inverse a ≡ is_inverse b → a ≡ b
unfolding is_inverse
parity_same a b n i = cases (eqb (a % 2) 1)
    (λ t. let k = eqb-true (a % 2) 1 t in let m = eqb-true (b % 2) 1 (sym i ∙ t) in omega arith)
    (λ t. let k = eqb-false (a % 2) 1 t in let m = eqb-false (b % 2) 1 (sym i ∙ t) in omega arith)

-- a byte that no decimal starts with
not_first : (n : ℕ) → n < 10 ^ 10 → (b : ℕ) (l : List ℕ) → is_digit b ≡ false → decimal n ≢ b ∷ l
not_first n h b l d e = true≢false (sym (decimal_first n h b l e) ∙ d)

lead_same : (a b : ℕ) {k l : List ℕ} → Small a → Small b → LeadIs a k → LeadIs b l → k ≡ l → a ≡ b
unfolding is_digit
lead_same a b ha hb (is_false p) (is_false q) e = p ∙ sym q
lead_same a b ha hb (is_false p) (is_true q) e = let z : ◌≡◌ {A = ℕ} 70 84 = cc in absurd (omega arith)
lead_same a b ha hb (is_false p) (is-plain q) e = absurd (not_first (net b) (omega arith) 70 [] refl (sym e))
lead_same a b ha hb (is_false p) (is-inverse q) e = let z : ◌≡◌ {A = ℕ} 70 45 = cc in absurd (omega arith)
lead_same a b ha hb (is_true p) (is_false q) e = let z : ◌≡◌ {A = ℕ} 84 70 = cc in absurd (omega arith)
lead_same a b ha hb (is_true p) (is_true q) e = p ∙ sym q
lead_same a b ha hb (is_true p) (is-plain q) e = absurd (not_first (net b) (omega arith) 84 [] refl (sym e))
lead_same a b ha hb (is_true p) (is-inverse q) e = let z : ◌≡◌ {A = ℕ} 84 45 = cc in absurd (omega arith)
lead_same a b ha hb (is-plain p) (is_false q) e = absurd (not_first (net a) (omega arith) 70 [] refl e)
lead_same a b ha hb (is-plain p) (is_true q) e = absurd (not_first (net a) (omega arith) 84 [] refl e)
lead_same a b ha hb (is-plain p) (is-plain q) e = parity_same a b (decimal_same (net a) (net b) (omega arith) (omega arith) e) (p ∙ sym q)
lead_same a b ha hb (is-plain p) (is-inverse q) e = absurd (not_first (net a) (omega arith) minus (decimal (net b)) refl e)
lead_same a b ha hb (is-inverse p) (is_false q) e = let z : ◌≡◌ {A = ℕ} 45 70 = cc in absurd (omega arith)
lead_same a b ha hb (is-inverse p) (is_true q) e = let z : ◌≡◌ {A = ℕ} 45 84 = cc in absurd (omega arith)
lead_same a b ha hb (is-inverse p) (is-plain q) e = absurd (not_first (net b) (omega arith) minus (decimal (net a)) refl (sym e))
lead_same a b ha hb (is-inverse p) (is-inverse q) e =
    let t : decimal (net a) ≡ decimal (net b) = cc in
    parity_same a b (decimal_same (net a) (net b) (omega arith) (omega arith) t) (p ∙ sym q)

lead_line_same : (a b : ℕ) (r s : List ℕ) → Small a → Small b → lead_text a ++ (lf ∷ r) ≡ lead_text b ++ (lf ∷ s) → (a ≡ b) × (r ≡ s)
unfolding no_lf
lead_line_same a b r s ha hb e = (lead_same a b ha hb (lead_is a) (lead_is b) fronts, cc behinds)
  where
    fronts : lead_text a ≡ lead_text b
    fronts =
        sym (front_stop no_lf (lead_text a) lf r (lead_no_lf ha (lead_is a)) refl) ∙ ap (front no_lf) e
        ∙ front_stop no_lf (lead_text b) lf s (lead_no_lf hb (lead_is b)) refl

    behinds : lf ∷ r ≡ lf ∷ s
    behinds =
        sym (behind_stop no_lf (lead_text a) lf r (lead_no_lf ha (lead_is a)) refl) ∙ ap (behind no_lf) e
        ∙ behind_stop no_lf (lead_text b) lf s (lead_no_lf hb (lead_is b)) refl

comma_no_digit : is_digit comma ≡ false
unfolding is_digit
comma_no_digit = refl

lf_no_digit : is_digit lf ≡ false
unfolding is_digit
lf_no_digit = refl

field_not_empty : (n end : ℕ) (l : List ℕ) → n < 10 ^ 10 → [] ≢ field n end ++ l
field_not_empty n end l h e =
    omega (arith, ap length e, length-append (decimal n ++ (end ∷ [])) l, length-append (decimal n) (end ∷ []))

net_line_parts : (w code : ℕ) (r : List ℕ) → net_line w code ++ r ≡ field w comma ++ (lead_text code ++ (lf ∷ r))
unfolding net_line
net_line_parts w code r = simp append_assoc

lines_same : (a b : List ℕ) (w : ℕ) → AllSmall a → AllSmall b → w + length a < 10 ^ 10 → net_lines w a ≡ net_lines w b → a ≡ b
unfolding net_lines
lines_same [] [] w ha hb k e = refl
lines_same [] (y ∷ b) w ha hb k e = absurd (field_not_empty w comma (lead_text y ++ (lf ∷ net_lines (suc w) b)) (omega arith) (e ∙ net_line_parts w y (net_lines (suc w) b)))
lines_same (x ∷ a) [] w ha hb k e = absurd (field_not_empty w comma (lead_text x ++ (lf ∷ net_lines (suc w) a)) (omega arith) (sym e ∙ net_line_parts w x (net_lines (suc w) a)))
lines_same (x ∷ a) (y ∷ b) w (more hx ha) (more hy hb) k e =
    let line = field_same w w comma (lead_text x ++ (lf ∷ net_lines (suc w) a)) (lead_text y ++ (lf ∷ net_lines (suc w) b)) comma_no_digit (omega arith) (omega arith)
    (sym (net_line_parts w x (net_lines (suc w) a)) ∙ e ∙ net_line_parts w y (net_lines (suc w) b)) in
    let both = lead_line_same x y (net_lines (suc w) a) (net_lines (suc w) b) hx hy line.1 in
    let rest : a ≡ b = lines_same a b (suc w) ha hb (omega arith) both.1 in
    rw (both.0, rest)

-- The whole sheet

-- an answer as closing gives it for V nets: every number has at most ten digits, and a contradiction has no leads to show
pub record Printable (v : ℕ) (a : Answer) : Type 0 where
  pub nets_small : v < 10 ^ 9
  pub rounds_small : a.rounds < 10 ^ 10
  pub ands_small : a.ands < 10 ^ 10
  pub xors_small : a.xors < 10 ^ 10
  pub ites_small : a.ites < 10 ^ 10
  pub groups_small : a.groups < 10 ^ 10
  pub leads_length : length a.leads ≡ v
  pub leads_small : a.verdict ≢ Contradiction → AllSmall a.leads
  pub leads_none : a.verdict ≡ Contradiction → a.leads ≡ replicate v no_lead

append_same : (p : List ℕ) {r s : List ℕ} → p ++ r ≡ p ++ s → r ≡ s
append_same [] e = e
append_same (x ∷ p) {r} {s} e = let t : p ++ r ≡ p ++ s = cc in append_same p t

verdict_same : (a b : Verdict) (r s : List ℕ) → verdict_text a ++ (comma ∷ r) ≡ verdict_text b ++ (comma ∷ s) → (a ≡ b) × (r ≡ s)
unfolding verdict_text
verdict_same Contradiction Contradiction r s e = (refl, cc)
verdict_same Contradiction Settled r s e = let z : ◌≡◌ {A = ℕ} 99 115 = cc in absurd (omega arith)
verdict_same Contradiction Unfinished r s e = let z : ◌≡◌ {A = ℕ} 99 117 = cc in absurd (omega arith)
verdict_same Settled Contradiction r s e = let z : ◌≡◌ {A = ℕ} 115 99 = cc in absurd (omega arith)
verdict_same Settled Settled r s e = (refl, cc)
verdict_same Settled Unfinished r s e = let z : ◌≡◌ {A = ℕ} 115 117 = cc in absurd (omega arith)
verdict_same Unfinished Contradiction r s e = let z : ◌≡◌ {A = ℕ} 117 99 = cc in absurd (omega arith)
verdict_same Unfinished Settled r s e = let z : ◌≡◌ {A = ℕ} 117 115 = cc in absurd (omega arith)
verdict_same Unfinished Unfinished r s e = (refl, cc)

-- the values that stand in the second line, from the rounds on
abbrev Numbers : ℕ → Answer → List ℕ → List ℕ
Numbers v a r =
    field a.rounds comma ++ (field v comma ++ (field a.ands comma ++ (field a.xors comma ++ (field a.ites comma ++ (field a.groups lf ++ r)))))

sheet_parts : (v : ℕ) (a : Answer) → sheet_text v a ≡ names_line ++ (verdict_text a.verdict ++ (comma ∷ Numbers v a (lead_lines a.verdict a.leads)))
unfolding sheet_text values_line numbers_text
sheet_parts v a = simp append_assoc

leads_same : (v : ℕ) (a b : Answer) → Printable v a → Printable v b → a.verdict ≡ b.verdict → lead_lines a.verdict a.leads ≡ lead_lines b.verdict b.leads → a.leads ≡ b.leads
unfolding lead_lines
leads_same v a b pa pb s e = go a.verdict refl
  where
    shown : a.verdict ≢ Contradiction → net_lead_line ++ net_lines 1 a.leads ≡ net_lead_line ++ net_lines 1 b.leads → a.leads ≡ b.leads
    shown n q =
        lines_same a.leads b.leads 1 (pa.leads_small n) (pb.leads_small (λ k. n (s ∙ k)))
        (omega (arith, pa.leads_length, pa.nets_small)) (append_same net_lead_line q)

    go : (u : Verdict) → a.verdict ≡ u → a.leads ≡ b.leads
    go Contradiction k = pa.leads_none k ∙ sym (pb.leads_none (sym s ∙ k))
    go Settled k = shown (λ q. cc) (rw (← s, k) at e)
    go Unfinished k = shown (λ q. cc) (rw (← s, k) at e)

answer-of : Verdict → ℕ → ℕ → ℕ → ℕ → ℕ → List ℕ → Answer
answer-of w r x y z g ls = record { verdict = w; rounds = r; ands = x; xors = y; ites = z; groups = g; leads = ls }

answer_same : (a b : Answer) → a.verdict ≡ b.verdict → a.rounds ≡ b.rounds → a.ands ≡ b.ands → a.xors ≡ b.xors → a.ites ≡ b.ites → a.groups ≡ b.groups
    → a.leads ≡ b.leads → a ≡ b
unfolding answer-of
answer_same a b w r x y z g ls =
    let same : answer-of a.verdict a.rounds a.ands a.xors a.ites a.groups a.leads
    ≡ answer-of b.verdict b.rounds b.ands b.xors b.ites b.groups b.leads = rw (w, r, x, y, z, g, ls) in
    same

pub sheet_determined : (v w : ℕ) (a b : Answer) → Printable v a → Printable w b → sheet_text v a ≡ sheet_text w b → (v ≡ w) × (a ≡ b)
sheet_determined v w a b pa pb e =
    let values = append_same names_line (sym (sheet_parts v a) ∙ e ∙ sheet_parts w b) in
    let verdicts = verdict_same a.verdict b.verdict _ _ values in
    let rounds = field_same a.rounds b.rounds comma _ _ comma_no_digit pa.rounds_small pb.rounds_small verdicts.1 in
    let nets = field_same v w comma _ _ comma_no_digit (omega (arith, pa.nets_small)) (omega (arith, pb.nets_small)) rounds.1 in
    let ands = field_same a.ands b.ands comma _ _ comma_no_digit pa.ands_small pb.ands_small nets.1 in
    let xors = field_same a.xors b.xors comma _ _ comma_no_digit pa.xors_small pb.xors_small ands.1 in
    let ites = field_same a.ites b.ites comma _ _ comma_no_digit pa.ites_small pb.ites_small xors.1 in
    let groups = field_same a.groups b.groups lf _ _ lf_no_digit pa.groups_small pb.groups_small ites.1 in
    let leads = leads_same v a b pa (rw nets.0 pb) verdicts.0 groups.1 in
    (nets.0, answer_same a b verdicts.0 rounds.0 ands.0 xors.0 ites.0 groups.0 leads)
