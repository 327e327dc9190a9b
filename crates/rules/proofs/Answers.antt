-- The computed answer is the answer that the groupings leave, and the only one.
-- Assumes nothing.
use mathlib.Core.Path.{◌≡◌, refl, sym, ◌∙◌, ap, subst, subst⁻¹}
use mathlib.Core.Logic.{◌≢◌, ◌⊎◌, inl, inr, ◌↔◌, eq-Equivalence}
use mathlib.Core.List.{List}
use Prim.Native.Nat.{ℕ, suc, ◌*◌, ◌≤◌, ◌<◌}
use native.Mathlib.Omega.{arith}
use native.Mathlib.Decide.{ℕ_discrete}
use lib.ListN.{length, replicate}
use lib.Seq.{ext_get_or}
use Rattle.rules.specs.declared.Verdict.{Verdict}
use Rattle.rules.specs.declared.Verdict.TheVariants.{Contradiction}
use Rattle.clauses.specs.Code.{negate, net}
use Rattle.clauses.specs.Listing.{Fits}
use Rattle.clauses.proofs.Codes.{same_net}
use Rattle.gates.proofs.Counting.{same_with, counted_once}
use Rattle.gates.proofs.Counted.{ands_counted, xors_counted, ites_counted}
use Rattle.rules.specs.Grouping.{After}
use Rattle.rules.specs.Ending.{Clash}
use Rattle.rules.specs.Answer.{Answer, Lead, to_false, to_true, lowest, lead_of, own, no_lead, Leads, on_contradiction, otherwise, IsAnswer, Joined}
use Rattle.rules.specs.Compute.{Closed, tally}
use Rattle.rules.proofs.Groupings.{after_back, after_chain, after_clash}
use Rattle.rules.proofs.Endings.{Agree, ends_once, ends_clash, ends_apart}
use Rattle.rules.proofs.Leads.{lead_zero}
use Rattle.rules.proofs.Rounds.{Row}
use Rattle.rules.proofs.Closing.{Ran, with_row, with_none, entry}
use Rattle.rules.proofs.Groups.{own_none}

-- a row that represents a grouping has its leads
row_lead : (v : ℕ) (l : List ℕ) (G : ℕ → ℕ → Type 0) → Row v l G → (w : ℕ) → Lead G w (lead_of l (2 * w))
row_lead v l G r w = go (ℕ_discrete (net x) 0)
  where
    x : ℕ
    x = lead_of l (2 * w)

    led : G (2 * w) x
    led = r.rep.sound (2 * w) x (sym (r.rep.canonical.again (2 * w)))

    zero_led : lead_of l 0 ≡ 0
    zero_led = lead_zero (lead_of l) r.rep.canonical

    constant : (x ≡ 0) ⊎ (x ≡ negate 0) → Lead G w x
    constant (inl e) = subst⁻¹ (Lead G w) e (to_false (subst (G (2 * w)) e led))
    constant (inr e) = subst⁻¹ (Lead G w) e (to_true (subst (G (2 * w)) e led))

    go : Dec (net x ≡ 0) → Lead G w x
    go (yes e) = constant (same_net x 0 e)
    go (no n) =
        lowest (λ h. n (ap net (r.rep.complete (2 * w) 0 h ∙ zero_led)))
        (λ h. n (ap net (r.rep.complete (2 * w) 1 h ∙ r.rep.canonical.inverse 0 ∙ ap negate zero_led))) led
        (λ y h. subst⁻¹ (λ (z : ℕ). net z ≤ net y) (r.rep.complete (2 * w) y h) (r.rep.canonical.low y))

-- what ends as the groupings say, with the leads of the last one, makes the answer
pub ran_answer : (v : ℕ) (cs : List (List ℕ)) → Fits v cs → (limit : ℕ) (r : Closed) → Ran v cs limit r → IsAnswer v cs limit (tally v cs r)
unfolding tally
ran_answer v cs fit limit r (with_row {n = n} {l = l} d e row) =
    record {
      ends = e;
      leads = otherwise d row.size (λ i h. subst (Lead (After cs n) (suc i)) (entry l i 0 (subst⁻¹ (λ (k : ℕ). i < k) row.size h)) (row_lead v l (After cs n) row (suc i)));
      ands = ands_counted cs;
      xors = xors_counted v cs fit;
      ites = ites_counted v cs fit;
    }
ran_answer v cs fit limit r (with_none {n = n} e) =
    record {
      ends = e;
      leads = subst⁻¹ (λ (k : ℕ). Leads v (After cs n) Contradiction k (replicate v no_lead)) (ap length (own_none v)) on_contradiction;
      ands = ands_counted cs;
      xors = xors_counted v cs fit;
      ites = ites_counted v cs fit;
    }

-- One answer

lead_once : (cs : List (List ℕ)) (n w : ℕ) {l m : ℕ} → ¬ Clash cs n → Lead (After cs n) w l → Lead (After cs n) w m → l ≡ m
lead_once cs n w p (to_false h) (to_false k) = refl
lead_once cs n w p (to_false h) (to_true k) = absurd (p (after_chain cs n 1 (2 * w) 0 (after_back cs n (2 * w) 1 k) h))
lead_once cs n w p (to_false h) (lowest f t q z) = absurd (f h)
lead_once cs n w p (to_true h) (to_false k) = absurd (p (after_chain cs n 1 (2 * w) 0 (after_back cs n (2 * w) 1 h) k))
lead_once cs n w p (to_true h) (to_true k) = refl
lead_once cs n w p (to_true h) (lowest f t q z) = absurd (t h)
lead_once cs n w p (lowest f t q z) (to_false k) = absurd (f k)
lead_once cs n w p (lowest f t q z) (to_true k) = absurd (t k)
lead_once cs n w p (lowest {l = l} f t q z) (lowest {l = m} f' t' q' z') = go (same_net l m (both (z m q') (z' l q)))
  where
    both : {a b : ℕ} → a ≤ b → b ≤ a → a ≡ b
    both x y = omega arith

    go : (l ≡ m) ⊎ (l ≡ negate m) → l ≡ m
    go (inl e) = e
    go (inr e) = absurd (p (after_clash cs n m (subst (After cs n m) e (after_chain cs n m (2 * w) l (after_back cs n (2 * w) m q') q))))

leads_once : (v : ℕ) (cs : List (List ℕ)) (n : ℕ) {w u : Verdict} {g h : ℕ} {l m : List ℕ} → (w ≢ Contradiction → ¬ Clash cs n) → w ≡ u
    → Leads v (After cs n) w g l → Leads v (After cs n) u h m → (g ≡ h) × (l ≡ m)
leads_once v cs n p e on_contradiction on_contradiction = (refl, refl)
leads_once v cs n p e on_contradiction (otherwise d s f) = absurd (d (sym e))
leads_once v cs n p e (otherwise d s f) on_contradiction = absurd (d e)
leads_once v cs n p e (otherwise {leads = l} d s f) (otherwise {leads = m} d' s' f') = (ap (λ (k : List ℕ). length (own v k)) rows, rows)
  where
    rows : l ≡ m
    rows = ext_get_or 0 l m (s ∙ sym s') (λ i h. let q : i < v = subst (λ (k : ℕ). i < k) s h in lead_once cs n (suc i) (p d) (f i q) (f' i q))

pub is_answer_once : (v : ℕ) (cs : List (List ℕ)) (limit : ℕ) (a b : Answer) → IsAnswer v cs limit a → IsAnswer v cs limit b → a ≡ b
is_answer_once v cs limit a b p q =
    λ i. record {
      verdict = same.verdicts i;
      rounds = same.rounds i;
      ands = counted_once same_with p.ands q.ands i;
      xors = counted_once same_with p.xors q.xors i;
      ites = counted_once eq-Equivalence p.ites q.ites i;
      groups = rest.0 i;
      leads = rest.1 i;
    }
  where
    same : Agree a.verdict b.verdict a.rounds b.rounds
    same = ends_once cs limit p.ends q.ends

    rest : (a.groups ≡ b.groups) × (a.leads ≡ b.leads)
    rest =
        leads_once v cs a.rounds (λ d. ends_apart d p.ends) same.verdicts p.leads
        (subst⁻¹ (λ (n : ℕ). Leads v (After cs n) b.verdict b.groups b.leads) same.rounds q.leads)

-- What is joined

pub ran_joined : (v : ℕ) (cs : List (List ℕ)) (limit : ℕ) (r : Closed) → Ran v cs limit r → (x y : ℕ) → Joined (tally v cs r) x y ↔ After cs r.rounds x y
unfolding tally
ran_joined v cs limit r (with_row {w = w} {n = n} {l = l} d e row) x y = (forth, λ h. inr (row.rep.complete x y h))
  where
    forth : (w ≡ Contradiction) ⊎ (lead_of l x ≡ lead_of l y) → After cs n x y
    forth (inl z) = absurd (d z)
    forth (inr z) = row.rep.sound x y z
ran_joined v cs limit r (with_none e) x y = (λ h. ends_clash e x y, λ h. inl refl)
