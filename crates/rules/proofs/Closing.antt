-- Closing: the computed run ends as the groupings say, with the leads of the last one; and whatever does so gives the same.
-- Assumes nothing.
use mathlib.Core.Path.{◌≡◌, refl, sym, ◌∙◌, ap, subst, subst⁻¹}
use mathlib.Core.Logic.{◌≢◌}
use mathlib.Core.Bool.{Bool, true, false, true≢false}
use mathlib.Core.List.{List, [], ◌∷◌, map}
use Prim.Native.Nat.{ℕ, zero, suc, ◌+◌, ◌*◌, ◌≤◌, ◌<◌}
use native.Mathlib.Omega.{arith}
use native.Mathlib.Decide.{ℕ_discrete, dec_le}
use native.Mathlib.Nat.{not-suc-le-zero, le_of_suc-le-suc}
use lib.ListN.{length, get_or-eq_default, get_or, length-map, replicate}
use lib.Seq.{ext_get_or}
use Rattle.rules.specs.declared.Verdict.{Verdict}
use Rattle.rules.specs.declared.Verdict.TheVariants.{Contradiction, Settled, Unfinished}
use Rattle.clauses.specs.Code.{negate, net}
use Rattle.clauses.specs.Lists.{from, same_list}
use Rattle.clauses.specs.Listing.{Fits}
use Rattle.clauses.proofs.Lists.{from_length, same_list_is, is_same_list}
use Rattle.clauses.proofs.Codes.{net_double, negate_other}
use Rattle.clauses.specs.Sign.{flip, is_inverse}
use Rattle.clauses.specs.Code.{nets_of}
use Rattle.clauses.proofs.Signs.{plain_of_even, code_split}
use Rattle.rules.specs.Grouping.{Closure, Nothing, After}
use Rattle.rules.specs.Ending.{Still, Clash, Ends}
use Rattle.rules.specs.Answer.{lead_of, no_lead}
use Rattle.rules.specs.Compute.{Gates, gates_of, Grouping, by_leads, everything, round, Closed, ended, run, closed}
use Rattle.rules.proofs.Groupings.{after_grows}
use Rattle.rules.proofs.Endings.{Agree, contradiction_at, settled_at, unfinished_at, ends_once}
use Rattle.rules.proofs.Leads.{Canonical, kernel_closed, represents_unique}
use Rattle.rules.proofs.Rounds.{Row, Made, round_made}

-- what a run gives: how closing ends, and, but for a contradiction, the row of leads then
pub data Ran (v : ℕ) (cs : List (List ℕ)) (limit : ℕ) : Closed → Type 0 where
  with_row : {w : Verdict} {n : ℕ} {l : List ℕ} → w ≢ Contradiction → Ends cs limit w n → Row v l (After cs n) → Ran v cs limit (ended w n l)
  with_none : {n : ℕ} → Ends cs limit Contradiction n → Ran v cs limit (ended Contradiction n (replicate v no_lead))

pub no_clash : (v : ℕ) (l : List ℕ) (G : ℕ → ℕ → Type 0) → Row v l G → ¬ G 1 0
no_clash v l G r h = negate_other (lead_of l 0) (sym (r.rep.canonical.inverse 0) ∙ r.rep.complete 1 0 h)

pub ran_ends : {v : ℕ} {cs : List (List ℕ)} {limit : ℕ} {r : Closed} → Ran v cs limit r → Ends cs limit r.verdict r.rounds
ran_ends (with_row d e row) = e
ran_ends (with_none e) = e

pub settled≢contradiction : Settled ≢ Contradiction
settled≢contradiction e = let z : ◌≡◌ {A = ℕ} 0 1 = cc in omega arith

unfinished≢contradiction : Unfinished ≢ Contradiction
unfinished≢contradiction e = let z : ◌≡◌ {A = ℕ} 0 1 = cc in omega arith

pub any_default : (l : List ℕ) (i d e : ℕ) → i < length l → get_or l i d ≡ get_or l i e
any_default [] i d e h = absurd (not-suc-le-zero h)
any_default (x ∷ l) zero d e h = refl
any_default (x ∷ l) (suc i) d e h = any_default l i d e (le_of_suc-le-suc h)

-- the lead of a net is its entry
pub entry : (l : List ℕ) (i d : ℕ) → i < length l → lead_of l (2 * suc i) ≡ get_or l i d
unfolding lead_of
entry l i d h =
    ap (λ (b : Bool). flip b (get_or (0 ∷ l) (net (2 * suc i)) (2 * net (2 * suc i)))) (plain_of_even (2 * suc i) (omega arith))
    ∙ ap (λ (n : ℕ). get_or (0 ∷ l) n (2 * n)) (net_double (suc i)) ∙ any_default l i (2 * suc i) d h

-- one row represents a grouping
pub row_unique : (v : ℕ) (l m : List ℕ) (G : ℕ → ℕ → Type 0) → Row v l G → Row v m G → l ≡ m
row_unique v l m G r s =
    ext_get_or 0 l m (r.size ∙ sym s.size)
    (λ i h. sym (entry l i 0 h) ∙ represents_unique (lead_of l) (lead_of m) G r.rep s.rep (2 * suc i) ∙ entry m i 0 (subst (λ (n : ℕ). i < n) (r.size ∙ sym s.size) h))

module _ (v : ℕ) (cs : List (List ℕ)) (fit : Fits v cs) (limit : ℕ) where
  abbrev g : Gates
  g = gates_of v cs

  made : (n : ℕ) (leads : List ℕ) → Row v leads (After cs n) → (t : Grouping) → round cs g leads ≡ t → Made v cs (After cs n) t
  made n leads r t e = subst (Made v cs (After cs n)) e (round_made v cs fit leads (After cs n) r)

  -- the next row differs where the next round changes something
  moved : (n : ℕ) (leads next : List ℕ) → Row v leads (After cs n) → Row v next (After cs (suc n)) → same_list next leads ≡ false → ¬ Still cs n
  moved n leads next r s e still =
      true≢false (sym (subst (λ (l : List ℕ). same_list next l ≡ true) (row_unique v next leads (After cs (suc n)) s again) (is_same_list next)) ∙ e)
    where
      again : Row v leads (After cs (suc n))
      again =
          record {
            size = r.size;
            rep = record {
              canonical = r.rep.canonical;
              sound = λ a b q. after_grows cs n a b (r.rep.sound a b q);
              complete = λ a b q. r.rep.complete a b (still a b q);
            };
          }

  pub up_to : (n : ℕ) → ((i : ℕ) → i < n → ¬ Still cs i) → ¬ Still cs n → (i : ℕ) → i ≤ n → ¬ Still cs i
  up_to n h k i q = go (ℕ_discrete i n)
    where
      go : Dec (i ≡ n) → ¬ Still cs i
      go (yes e) = subst⁻¹ (λ (m : ℕ). ¬ Still cs m) e k
      go (no e) = h i (omega arith)

  -- the three ways to end

  pub settles : (n : ℕ) (leads : List ℕ) → n ≤ limit → Row v leads (After cs n) → Still cs n → ((i : ℕ) → i < n → ¬ Still cs i)
      → Ran v cs limit (ended Settled n leads)
  settles n leads q r still h = with_row settled≢contradiction (settled_at cs limit q (no_clash v leads (After cs n) r) still h) r

  pub clashes : (n : ℕ) (leads : List ℕ) → n < limit → Row v leads (After cs n) → Clash cs (suc n)
      → Ran v cs limit (ended Contradiction (suc n) (replicate (length leads) no_lead))
  clashes n leads q r h =
      subst⁻¹ (λ (k : ℕ). Ran v cs limit (ended Contradiction (suc n) (replicate k no_lead))) r.size
      (with_none (contradiction_at cs limit q (no_clash v leads (After cs n) r) h))

  pub stops : (n : ℕ) (leads : List ℕ) → n ≡ limit → Row v leads (After cs n) → ((i : ℕ) → i < n → ¬ Still cs i) → ¬ Still cs n
      → Ran v cs limit (ended Unfinished n leads)
  stops n leads q r h k =
      with_row unfinished≢contradiction (subst (λ (m : ℕ). Ends cs m Unfinished n) q (unfinished_at cs n (no_clash v leads (After cs n) r) (up_to n h k))) r

  -- the next row is the same: the next round changes nothing
  stayed : (n : ℕ) (leads next : List ℕ) → Row v leads (After cs n) → Row v next (After cs (suc n)) → same_list next leads ≡ true → Still cs n
  stayed n leads next r s e a b k = r.rep.sound a b (subst (λ (l : List ℕ). lead_of l a ≡ lead_of l b) (same_list_is next leads e) (s.rep.complete a b k))

  run_ran : (k n : ℕ) (leads : List ℕ) → n + k ≡ limit → Row v leads (After cs n) → ((i : ℕ) → i < n → ¬ Still cs i) → Ran v cs limit (run cs g k n leads)
  unfolding run After
  run_ran zero n leads q r h = go (round cs g leads) refl
    where
      go : (t : Grouping) → round cs g leads ≡ t → Ran v cs limit (run cs g zero n leads)
      go everything e =
          rw (e, run) (stops n leads (omega arith) r h (λ s. no_clash v leads (After cs n) r (s 1 0 (made n leads r everything e))))
      go (by_leads next) e = pick (same_list next leads) refl
        where
          s : Row v next (After cs (suc n))
          s = made n leads r (by_leads next) e

          pick : (b : Bool) → same_list next leads ≡ b → Ran v cs limit (run cs g zero n leads)
          pick true p = rw (e, run, p) (settles n leads (omega arith) r (stayed n leads next r s p) h)
          pick false p = rw (e, run, p) (stops n leads (omega arith) r h (moved n leads next r s p))
  run_ran (suc k) n leads q r h = go (round cs g leads) refl (run_ran k (suc n))
    where
      go : (t : Grouping) → round cs g leads ≡ t
          → ((l : List ℕ) → suc n + k ≡ limit → Row v l (After cs (suc n)) → ((i : ℕ) → i < suc n → ¬ Still cs i) → Ran v cs limit (run cs g k (suc n) l))
          → Ran v cs limit (run cs g (suc k) n leads)
      go everything e ih = rw (e, run) (clashes n leads (omega arith) r (made n leads r everything e))
      go (by_leads next) e ih = pick (same_list next leads) refl
        where
          s : Row v next (After cs (suc n))
          s = made n leads r (by_leads next) e

          pick : (b : Bool) → same_list next leads ≡ b → Ran v cs limit (run cs g (suc k) n leads)
          pick true p = rw (e, run, p) (settles n leads (omega arith) r (stayed n leads next r s p) h)
          pick false p = rw (e, run, p) (ih next (omega arith) s (λ i x. up_to n h (moved n leads next r s p) i (le_of_suc-le-suc x)))

-- The first row

from_at : (a n i d : ℕ) → i < n → get_or (map (λ w. 2 * w) (from a n)) i d ≡ 2 * (a + i)
unfolding from
from_at a zero i d h = absurd (not-suc-le-zero h)
from_at a (suc n) zero d h = omega arith
from_at a (suc n) (suc i) d h = from_at (suc a) n i d (le_of_suc-le-suc h) ∙ shift
  where
    shift : 2 * (suc a + i) ≡ 2 * (a + suc i)
    shift = omega arith

pub nets_of_length : (v : ℕ) → length (nets_of v) ≡ v
unfolding nets_of
nets_of_length v = length-map (from 1 v) (λ w. 2 * w) ∙ from_length 1 v

pub nets_of_at : (v i d : ℕ) → i < v → get_or (nets_of v) i d ≡ 2 * suc i
unfolding nets_of
nets_of_at v i d h = from_at 1 v i d h ∙ ap (λ (n : ℕ). 2 * n) (next i)
  where
    next : (i : ℕ) → 1 + i ≡ suc i
    next i = omega arith

pub first_lead : (v c : ℕ) → lead_of (nets_of v) c ≡ c
unfolding lead_of
first_lead v c = ap (flip (is_inverse c)) (go (net c) (dec_le (net c) v)) ∙ sym (code_split c)
  where
    go : (n : ℕ) → Dec (n ≤ v) → get_or (0 ∷ nets_of v) n (2 * n) ≡ 2 * n
    go zero d = refl
    go (suc n) (yes h) = nets_of_at v n (2 * suc n) h
    go (suc n) (no h) = get_or-eq_default (nets_of v) (2 * suc n) (rw nets_of_length (omega arith))

pub first_is : (v : ℕ) (cs : List (List ℕ)) → Row v (nets_of v) (After cs 0)
unfolding After
first_is v cs =
    record {
      size = nets_of_length v;
      rep = record {
        canonical = can;
        sound = λ a b e. subst (Closure Nothing a) (sym (first_lead v a) ∙ e ∙ first_lead v b) Closure.same;
        complete = λ a b h. kernel_closed (lead_of (nets_of v)) can Nothing (λ x y z. absurd z) h;
      };
    }
  where
    can : Canonical (lead_of (nets_of v))
    can =
        record {
          inverse = λ c. first_lead v (negate c) ∙ ap negate (sym (first_lead v c));
          again = λ c. first_lead v (lead_of (nets_of v) c);
          low = λ c. subst⁻¹ (λ (x : ℕ). net x ≤ net c) (first_lead v c) (omega arith);
        }

-- closing gives what the groupings say
pub closed_ran : (v : ℕ) (cs : List (List ℕ)) → Fits v cs → (limit : ℕ) → Ran v cs limit (closed v cs limit)
unfolding closed
closed_ran v cs fit limit = run_ran v cs fit limit limit 0 (nets_of v) (omega arith) (first_is v cs) (λ i h. absurd (not-suc-le-zero h))

-- whatever ends as the groupings say, with a row that represents the last one, is the same, in whatever order it joins
pub ran_unique : (v : ℕ) (cs : List (List ℕ)) (limit : ℕ) (r s : Closed) → Ran v cs limit r → Ran v cs limit s → r ≡ s
ran_unique v cs limit r s (with_row {w = w} {n = n} {l = l} p e row) (with_row {w = u} {n = m} {l = k} q f col) = go (ends_once cs limit e f)
  where
    go : Agree w u n m → ◌≡◌ {A = Closed} (ended w n l) (ended u m k)
    go a = λ i. record { verdict = a.verdicts i; rounds = a.rounds i; leads = rows i }
      where
        rows : l ≡ k
        rows = row_unique v l k (After cs n) row (subst⁻¹ (λ (j : ℕ). Row v k (After cs j)) a.rounds col)
ran_unique v cs limit r s (with_row p e row) (with_none f) = absurd (p (ends_once cs limit e f).verdicts)
ran_unique v cs limit r s (with_none e) (with_row q f col) = absurd (q (sym (ends_once cs limit e f).verdicts))
ran_unique v cs limit r s (with_none {n = n} e) (with_none {n = m} f) =
    ap (λ (j : ℕ). ended Contradiction j (replicate v no_lead)) (ends_once cs limit e f).rounds

pub closed_is : (v : ℕ) (cs : List (List ℕ)) → Fits v cs → (limit : ℕ) (r : Closed) → Ran v cs limit r → r ≡ closed v cs limit
closed_is v cs fit limit r h = ran_unique v cs limit r (closed v cs limit) h (closed_ran v cs fit limit)
