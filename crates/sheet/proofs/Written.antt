-- What `write` answers, by its tests, by what closing hands over and by what is put into the buffer.
-- Assumes nothing.
use Rattle.std.specs.Prelude.{Result, Ok, Err}
use mathlib.Core.Path.{◌≡◌, refl, sym, ◌∙◌, ap, subst}
use mathlib.Core.Logic.{◌≢◌}
use mathlib.Core.List.{List, [], ◌∷◌, ◌++◌}
use Prim.Native.Nat.{ℕ, zero, suc, ◌+◌, ◌*◌, ◌≤◌, ◌<◌}
use native.Mathlib.Omega.{arith}
use borrow.Author.Tests.{lt-ltb, le-ltb}
use lib.IntN.{ℤ}
use lib.ListN.{length, get_or, take, drop, length-append}
use lib.Seq.{sets-eq}
use Rattle.clauses.specs.Clause.{clauses_of}
use Rattle.clauses.specs.Listing.{Fits}
use Rattle.clauses.specs.Refusal.{decide}
use Rattle.clauses.specs.Writing.{Wrote}
use Rattle.clauses.specs.declared.refusal.Refusal.{Refusal}
use Rattle.clauses.specs.declared.refusal.Refusal.TheVariants.{BufferTooShort}
use Rattle.clauses.proofs.Fitting.{entries_fit}
use Rattle.clauses.proofs.Tests.{decide_append, decide_passed, decide_refused}
use Rattle.rules.specs.declared.Verdict.{Verdict}
use Rattle.rules.specs.declared.Verdict.TheVariants.{Contradiction}
use Rattle.rules.specs.Grouping.{After, Closure}
use Rattle.rules.specs.Answer.{Answer, Lead, to_false, to_true, lowest, Leads, on_contradiction, otherwise, IsAnswer}
use Rattle.rules.specs.Compute.{answer}
use Rattle.closure.specs.declared.close.Summary.{Summary}
use Rattle.closure.specs.Closing as Closing
use Rattle.closure.specs.Closing.{list_tests, check_list, too_many_rounds, closing, accepted, Answers}
use Rattle.closure.proofs.ClosingTests.{closing_rounds, rounds_accepted, never_too_many, list_passed}
use Rattle.closure.proofs.ClosingTheorems.{answers_is, closing_exact, leads_length}
use Rattle.sheet.specs.Sheet.{sheet_text, answer_of}
use Rattle.sheet.specs.Writing.{min_buffer, sheet_buffer_too_short, refused, written, writing_tests, writing}
use Rattle.sheet.proofs.Lengths.{AllSmall, none, more, Small, sheet_fits}

-- The leads of an answer are small

after_same : (cs : List (List ℕ)) (n a : ℕ) → After cs n a a
unfolding After
after_same cs zero a = Closure.same
after_same cs (suc n) a = Closure.same

-- the lead of a net is of that net or a lower one
lead_low : (cs : List (List ℕ)) (n w l : ℕ) → Lead (After cs n) w l → l ≤ 2 * w + 1
lead_low cs n w l (to_false g) = omega arith
lead_low cs n w l (to_true g) = omega arith
lead_low cs n w l (lowest f t g h) = omega (arith, h (2 * w) (after_same cs n (2 * w)))

all_small : (l : List ℕ) → ((i : ℕ) → i < length l → Small (get_or l i 0)) → AllSmall l
all_small [] h = none
all_small (x ∷ l) h = more (h 0 (omega arith)) (all_small l (λ i k. h (suc i) (omega arith)))

pub leads_small : {v : ℕ} (cs : List (List ℕ)) (n : ℕ) {w : Verdict} {g : ℕ} {l : List ℕ} → v ≤ 1024 → Leads v (After cs n) w g l → w ≢ Contradiction → AllSmall l
leads_small cs n h on_contradiction d = absurd (d refl)
leads_small cs n {l = l} h (otherwise e s f) d =
    all_small l (λ i k. let low = lead_low cs n (suc i) (get_or l i 0) (f i (omega (arith, s))) in omega (arith, s))

module _ (v c : ℕ) (row : List ℤ) (limit : ℕ) (leads work text : List ℕ) where
  abbrev a : Answer
  a = answer v (clauses_of row) limit

  pub writing_list : (r : Refusal) → check_list v c row (length leads) (length work) ≡ Err r → writing v c row limit leads work text ≡ refused leads work text r
  unfolding writing writing_tests check_list
  writing_list r h =
      decide_append (refused leads work text) (written v leads work text a) (list_tests v c row (length leads) (length work)) (sheet_buffer_too_short text ∷ too_many_rounds v a ∷ [])
      ∙ decide_refused (refused leads work text) _ (list_tests v c row (length leads) (length work)) r h

  module _ (h : check_list v c row (length leads) (length work) ≡ Ok tt) where
    behind_list : writing v c row limit leads work text ≡ decide (refused leads work text) (written v leads work text a) (sheet_buffer_too_short text ∷ too_many_rounds v a ∷ [])
    unfolding writing writing_tests check_list
    behind_list =
        decide_append (refused leads work text) (written v leads work text a) (list_tests v c row (length leads) (length work)) (sheet_buffer_too_short text ∷ too_many_rounds v a ∷ [])
        ∙ decide_passed (refused leads work text) _ (list_tests v c row (length leads) (length work)) h

    pub writing_buffer : length text < min_buffer → writing v c row limit leads work text ≡ refused leads work text BufferTooShort
    unfolding decide
    writing_buffer k = behind_list ∙ rw (lt-ltb _ _ k)

    fits : Fits v (clauses_of row)
    fits = entries_fit v row (list_passed v c row leads work h).within

    closes : closing v c row limit leads work ≡ accepted v leads work a
    closes = closing_rounds v c row leads work limit h ∙ rounds_accepted v row limit leads work fits

    writing_written : min_buffer ≤ length text → writing v c row limit leads work text ≡ written v leads work text a
    unfolding decide
    writing_written k = behind_list ∙ rw (le-ltb _ _ k, le-ltb _ _ (never_too_many v row limit leads work fits))

    -- closing does not refuse
    pub closes_not : (x : Result Summary Refusal) (L W : List ℕ) → record { result = x; leads = L; work = W } ≡ closing v c row limit leads work → (r : Refusal) → x ≡ Err r → ⊥
    unfolding accepted
    closes_not x L W e r q =
        let same : Err r ≡ Ok (Closing.summary a) = sym q ∙ ap (λ (o : Closing.Outcome). o.result) (e ∙ closes) in
        cc

    module _ (x : Result Summary Refusal) (L W : List ℕ) (e : record { result = x; leads = L; work = W } ≡ closing v c row limit leads work) (s : Summary) (q : x ≡ Ok s) where
      handed : Answers v c row limit leads work (answer_of s (take v L))
      handed =
          record {
            accepts = ap (λ (o : Closing.Outcome). o.result) (sym e) ∙ q;
            hands_over = ap (λ (o : Closing.Outcome). take v o.leads) (sym e);
          }

      is_answer : answer_of s (take v L) ≡ a
      is_answer = answers_is v c row limit leads work (answer_of s (take v L)) handed

      exact : IsAnswer v (clauses_of row) limit (answer_of s (take v L))
      exact = closing_exact v c row limit leads work (answer_of s (take v L)) handed

      leads_many : length (take v L) ≡ v
      leads_many = leads_length exact.leads

      rows : L ≡ a.leads ++ drop v leads
      unfolding accepted
      rows = ap (λ (o : Closing.Outcome). o.leads) (e ∙ closes)

      -- what putting the sheet asks
      pub handed_room : v ≤ length L
      handed_room =
          let k : length a.leads ≡ v = subst (λ (b : Answer). length b.leads ≡ v) is_answer leads_many in
          rw rows (omega (arith, length-append a.leads (drop v leads)))

      pub handed_few : length (take v L) < 4294967295
      handed_few = omega (arith, leads_many, (list_passed v c row leads work h).nets)

      pub handed_fits : min_buffer ≤ length text → length (sheet_text v (answer_of s (take v L))) ≤ length text
      handed_fits k =
          let b = (list_passed v c row leads work h).nets in
          omega (arith, sheet_fits v (answer_of s (take v L)) (leads_small (clauses_of row) s.rounds b exact.leads) (omega (arith, leads_many)))

      pub writing_done : min_buffer ≤ length text → (n : ℕ) (T : List ℕ) → Wrote text 0 (sheet_text v (answer_of s (take v L))) T n
          → record { result = Ok n; leads = L; work = W; text = T } ≡ writing v c row limit leads work text
      unfolding written accepted
      writing_done k n T w =
          rw (rows, ap (λ (o : Closing.Outcome). o.work) (e ∙ closes), w.end ∙ z, content, is_answer) (sym (writing_written k))
        where
          t : List ℕ
          t = sheet_text v (answer_of s (take v L))

          z : 0 + length t ≡ length t
          z = omega arith

          content : T ≡ t ++ drop (length t) text
          content = w.content ∙ sets-eq t text 0 (omega (arith, handed_fits k)) ∙ ap (λ (m : ℕ). t ++ drop m text) z
