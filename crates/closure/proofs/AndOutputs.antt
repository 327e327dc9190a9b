-- Rule 3, AND by AND: what the searches find is what the rule draws.
-- Assumes nothing.
use mathlib.Core.Path.{◌≡◌, sym, ◌∙◌, ap, subst, subst⁻¹}
use mathlib.Core.Logic.{◌≢◌, ◌⊎◌, inl, inr}
use mathlib.Core.Bool.{true}
use mathlib.Core.List.{List}
use Prim.Native.Nat.{ℕ, ◌+◌, ◌%◌, ◌≤◌, ◌<◌}
use native.Mathlib.Omega.{arith}
use native.Mathlib.Decide.{ℕ_discrete}
use lib.ListN.{length, get_or}
use borrow.Author.Tests.{eq-eqb, eqb-true}
use Rattle.clauses.specs.Code.{negate, net}
use Rattle.clauses.specs.Clause.{Same}
use Rattle.clauses.proofs.Codes.{negate_negate, net_negate, negate_inj}
use Rattle.clauses.proofs.Clauses.{same_sym}
use Rattle.gates.specs.Gate.{Input, AndGate}
use Rattle.gates.specs.Found.{is_and, Found}
use Rattle.clauses.specs.Row.{clause_at, Starts, LiteralAt}
use Rattle.clauses.proofs.Rows.{literal_in, literal_of}
use Rattle.gates.proofs.Ands.{input_same}
use Rattle.rules.specs.Rule.{Concludes}
use Rattle.rules.specs.Grouping.{Closure}
use Rattle.rules.specs.Answer.{lead_of}
use Rattle.closure.specs.Making.{Kernel, Drawn, Making, JoinedBy, Later, Rule3}
use Rattle.closure.specs.Joining.{join_state}
use Rattle.closure.specs.Passing.{lead_at, is_other, First, with_true, with_inverse, Clash, AndJoined}
use Rattle.closure.specs.Marked.{Marked, Ready, Went}
use Rattle.closure.specs.declared.tally.Tally.{Tally}
use Rattle.closure.proofs.Searches.{lead_false, lead_true, lead_negate, other_is, not_other}
use Rattle.closure.proofs.AndClashes.{inverse_clash}
use Rattle.closure.proofs.JoinedBy.{drawn_old, drawn_new, joined_old, joined_back, joined_chain}
use Rattle.closure.proofs.Going.{went_none, went_making, ready_net, join_went}

-- The AND

-- an input by its place: the literal there is its inverse
pub record InputAt (row old : List ℕ) (b p r : ℕ) : Type 0 where
  pub place : ℕ
  pub at : LiteralAt row b place
  pub apart : place ≢ p
  pub lead : lead_at row old place ≡ negate (lead_of old r)

pub input-at : (row old : List ℕ) (b p : ℕ) → Starts row b → (r : ℕ) → Input (clause_at row b) (get_or row p 0) r → InputAt row old b p r
input-at row old b p s r i =
    let o = literal_of row b s (negate r) i.inverse in
    record {
      place = o.place;
      at = o.at;
      apart = λ d. i.other (sym o.is ∙ ap (λ (k : ℕ). get_or row k 0) d);
      lead = ap (lead_of old) o.is ∙ lead_negate old r;
    }

pub at_input : {cs : List (List ℕ)} {row marks : List ℕ} → Marked cs row marks → (b p : ℕ) → LiteralAt row b p → (q : ℕ) → LiteralAt row b q → q ≢ p
    → Input (clause_at row b) (get_or row p 0) (negate (get_or row q 0))
at_input {row = row} marked b p here q k n =
    record {
      inverse = rw negate_negate (literal_in row b q k);
      other = λ d. n (marked.literal_once b q p k here (sym (negate_negate (get_or row q 0)) ∙ d));
    }

module _ (row marks old : List ℕ) (b e p : ℕ) (end_is : e ≡ b + length (clause_at row b)) (here : LiteralAt row b p) where
  abbrev l : ℕ
  l = get_or row p 0

  abbrev In : ℕ → Type 0
  In = Input (clause_at row b) l

  literal : (q : ℕ) → b ≤ q → q < e → LiteralAt row b q
  literal q m h = record { start = here.start; low = m; high = omega (arith, end_is) }

  below : (q : ℕ) → LiteralAt row b q → q < e
  below q k = omega (arith, k.high, end_is)

  input : (r : ℕ) → In r → InputAt row old b p r
  input = input-at row old b p here.start

  -- An input joined to F, or two joined as inverses

  false_clash : (r : ℕ) → In r → Kernel old r 0 → Clash row old b e p
  false_clash r i k =
      let a = input r i in
      (a.place, a.at.low, below a.place a.at, with_true a.apart (a.lead ∙ ap negate (k ∙ lead_false old)))

  inverses_clash : (r s : ℕ) → In r → In s → Kernel old r (negate s) → Clash row old b e p
  inverses_clash r s i j k = go (input r i) (input s j)
    where
      go : InputAt row old b p r → InputAt row old b p s → Clash row old b e p
      go a d =
          inverse_clash d.place d.at.low (below d.place d.at) d.apart
          (record {
            place = a.place;
            low = a.at.low;
            high = below a.place a.at;
            apart = a.apart;
            lead = a.lead ∙ ap negate (k ∙ lead_negate old s ∙ sym d.lead);
          })

  -- the lead of an input, by its place
  lead_of_input : (r : ℕ) (a : InputAt row old b p r) (x : ℕ) → lead_at row old a.place ≡ x → lead_of old r ≡ negate x
  lead_of_input r a x h = sym (negate_negate (lead_of old r)) ∙ ap negate (sym a.lead ∙ h)

  to_true : (r : ℕ) → lead_of old r ≡ 1 → Kernel old r 1
  to_true r h = h ∙ sym (lead_true old)

  module _ (mark : is_and (get_or marks p 0) ≡ true) where
    gate : (cs : List (List ℕ)) → Marked cs row marks → AndGate cs (clause_at row b) l
    gate cs marked = marked.and_is b p here mark

    clash_drawn : Clash row old b e p → (cs : List (List ℕ)) → Marked cs row marks → Drawn cs old l 0
    clash_drawn (q, low, high, with_true n h) cs marked =
        drawn_new cs old _ _
        (Concludes.and_false (gate cs marked) (at_input marked b p here q (literal q low high) n)
        (lead_negate old (get_or row q 0) ∙ ap negate h ∙ sym (lead_false old)))
    clash_drawn (q, low, high, with_inverse n s m h k i) cs marked =
        drawn_new cs old _ _
        (Concludes.and_inverses (gate cs marked) (at_input marked b p here q (literal q low high) n) (at_input marked b p here s (literal s (omega arith) h) k)
        (lead_negate old (get_or row q 0) ∙ sym i ∙ ap (lead_of old) (sym (negate_negate (get_or row s 0)))))

    module _ {new : List ℕ} {t : Tally} (ready : Ready row marks old new t) where
      inside : (q : ℕ) → LiteralAt row b q → net (get_or row q 0) ≤ length old
      inside = ready_net ready b

      -- Every input is joined to T

      module _ (q : ℕ) (f : First (is_other row old p 0) b e q) (at-end : q ≡ e) where
        all_true : (r : ℕ) → In r → lead_of old r ≡ 1
        all_true r i = let a = input r i in lead_of_input r a 0 (go a (not_other row old p 0 a.place (f.before a.place a.at.low (omega (arith, below a.place a.at))) a.apart))
          where
            go : (a : InputAt row old b p r) → (lead_at row old a.place ≡ 0) ⊎ (lead_at row old a.place ≡ 0) → lead_at row old a.place ≡ 0
            go a (inl z) = z
            go a (inr z) = z

        pub and_true : (new' : List ℕ) (t' : Tally) → record { row = new'; tally = t' } ≡ join_state new t l 1
            → Went row marks old new t new' t' × AndJoined row old new' t' b p
        and_true new' t' eq = (k.0, record { and_false = falses; and_inverses = opposites; and_input = inputs })
          where
            drawn : (cs : List (List ℕ)) → Marked cs row marks → Drawn cs old l 1
            drawn cs marked =
                let g = gate cs marked in
                Closure.chain
                (drawn_new cs old _ _ (Concludes.and_input g g.one_in (λ s i. inl (to_true s (all_true s i)))))
                (drawn_old cs old g.one 1 (to_true g.one (all_true g.one g.one_in)))

            k : Went row marks old new t new' t' × JoinedBy new' t' l 1
            k = join_went ready drawn (inside p here) (omega arith) eq

            making : Making ready.of old new' t'
            making = went_making ready k.0

            falses : (r : ℕ) → In r → Kernel old r 0 → JoinedBy new' t' l 0
            falses r i h = absurd (omega (arith, h ∙ lead_false old, all_true r i))

            opposites : (r s : ℕ) → In r → In s → Kernel old r (negate s) → JoinedBy new' t' l 0
            opposites r s i j h = absurd (omega (arith, h ∙ lead_negate old s, all_true r i, all_true s j))

            inputs : (r : ℕ) → In r → ((s : ℕ) → In s → Kernel old s 1 ⊎ Kernel old s r) → JoinedBy new' t' l r
            inputs r i h = joined_chain making l 1 r k.1 (joined_back making r 1 (joined_old making r 1 (to_true r (all_true r i))))

      -- Some input is not joined to T

      module _ (q : ℕ) (f : First (is_other row old p 0) b e q) (inner : q < e) where
        first_in : In (negate (get_or row q 0))
        first_in = at_input ready.marked b p here q (literal q f.low inner) (other_is row old p 0 q (f.here inner)).0

        abbrev first : ℕ
        first = negate (get_or row q 0)

        not_zero : lead_at row old q ≢ 0
        not_zero = (other_is row old p 0 q (f.here inner)).1

        first_lead : lead_of old first ≡ negate (lead_at row old q)
        first_lead = lead_negate old (get_or row q 0)

        -- the others are joined to T or to it
        module _ (s : ℕ) (g : First (is_other row old p (lead_at row old q)) b e s) (at-end : s ≡ e) where
          agree : (r : ℕ) → In r → (lead_of old r ≡ 1) ⊎ (lead_of old r ≡ lead_of old first)
          agree r i = let a = input r i in go a (not_other row old p (lead_at row old q) a.place (g.before a.place a.at.low (omega (arith, below a.place a.at))) a.apart)
            where
              go : (a : InputAt row old b p r) → (lead_at row old a.place ≡ 0) ⊎ (lead_at row old a.place ≡ lead_at row old q) → (lead_of old r ≡ 1) ⊎ (lead_of old r ≡ lead_of old first)
              go a (inl z) = inl (lead_of_input r a 0 z)
              go a (inr z) = inr (lead_of_input r a (lead_at row old q) z ∙ sym first_lead)

          pub and_one : (z : ℕ) → z ≡ first → (new' : List ℕ) (t' : Tally) → record { row = new'; tally = t' } ≡ join_state new t l z
              → Went row marks old new t new' t' × AndJoined row old new' t' b p
          and_one z is new' t' eq = (k.0, record { and_false = falses; and_inverses = opposites; and_input = inputs })
            where
              drawn : (cs : List (List ℕ)) → Marked cs row marks → Drawn cs old l first
              drawn cs marked = drawn_new cs old _ _ (Concludes.and_input (gate cs marked) first_in (λ r i. go r (agree r i)))
                where
                  go : (r : ℕ) → (lead_of old r ≡ 1) ⊎ (lead_of old r ≡ lead_of old first) → Kernel old r 1 ⊎ Kernel old r first
                  go r (inl h) = inl (to_true r h)
                  go r (inr h) = inr h

              k : Went row marks old new t new' t' × JoinedBy new' t' l first
              k = join_went ready drawn (inside p here) (rw net_negate (inside q (literal q f.low inner))) (eq ∙ ap (join_state new t l) is)

              making : Making ready.of old new' t'
              making = went_making ready k.0

              -- the input is joined to F
              to_false : lead_of old first ≡ 0 → JoinedBy new' t' l 0
              to_false h = joined_chain making l first 0 k.1 (joined_old making first 0 (h ∙ sym (lead_false old)))

              falses : (r : ℕ) → In r → Kernel old r 0 → JoinedBy new' t' l 0
              falses r i h = go (agree r i)
                where
                  go : (lead_of old r ≡ 1) ⊎ (lead_of old r ≡ lead_of old first) → JoinedBy new' t' l 0
                  go (inl d) = absurd (omega (arith, h ∙ lead_false old))
                  go (inr d) = to_false (sym d ∙ h ∙ lead_false old)

              opposites : (r o : ℕ) → In r → In o → Kernel old r (negate o) → JoinedBy new' t' l 0
              opposites r o i j h = to_false (go (agree r i) (agree o j) (h ∙ lead_negate old o))
                where
                  go : (lead_of old r ≡ 1) ⊎ (lead_of old r ≡ lead_of old first) → (lead_of old o ≡ 1) ⊎ (lead_of old o ≡ lead_of old first)
                      → lead_of old r ≡ negate (lead_of old o) → lead_of old first ≡ 0
                  go (inl x) (inl y) n = omega arith
                  go (inl x) (inr y) n = omega arith
                  go (inr x) (inl y) n = omega arith
                  go (inr x) (inr y) n = omega arith

              inputs : (r : ℕ) → In r → ((o : ℕ) → In o → Kernel old o 1 ⊎ Kernel old o r) → JoinedBy new' t' l r
              inputs r i h = go (h first first_in)
                where
                  go : Kernel old first 1 ⊎ Kernel old first r → JoinedBy new' t' l r
                  go (inl d) = absurd (not_zero (omega (arith, d ∙ lead_true old, first_lead)))
                  go (inr d) = joined_chain making l first r k.1 (joined_old making first r d)

        -- another one is not joined to T, nor to it
        module _ (s : ℕ) (g : First (is_other row old p (lead_at row old q)) b e s) (more : s < e) where
          disagree : (r : ℕ) → In r → ((o : ℕ) → In o → Kernel old o 1 ⊎ Kernel old o r) → ⊥
          disagree r i h = go (h first first_in) (h second second_in)
            where
              other : (s ≢ p) × (lead_at row old s ≢ 0) × (lead_at row old s ≢ lead_at row old q)
              other = other_is row old p (lead_at row old q) s (g.here more)

              second : ℕ
              second = negate (get_or row s 0)

              second_in : In second
              second_in = at_input ready.marked b p here s (literal s g.low more) other.0

              second_lead : lead_of old second ≡ negate (lead_at row old s)
              second_lead = lead_negate old (get_or row s 0)

              go : Kernel old first 1 ⊎ Kernel old first r → Kernel old second 1 ⊎ Kernel old second r → ⊥
              go (inl d) x = not_zero (omega (arith, d ∙ lead_true old, first_lead))
              go (inr d) (inl x) = other.1 (omega (arith, x ∙ lead_true old, second_lead))
              go (inr d) (inr x) = other.2 (negate_inj (lead_at row old s) (lead_at row old q) (sym second_lead ∙ x ∙ sym d ∙ first_lead))

          pub and_clash : Clash row old b e p → (new' : List ℕ) (t' : Tally) → record { row = new'; tally = t' } ≡ join_state new t l 0
              → Went row marks old new t new' t' × AndJoined row old new' t' b p
          and_clash h new' t' eq =
              let k = join_went ready (clash_drawn h) (inside p here) (omega arith) eq in
              (k.0, record { and_false = λ r i d. k.1; and_inverses = λ r o i j d. k.1; and_input = λ r i d. absurd (disagree r i d) })

          pub and_none : ¬ Clash row old b e p → Went row marks old new t new t × AndJoined row old new t b p
          and_none n = (
            went_none,
            record {
              and_false = λ r i d. absurd (n (false_clash r i d));
              and_inverses = λ r o i j d. absurd (n (inverses_clash r o i j d));
              and_input = λ r i d. absurd (disagree r i d);
            },
          )

-- All ANDs

pub is-and : (mark : ℕ) → mark % 2 ≡ 1 → is_and mark ≡ true
unfolding is_and
is-and mark h = eq-eqb _ _ h

pub not_and : (mark : ℕ) → mark % 2 ≢ 1 → is_and mark ≢ true
unfolding is_and
not_and mark n h = n (eqb-true _ _ h)

pub and_later : {row old new new' : List ℕ} {t t' : Tally} {b p : ℕ} → Later new t new' t' → AndJoined row old new t b p → AndJoined row old new' t' b p
and_later f a =
    record {
      and_false = λ r i h. f _ _ (a.and_false r i h);
      and_inverses = λ r s i j h. f _ _ (a.and_inverses r s i j h);
      and_input = λ r i h. f _ _ (a.and_input r i h);
    }

-- an input of an AND, of the same clause and output written otherwise
pub input_moved : {c d : List ℕ} {l x r : ℕ} → Same c d → x ≡ l → Input c l r → Input d x r
input_moved {d = d} {r = r} s e i = subst⁻¹ (λ (y : ℕ). Input d y r) e (input_same s i)

-- rule 3 has been gone over for the places of the clause at b below p
abbrev pub ClauseDone : List ℕ → List ℕ → List ℕ → List ℕ → Tally → ℕ → ℕ → Type 0
ClauseDone row marks old new t b p = (q : ℕ) → LiteralAt row b q → q < p → is_and (get_or marks q 0) ≡ true → AndJoined row old new t b q

module _ {row old new : List ℕ} {t : Tally} (marks : List ℕ) where
  pub clause_none : (b : ℕ) → ClauseDone row marks old new t b b
  clause_none b q l h = absurd (omega (arith, l.low, h))

  module _ {b p : ℕ} where
    pub clause_passed : ClauseDone row marks old new t b p → ¬ (is_and (get_or marks p 0) ≡ true) → ClauseDone row marks old new t b (p + 1)
    clause_passed d n q l h i = go (ℕ_discrete q p)
      where
        go : Dec (q ≡ p) → AndJoined row old new t b q
        go (yes e) = absurd (n (subst (λ (x : ℕ). is_and (get_or marks x 0) ≡ true) e i))
        go (no e) = d q l (omega arith) i

    pub clause_next : {new' : List ℕ} {t' : Tally} → Later new t new' t' → ClauseDone row marks old new t b p → AndJoined row old new' t' b p → ClauseDone row marks old new' t' b (p + 1)
    clause_next {new'} {t'} later d j q l h i = go (ℕ_discrete q p)
      where
        go : Dec (q ≡ p) → AndJoined row old new' t' b q
        go (yes e) = subst⁻¹ (AndJoined row old new' t' b) e j
        go (no e) = and_later later (d q l (omega arith) i)

-- .. for all of them
abbrev pub AllAnds : List ℕ → List ℕ → List ℕ → List ℕ → Tally → ℕ → Type 0
AllAnds row marks old new t b = (q : ℕ) → LiteralAt row b q → is_and (get_or marks q 0) ≡ true → AndJoined row old new t b q

pub all_later : {row old new new' : List ℕ} {t t' : Tally} {b : ℕ} (marks : List ℕ) → Later new t new' t' → AllAnds row marks old new t b → AllAnds row marks old new' t' b
all_later marks later a q l i = and_later later (a q l i)

-- rule 3 of a list, from the ANDs of its row
pub rule3 : {cs : List (List ℕ)} {row marks old new : List ℕ} {t : Tally} → Found cs row marks
    → ((b p : ℕ) → LiteralAt row b p → is_and (get_or marks p 0) ≡ true → AndJoined row old new t b p) → Rule3 cs old new t
rule3 {cs} {row} {old = old} {new = new} {t = t} found done = record { and_false = falses; and_inverses = opposites; and_input = inputs }
  where
    -- an AND by its place
    entry : (c : List ℕ) (l : ℕ) → AndGate cs c l → (b : ℕ) × (q : ℕ) × AndJoined row old new t b q × Same c (clause_at row b) × (get_or row q 0 ≡ l)
    entry c l g =
        let f = found.and_found c l g in
        (f.0, f.1, done f.0 f.1 f.2 f.3, f.4, f.5)

    falses : (c : List ℕ) (l r : ℕ) → AndGate cs c l → Input c l r → Kernel old r 0 → JoinedBy new t l 0
    falses c l r g i k =
        let a = entry c l g in
        subst (λ (x : ℕ). JoinedBy new t x 0) a.4 (a.2.and_false r (input_moved a.3 a.4 i) k)

    opposites : (c : List ℕ) (l r s : ℕ) → AndGate cs c l → Input c l r → Input c l s → Kernel old r (negate s) → JoinedBy new t l 0
    opposites c l r s g i j k =
        let a = entry c l g in
        subst (λ (x : ℕ). JoinedBy new t x 0) a.4 (a.2.and_inverses r s (input_moved a.3 a.4 i) (input_moved a.3 a.4 j) k)

    inputs : (c : List ℕ) (l r : ℕ) → AndGate cs c l → Input c l r → ((s : ℕ) → Input c l s → Kernel old s 1 ⊎ Kernel old s r) → JoinedBy new t l r
    inputs c l r g i k =
        let a = entry c l g in
        subst (λ (x : ℕ). JoinedBy new t x r) a.4
        (a.2.and_input r (input_moved a.3 a.4 i) (λ s j. k s (input_moved (same_sym a.3) (sym a.4) j)))
