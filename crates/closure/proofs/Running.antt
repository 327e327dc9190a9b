-- Rounds that are made one after the other: what holds before each of them, and how they end.
-- Assumes nothing.
use mathlib.Core.Path.{◌≡◌, refl, sym, ◌∙◌, ap, subst, subst⁻¹}
use mathlib.Core.Logic.{◌≢◌, ◌⊎◌, inl, inr}
use mathlib.Core.Bool.{Bool, true, false, true≢false}
use mathlib.Core.List.{List, Memᴰ}
use Prim.Native.Nat.{ℕ, suc, ◌+◌, ◌*◌, ◌≤◌, ◌<◌}
use native.Mathlib.Omega.{arith}
use native.Mathlib.Nat.{not-suc-le-zero, le_of_suc-le-suc}
use native.Mathlib.Numerals.{add-one}
use lib.Dec.{eqb}
use lib.ListN.{length, replicate}
use borrow.Author.Tests.{eq-eqb, eqb-true, not-true}
use Rattle.clauses.specs.Lists.{from}
use Rattle.clauses.specs.Listing.{Fits}
use Rattle.clauses.proofs.Lists.{and_both, from_low, from_length}
use Rattle.clauses.proofs.Distinct.{from_distinct}
use Rattle.clauses.specs.Code.{nets_of}
use Rattle.rules.specs.declared.Verdict.TheVariants.{Contradiction, Settled, Unfinished}
use Rattle.closure.specs.declared.tally.Tally.{Tally}
use Rattle.rules.specs.Grouping.{Closure, After}
use Rattle.rules.specs.Ending.{Still}
use Rattle.rules.specs.Answer.{own, no_lead}
use Rattle.rules.specs.Compute.{ended, closed}
use Rattle.closure.specs.Making.{Making, fresh, Rules}
use Rattle.rules.proofs.Rounds.{Row}
use Rattle.rules.proofs.Closing.{up_to, no_clash, settles, clashes, stops, first_lead, first_is, closed_is}
use Rattle.rules.proofs.Groups.{is_own, own_length, own_none}
use Rattle.closure.proofs.Making.{within_length}
use Rattle.closure.specs.Rounds.{is_still}
use Rattle.closure.proofs.RoundsMade.{clash_after, row_after, still_after, moved_after}

-- at first every net leads itself
own_first : (v : ℕ) → v ≡ length (own v (nets_of v))
own_first v = le_both (subst (λ (n : ℕ). n ≤ length (own v (nets_of v))) (from_length 1 v) (within_length (from 1 v) (own v (nets_of v)) (from_distinct 1 v) all)) (own_length v (nets_of v))
  where
    le_both : {a b : ℕ} → a ≤ b → b ≤ a → a ≡ b
    le_both p q = omega arith

    all : (w : ℕ) → Memᴰ w (from 1 v) → Memᴰ w (own v (nets_of v))
    all w k = let b = from_low 1 v w k in is_own v (nets_of v) w (first_lead v (2 * w)) (omega arith) (omega arith)

-- a round that joins nothing, by its tally

module _ (t : Tally) where
  pub still_joins : t.clash ≡ false → eqb t.joins 0 ≡ is_still t
  unfolding is_still
  still_joins c = rw (c)

  pub still_clash : t.clash ≡ true → false ≡ is_still t
  unfolding is_still
  still_clash c = rw (c)

  pub still_is : is_still t ≡ true → (t.clash ≡ false) × (t.joins ≡ 0)
  unfolding is_still
  still_is h = let p = and_both _ _ h in (not-true _ p.0, eqb-true t.joins 0 p.1)

  pub moved_joins : is_still t ≡ false → t.clash ≡ false → t.joins ≢ 0
  moved_joins h c e = true≢false (sym (eq-eqb t.joins 0 e) ∙ still_joins c ∙ h)

  pub moved_is : is_still t ≡ false → (t.clash ≡ true) ⊎ ((t.clash ≡ false) × (t.joins ≢ 0))
  moved_is h = go t.clash refl
    where
      go : (b : Bool) → t.clash ≡ b → (t.clash ≡ true) ⊎ ((t.clash ≡ false) × (t.joins ≢ 0))
      go true e = inl e
      go false e = inr (e, moved_joins h e)

-- the rounds made so far: the leads after them, as the next ones start, and their groups
pub record Reached (v : ℕ) (cs : List (List ℕ)) (made : ℕ) (leads next : List ℕ) (groups : ℕ) : Type 0 where
  pub row : Row v leads (After cs made)
  pub ready : next ≡ leads
  pub counted : groups ≡ length (own v leads)
  pub moved : (i : ℕ) → i < made → ¬ Still cs i

pub none_made : (v : ℕ) (cs : List (List ℕ)) → Reached v cs 0 (nets_of v) (nets_of v) v
none_made v cs = record { row = first_is v cs; ready = refl; counted = own_first v; moved = λ i h. absurd (not-suc-le-zero h) }

module _ (v : ℕ) (cs : List (List ℕ)) (made : ℕ) (leads next : List ℕ) (groups : ℕ) (r : Reached v cs made leads next groups) where
  -- the next round can start
  pub round_starts : Making cs leads next (fresh groups)
  round_starts =
      subst⁻¹ (λ (l : List ℕ). Making cs leads l (fresh groups)) r.ready
      (record {
        size = refl;
        inverse = r.row.rep.canonical.inverse;
        again = r.row.rep.canonical.again;
        low = r.row.rep.canonical.low;
        sound = λ a b e. Closure.base (inl e);
        still = λ a b e. e;
        clash_drawn = λ e. absurd (true≢false (sym e));
        groups_are = left;
        joins_are = omega (arith, left);
      })
    where
      left : groups ≡ length (own (length leads) leads)
      left = subst⁻¹ (λ (w : ℕ). groups ≡ length (own w leads)) r.row.size r.counted

  -- on contradiction no group is left
  pub none_left : 0 ≡ length (own v (replicate (length leads) no_lead))
  none_left = subst⁻¹ (λ (n : ℕ). 0 ≡ length (own v (replicate n no_lead))) r.row.size (sym (ap length (own_none v)))

  module _ (fit : Fits v cs) (limit : ℕ) (new : List ℕ) (t : Tally) (m : Making cs leads new t) (all : Rules cs leads new t) where
    pub round_settles : t.clash ≡ false → t.joins ≡ 0 → made ≤ limit → ended Settled made leads ≡ closed v cs limit
    round_settles c j q =
        closed_is v cs fit limit _ (settles v cs fit limit made leads q r.row (still_after v cs made leads new t r.row m all c j) r.moved)

    pub round_clashes : t.clash ≡ true → made < limit → ended Contradiction (made + 1) (replicate (length leads) no_lead) ≡ closed v cs limit
    round_clashes c q =
        rw add-one
        (closed_is v cs fit limit (ended Contradiction (suc made) (replicate (length leads) no_lead))
        (clashes v cs fit limit made leads q r.row (clash_after v cs made leads new t r.row m c)))

    changes : (t.clash ≡ true) ⊎ ((t.clash ≡ false) × (t.joins ≢ 0)) → ¬ Still cs made
    changes (inl c) s = no_clash v leads (After cs made) r.row (s 1 0 (clash_after v cs made leads new t r.row m c))
    changes (inr (c, j)) s = moved_after v cs made leads new t r.row m all c j s

    pub round_stops : (t.clash ≡ true) ⊎ ((t.clash ≡ false) × (t.joins ≢ 0)) → made ≡ limit → ended Unfinished made leads ≡ closed v cs limit
    round_stops c q = closed_is v cs fit limit _ (stops v cs fit limit made leads q r.row r.moved (changes c))

    pub round_made : t.clash ≡ false → t.joins ≢ 0 → Reached v cs (made + 1) new new t.groups
    round_made c j =
        rw add-one
        (record {
          row = row_after v cs made leads new t r.row m all c;
          ready = refl;
          counted = subst (λ (w : ℕ). t.groups ≡ length (own w new)) r.row.size m.groups_are;
          moved = λ i h. up_to v cs fit limit made r.moved (changes (inr (c, j))) i (le_of_suc-le-suc h);
        })
