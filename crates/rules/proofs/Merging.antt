-- Merging conclusions into a row of leads, one after the other, in any order.
-- Assumes nothing.
use mathlib.Core.Path.{◌≡◌, refl, sym, ◌∙◌, ap, subst⁻¹, fun_ext}
use mathlib.Core.Logic.{◌≢◌, ◌⊎◌, inl, inr}
use mathlib.Core.Bool.{Bool, true, false}
use mathlib.Core.List.{List, [], ◌∷◌, map, Memᴰ}
use Prim.Native.Nat.{ℕ, zero, suc, ◌*◌, ◌≤◌, ◌<◌, suc-le-suc}
use native.Mathlib.Omega.{arith}
use native.Mathlib.Decide.{ℕ_discrete, dec_lt}
use native.Mathlib.Nat.{not-suc-le-zero, le_of_suc-le-suc}
use lib.ListN.{length, get_or-eq_default, get_or, length-map}
use borrow.Author.Tests.{eq-eqb, ne_eqb, lt-ltb, le-ltb}
use Rattle.clauses.specs.Code.{negate, net}
use Rattle.clauses.proofs.Lists.{in_first}
use Rattle.clauses.proofs.Codes.{same_net}
use Rattle.clauses.specs.Sign.{flip, is_inverse}
use Rattle.rules.specs.Grouping.{Closure}
use Rattle.rules.specs.Answer.{lead_of}
use Rattle.rules.specs.Compute.{Conclusion, Grouping, by_leads, everything, replace, join_leads, join_all}
use Rattle.rules.proofs.Leads.{Canonical, kept, replace_is, replace_negate, merged, merged_canonical, merged_joins, merged_sound}

get_d_map : (f : ℕ → ℕ) (l : List ℕ) (i d : ℕ) → i < length l → get_or (map f l) i d ≡ f (get_or l i d)
get_d_map f [] i d h = absurd (not-suc-le-zero h)
get_d_map f (x ∷ xs) zero d h = refl
get_d_map f (x ∷ xs) (suc i) d h = get_d_map f xs i d (le_of_suc-le-suc h)

replace_flip : (hi lo : ℕ) (b : Bool) (e : ℕ) → replace hi lo (flip b e) ≡ flip b (replace hi lo e)
replace_flip hi lo false e = refl
replace_flip hi lo true e = replace_negate hi lo e

-- a row that has an entry for the constants, too
abbrev look : List ℕ → ℕ → ℕ
look l c = flip (is_inverse c) (get_or l (net c) (2 * net c))

look_merged : (l : List ℕ) (hi lo c : ℕ) → net hi < length l → look (map (replace hi lo) l) c ≡ replace hi lo (look l c)
look_merged l hi lo c h = go (dec_lt (net c) (length l))
  where
    go : Dec (net c < length l) → look (map (replace hi lo) l) c ≡ replace hi lo (look l c)
    go (yes p) = ap (flip (is_inverse c)) (get_d_map (replace hi lo) l (net c) (2 * net c) p) ∙ sym (replace_flip hi lo (is_inverse c) (get_or l (net c) (2 * net c)))
    go (no n) =
        ap (flip (is_inverse c))
        (get_or-eq_default (map (replace hi lo) l) (2 * net c) (rw length-map (omega arith))
        ∙ sym (replace_is hi lo (2 * net c) (2 * net c) (kept (omega arith) refl))
        ∙ ap (replace hi lo) (sym (get_or-eq_default l (2 * net c) (omega arith))))
        ∙ sym (replace_flip hi lo (is_inverse c) (get_or l (net c) (2 * net c)))

-- the row after a merge: the merged function
pub lead_merged : (leads : List ℕ) (hi lo c : ℕ) → net lo < net hi → net hi ≤ length leads → lead_of (map (replace hi lo) leads) c ≡ replace hi lo (lead_of leads c)
unfolding lead_of
lead_merged leads hi lo c lower h =
    ap (λ (e : ℕ). look (e ∷ map (replace hi lo) leads) c) (sym (replace_is hi lo 0 0 (kept (omega arith) refl)))
    ∙ look_merged (0 ∷ leads) hi lo c (suc-le-suc h)

-- the lead row as it stands, with respect to what may be joined
pub record Sound (S : ℕ → ℕ → Type 0) (leads : List ℕ) : Type 0 where
  pub canonical : Canonical (lead_of leads)
  pub sound : (a b : ℕ) → lead_of leads a ≡ lead_of leads b → Closure S a b

-- the row `after` joins all that `before` joins
pub record Coarser (before after : List ℕ) : Type 0 where
  pub still : (a b : ℕ) → lead_of before a ≡ lead_of before b → lead_of after a ≡ lead_of after b
  pub size : length after ≡ length before

pub record Merged (S : ℕ → ℕ → Type 0) (before : List ℕ) (a b : ℕ) (after : List ℕ) : Type 0 where
  pub row : Sound S after
  pub coarser : Coarser before after
  pub joins : lead_of after a ≡ lead_of after b

module _ (S : ℕ → ℕ → Type 0) (leads : List ℕ) (s : Sound S leads) where
  module _ (lo hi : ℕ) (flo : lead_of leads lo ≡ lo) (fhi : lead_of leads hi ≡ hi) (lower : net lo < net hi) (inside : net hi ≤ length leads) (add : Closure S lo hi) where
    ext : lead_of (map (replace hi lo) leads) ≡ merged (lead_of leads) s.canonical lo hi flo fhi lower
    ext = fun_ext (λ c. lead_merged leads hi lo c lower inside)

    merge_rows : Merged S leads lo hi (map (replace hi lo) leads)
    merge_rows =
        record {
          row = record {
            canonical = subst⁻¹ Canonical ext (merged_canonical (lead_of leads) s.canonical lo hi flo fhi lower);
            sound = subst⁻¹ (λ (f : ℕ → ℕ). (a b : ℕ) → f a ≡ f b → Closure S a b) ext (merged_sound (lead_of leads) s.canonical lo hi flo fhi lower S s.sound add);
          };
          coarser = record {
            still = λ a b e. lead_merged leads hi lo a lower inside ∙ ap (replace hi lo) e ∙ sym (lead_merged leads hi lo b lower inside);
            size = length-map leads (replace hi lo);
          };
          joins = subst⁻¹ (λ (f : ℕ → ℕ). f lo ≡ f hi) ext (merged_joins (lead_of leads) s.canonical lo hi flo fhi lower);
        }

  abbrev pub Outcome : ℕ → ℕ → Grouping → Type 0
  Outcome a b (by_leads l) = Merged S leads a b l
  Outcome a b everything = Closure S 1 0

  lead_joined : (a : ℕ) → Closure S a (lead_of leads a)
  lead_joined a = s.sound a (lead_of leads a) (sym (s.canonical.again a))

  -- a merge of leads joins what they lead
  carried : (a b : ℕ) (l : List ℕ) → Merged S leads (lead_of leads a) (lead_of leads b) l → Merged S leads a b l
  carried a b l h =
      record {
        row = h.row;
        coarser = h.coarser;
        joins = h.coarser.still a (lead_of leads a) (sym (s.canonical.again a)) ∙ h.joins ∙ h.coarser.still (lead_of leads b) b (s.canonical.again b);
      }

  turned : (a b : ℕ) (l : List ℕ) → Merged S leads a b l → Merged S leads b a l
  turned a b l h = record { row = h.row; coarser = h.coarser; joins = sym h.joins }

  pub join_step : (a b : ℕ) → Closure S a b → net a ≤ length leads → net b ≤ length leads → Outcome a b (join_leads leads (lead_of leads a) (lead_of leads b))
  unfolding join_leads
  join_step a b h ia ib = go (ℕ_discrete (net x) (net y)) (ℕ_discrete x y) (dec_lt (net x) (net y))
    where
      x : ℕ
      x = lead_of leads a

      y : ℕ
      y = lead_of leads b

      xy : Closure S x y
      xy = Closure.chain (Closure.back (lead_joined a)) (Closure.chain h (lead_joined b))

      lx : net x ≤ net a
      lx = s.canonical.low a

      ly : net y ≤ net b
      ly = s.canonical.low b

      opposite : (x ≡ y) ⊎ (x ≡ negate y) → x ≢ y → Closure S 1 0
      opposite (inl e) n = absurd (n e)
      opposite (inr e) n =
          Closure.clash (Closure.chain (Closure.back h) (s.sound a (negate b) (e ∙ sym (s.canonical.inverse b))))

      go : Dec (net x ≡ net y) → Dec (x ≡ y) → Dec (net x < net y) → Outcome a b (join_leads leads x y)
      go (yes e) (yes q) d =
          rw (eq-eqb (net x) (net y) e, eq-eqb x y q, join_leads)
          (record { row = s; coarser = record { still = λ c e h. h; size = refl }; joins = q })
      go (yes e) (no n) d =
          rw (eq-eqb (net x) (net y) e, ne_eqb x y n, join_leads) (opposite (same_net x y e) n)
      go (no n) q (yes d) =
          rw (ne_eqb (net x) (net y) n, lt-ltb (net x) (net y) d, join_leads)
          (carried a b (map (replace y x) leads) (merge_rows x y (s.canonical.again a) (s.canonical.again b) d (omega (arith, ly)) xy))
      go (no n) q (no d) =
          rw (ne_eqb (net x) (net y) n, le-ltb (net x) (net y) (omega arith), join_leads)
          (carried a b (map (replace x y) leads)
          (turned y x (map (replace x y) leads)
          (merge_rows y x (s.canonical.again b) (s.canonical.again a) (omega arith) (omega (arith, lx)) (Closure.back xy))))

-- every pair of the list lies in the row and may be joined
pub record Allowed (S : ℕ → ℕ → Type 0) (n : ℕ) (ps : List Conclusion) : Type 0 where
  pub may : (p : Conclusion) → Memᴰ p ps → Closure S p.one p.two
  pub first_in : (p : Conclusion) → Memᴰ p ps → net p.one ≤ n
  pub second_in : (p : Conclusion) → Memᴰ p ps → net p.two ≤ n

pub record Finished (S : ℕ → ℕ → Type 0) (before : List ℕ) (ps : List Conclusion) (after : List ℕ) : Type 0 where
  pub row : Sound S after
  pub coarser : Coarser before after
  pub joins : (p : Conclusion) → Memᴰ p ps → lead_of after p.one ≡ lead_of after p.two

abbrev pub Result : (ℕ → ℕ → Type 0) → List ℕ → List Conclusion → Grouping → Type 0
Result S before ps (by_leads l) = Finished S before ps l
Result S before ps everything = Closure S 1 0

join_all_everything : (ps : List Conclusion) → join_all ps everything ≡ everything
unfolding join_all
join_all_everything [] = refl
join_all_everything (p ∷ ps) = refl

-- the first pair is joined, then the others
onward : (S : ℕ → ℕ → Type 0) (before : List ℕ) (p : Conclusion) (ps : List Conclusion) (l : List ℕ) (g : Grouping)
    → Merged S before p.one p.two l → Result S l ps g → Result S before (p ∷ ps) g
onward S before p ps l everything h r = r
onward S before p ps l (by_leads m) h r =
    record {
      row = r.row;
      coarser = record { still = λ a b e. r.coarser.still a b (h.coarser.still a b e); size = r.coarser.size ∙ h.coarser.size };
      joins = joins;
    }
  where
    joins : (q : Conclusion) → Memᴰ q (p ∷ ps) → lead_of m q.one ≡ lead_of m q.two
    joins q (Memᴰ.head e) = rw e (r.coarser.still p.one p.two h.joins)
    joins q (Memᴰ.tail k) = r.joins q k

pub join-all : (S : ℕ → ℕ → Type 0) (ps : List Conclusion) (leads : List ℕ) → Sound S leads → Allowed S (length leads) ps → Result S leads ps (join_all ps (by_leads leads))
unfolding join_all
join-all S [] leads s a =
    record { row = s; coarser = record { still = λ x y e. e; size = refl }; joins = λ p k. elim k [ ] }
join-all S (p ∷ ps) leads s a =
    go (join_leads leads (lead_of leads p.one) (lead_of leads p.two))
    (join_step S leads s p.one p.two (a.may p in_first) (a.first_in p in_first) (a.second_in p in_first))
    (λ l. join-all S ps l)
  where
    go : (g : Grouping) → Outcome S leads s p.one p.two g
        → ((l : List ℕ) → Sound S l → Allowed S (length l) ps → Result S l ps (join_all ps (by_leads l)))
        → Result S leads (p ∷ ps) (join_all ps g)
    go everything h rest = rw join_all_everything h
    go (by_leads l) h rest =
        onward S leads p ps l (join_all ps (by_leads l)) h
        (rest l h.row
        (record {
          may = λ q k. a.may q (Memᴰ.tail k);
          first_in = λ q k. rw h.coarser.size (a.first_in q (Memᴰ.tail k));
          second_in = λ q k. rw h.coarser.size (a.second_in q (Memᴰ.tail k));
        }))
