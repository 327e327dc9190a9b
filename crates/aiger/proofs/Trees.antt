-- The digital search tree: a search, and a node more.
-- Assumes nothing.
use mathlib.Core.Path.{◌≡◌, refl, sym, ◌∙◌, ap, subst}
use mathlib.Core.Logic.{◌≢◌}
use mathlib.Core.Bool.{Bool, true, false}
use mathlib.Core.List.Memᴰ
use mathlib.Core.List.{List, [], ◌∷◌}
use Prim.Native.Nat.{ℕ, zero, suc, ◌+◌, ◌-◌, ◌*◌, ◌/◌, ◌%◌, ◌≤◌, ◌<◌}
use native.Mathlib.Decide.{dec_lt, ℕ_discrete}
use native.Mathlib.Omega.{arith}
use lib.ListN.{length, get_or, set, take, replicate, length-set, length-replicate, get_or-replicate, get_or-eq_default}
use lib.Seq.{get_or-set_same, get_or-set_other, get_or-take, length-take-le}
use Rattle.clauses.specs.Clause.{Mem}
use Rattle.clauses.specs.Listing.{mem}
use Rattle.clauses.proofs.Clauses.{mem_in, in_mem}
use Rattle.aiger.specs.Tree.{below, Leads, here, on, Tree, Vacant}

-- Elements of a list, by their index

at_mem : (l : List ℕ) (i : ℕ) → i < length l → Mem (get_or l i 0) l
at_mem [] i h = absurd (omega arith)
at_mem (x ∷ l) zero h = Memᴰ.head refl
at_mem (x ∷ l) (suc i) h = Memᴰ.tail (at_mem l i (omega arith))

mem_at : (x : ℕ) (l : List ℕ) → Mem x l → (i : ℕ) × (i < length l) × (get_or l i 0 ≡ x)
mem_at x [] x'' = elim x'' [ ]
mem_at x (y ∷ l) (Memᴰ.head e) = (0, omega arith, sym e)
mem_at x (y ∷ l) (Memᴰ.tail m) = let t = mem_at x l m in (suc t.0, omega (arith, t.1), t.2)

module _ (x n : ℕ) (keys : List ℕ) (room : n ≤ length keys) where
  key_mem : (i : ℕ) → i < n → get_or keys i 0 ≡ x → mem x (take n keys) ≡ true
  key_mem i h e =
      in_mem (take n keys) (subst (λ (y : ℕ). Mem y (take n keys)) (get_or-take n keys i 0 h ∙ e) (at_mem (take n keys) i (omega (arith, length-take-le n keys room))))

  no_key_mem : ((i : ℕ) → i < n → get_or keys i 0 ≢ x) → mem x (take n keys) ≡ false
  no_key_mem h = go (mem x (take n keys)) refl
    where
      go : (b : Bool) → mem x (take n keys) ≡ b → b ≡ false
      go false e = refl
      go true e =
          let t = mem_at x (take n keys) (mem_in x (take n keys) e) in
          let low : t.0 < n = omega (arith, t.1, length-take-le n keys room) in
          absurd (h t.0 low (sym (get_or-take n keys t.0 0 low) ∙ t.2))

-- More links

-- l has all nodes of links where they are
Extends : List ℕ → List ℕ → Type 0
Extends links l = (slot : ℕ) → 0 < get_or links slot 0 → get_or l slot 0 ≡ get_or links slot 0

leads_extended : {links l : List ℕ} {i slot rest : ℕ} → Extends links l → Leads links i slot rest → Leads l i slot rest
unfolding Extends
leads_extended {slot = slot} f (here e) = here (f slot (omega (arith, e)) ∙ e)
leads_extended {slot = slot} f (on k e d) = on k (f slot (omega (arith, e)) ∙ e) (leads_extended f d)

set_extends : (links : List ℕ) (slot v : ℕ) → get_or links slot 0 ≡ 0 → Extends links (set links slot v)
unfolding Extends
set_extends links slot v e s h = get_or-set_other links slot s v 0 (λ q. omega (arith, h, e, ap (λ (t : ℕ). get_or links t 0) q))

-- A search

-- a search for x has come to a slot, with so much left of its net: it stands below, if it is a key
pub record Searching (x n : ℕ) (keys links : List ℕ) (slot rest node : ℕ) : Type 0 where
  pub here_is : node ≡ get_or links slot 0
  pub low : slot ≤ 2 * n
  ahead : (i : ℕ) → i < n → get_or keys i 0 ≡ x → Leads links i slot rest
  way : (i : ℕ) (l : List ℕ) → Extends links l → Leads l i slot rest → Leads l i 0 (x / 2)

module _ (x n : ℕ) (keys links : List ℕ) (tree : Tree n keys links) where
  pub search_starts : Searching x n keys links 0 (x / 2) (get_or links 0 0)
  search_starts =
      record {
        here_is = refl;
        low = omega arith;
        ahead = λ i h e. subst (λ (y : ℕ). Leads links i 0 (y / 2)) e (tree.leads i h);
        way = λ i l f d. d;
      }

  module _ (slot rest node : ℕ) (s : Searching x n keys links slot rest node) where
    pub search_absent : node ≤ 0 → Vacant x n keys links slot
    search_absent h =
        let empty : get_or links slot 0 ≡ 0 = omega (arith, s.here_is) in
        record {
          absent = no_key_mem x n keys tree.room (λ i k e. none empty (s.ahead i k e));
          low = s.low;
          empty = empty;
          leads = s.way n (set links slot (n + 1)) (set_extends links slot (n + 1) empty) (here (get_or-set_same links slot (n + 1) 0 (omega (arith, s.low, tree.room, tree.slots))));
        }
      where
        none : {i : ℕ} → get_or links slot 0 ≡ 0 → Leads links i slot rest → ⊥
        none e (here d) = omega (arith, e, d)
        none e (on k d m) = omega (arith, e, d)

    module _ (h : 0 < node) where
      node_low : node ≤ n
      node_low = omega (arith, s.here_is, tree.within slot)

      pub search_present : get_or keys (node - 1) 0 ≡ x → mem x (take n keys) ≡ true
      search_present e = key_mem x n keys tree.room (node - 1) (omega (arith, node_low)) e

      pub search_steps : get_or keys (node - 1) 0 ≢ x → Searching x n keys links (2 * node - 1 + rest % 2) (rest / 2) (get_or links (2 * node - 1 + rest % 2) 0)
      unfolding Extends
      search_steps e =
          let at : get_or links slot 0 ≡ node - 1 + 1 = omega (arith, s.here_is) in
          let next : 2 * node - 1 + rest % 2 ≡ below (node - 1) rest = omega arith in
          record {
            here_is = refl;
            low = omega (arith, node_low);
            ahead = λ i k d. rw next (other at i d (s.ahead i k d));
            way = λ i l f d. s.way i l f (on (node - 1) (extended l f at) (rw next at d));
          }
        where
          extended : (l : List ℕ) → Extends links l → get_or links slot 0 ≡ node - 1 + 1 → get_or l slot 0 ≡ node - 1 + 1
          extended l f at = f slot (omega (arith, at)) ∙ at

          other : get_or links slot 0 ≡ node - 1 + 1 → (i : ℕ) → get_or keys i 0 ≡ x → Leads links i slot rest → Leads links i (below (node - 1) rest) (rest / 2)
          other at i d (here q) = let same : node - 1 ≡ i = omega (arith, at, q) in absurd (e (rw same d))
          other at i d (on k q m) = let same : k ≡ node - 1 = omega (arith, at, q) in rw same at m

-- A node more

module _ (x n : ℕ) (keys links : List ℕ) (tree : Tree n keys links) (room : n < length keys) (slot : ℕ) (v : Vacant x n keys links slot) where
  pub tree_added : Tree (n + 1) (set keys n x) (set links slot (n + 1))
  tree_added =
      record {
        room = rw (length-set keys n x) (omega arith);
        slots = rw (length-set keys n x, length-set links slot (n + 1)) tree.slots;
        small = rw (length-set keys n x) tree.small;
        within = λ s. within s (ℕ_discrete s slot);
        rises = λ s h. rises s h (ℕ_discrete s slot);
        leads = λ i h. leads i h (ℕ_discrete i n);
      }
    where
      inside : slot < length links
      inside = omega (arith, v.low, tree.slots)

      same : get_or (set links slot (n + 1)) slot 0 ≡ n + 1
      same = get_or-set_same links slot (n + 1) 0 inside

      within : (s : ℕ) → Dec (s ≡ slot) → get_or (set links slot (n + 1)) s 0 ≤ n + 1
      within s (yes e) = rw (e, same) (omega arith)
      within s (no e) = rw (get_or-set_other links slot s (n + 1) 0 e) (omega (arith, tree.within s))

      rises : (s : ℕ) → 0 < get_or (set links slot (n + 1)) s 0 → Dec (s ≡ slot) → s + 2 ≤ 2 * get_or (set links slot (n + 1)) s 0
      rises s h (yes e) = rw (e, same) (omega (arith, v.low))
      rises s h (no e) = let o = get_or-set_other links slot s (n + 1) 0 e in rw o (tree.rises s (rw o at h))

      leads : (i : ℕ) → i < n + 1 → Dec (i ≡ n) → Leads (set links slot (n + 1)) i 0 (get_or (set keys n x) i 0 / 2)
      leads i h (yes e) = rw (e, get_or-set_same keys n x 0 room) v.leads
      leads i h (no e) =
          rw (get_or-set_other keys n i x 0 e) (leads_extended (set_extends links slot (n + 1) v.empty) (tree.leads i (omega arith)))

-- the tree of no key
pub tree_none : (k : ℕ) → k < 65535 → Tree 0 (replicate k 0) (replicate (2 * k + 1) 0)
tree_none k small =
    record {
      room = omega arith;
      slots = rw (length-replicate {A = ℕ} k 0, length-replicate {A = ℕ} (2 * k + 1) 0) (omega arith);
      small = rw (length-replicate {A = ℕ} k 0) small;
      within = λ s. omega (arith, zeros s);
      rises = λ s h. absurd (omega (arith, h, zeros s));
      leads = λ i h. absurd (omega arith);
    }
  where
    links : List ℕ
    links = replicate (2 * k + 1) 0

    zeros : (s : ℕ) → get_or links s 0 ≡ 0
    zeros s = go (dec_lt s (2 * k + 1))
      where
        go : Dec (s < 2 * k + 1) → get_or links s 0 ≡ 0
        go (yes h) = get_or-replicate (2 * k + 1) s 0 0 h
        go (no h) = get_or-eq_default links 0 (omega (arith, length-replicate {A = ℕ} (2 * k + 1) 0))
