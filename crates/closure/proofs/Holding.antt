-- The row that holds the leads of a clause's literals but one.
-- Assumes nothing.
use mathlib.Core.Path.{◌≡◌, refl, sym, ◌∙◌, ap, subst}
use mathlib.Core.Logic.{◌≢◌, ◌⊎◌, inl, inr}
use mathlib.Core.Bool.{Bool, true, false, true≢false}
use mathlib.Core.List.{List}
use Prim.Native.Nat.{ℕ, zero, suc, ◌+◌, ◌*◌, ◌≤◌, ◌<◌}
use native.Mathlib.Omega.{arith}
use native.Mathlib.Decide.{ℕ_discrete}
use lib.ListN.{length, get_or, set, replicate}
use lib.Seq.{get_or-set_same, get_or-set_other}
use Rattle.clauses.specs.Limit.{max_nets}
use Rattle.clauses.specs.Row.{start_of}
use Rattle.clauses.proofs.StartOf.{literal_start}
use Rattle.rules.specs.Answer.{lead_of}
use Rattle.closure.specs.Passing.{lead_at}
use Rattle.closure.specs.Holding.{Blank, Low, Among, Holds, Put}
use Rattle.closure.specs.Marked.{Ready}
use Rattle.closure.specs.declared.tally.Tally.{Tally}
use Rattle.closure.proofs.Searches.{lead_false}
use Rattle.closure.proofs.Going.{ready_net}

-- the leads of the row's literals are low
pub ready_low : {row marks old new : List ℕ} {t : Tally} → Ready row marks old new t → Low row old
ready_low {row} {old = old} r q h = go (ℕ_discrete (get_or row q 0) 0)
  where
    go : Dec (get_or row q 0 ≡ 0) → lead_at row old q < 2 * max_nets + 2
    go (yes z) = omega (arith, ap (lead_of old) z ∙ lead_false old)
    go (no n) =
        omega (arith, ready_net r (start_of row q) q (literal_start row q h n), r.leads.low (get_or row q 0), r.nets)

module _ {row old : List ℕ} {b e p : ℕ} where
  -- with one more place
  pub among_on : {x : ℕ} → Among row old b e p x → Among row old b (e + 1) p x
  among_on a = record { place = a.place; low = a.low; high = omega (arith, a.high); apart = a.apart; lead = a.lead }

  pub among_last : e ≢ p → b ≤ e → Among row old b (e + 1) p (lead_at row old e)
  among_last n h = record { place = e; low = h; high = omega arith; apart = n; lead = refl }

  -- without the last one
  pub among_but : {x : ℕ} → Among row old b (e + 1) p x → (e ≡ p) ⊎ (lead_at row old e ≢ x) → Among row old b e p x
  among_but {x} a n = record { place = a.place; low = a.low; high = go n (ℕ_discrete a.place e); apart = a.apart; lead = a.lead }
    where
      go : (e ≡ p) ⊎ (lead_at row old e ≢ x) → Dec (a.place ≡ e) → a.place < e
      go m (no d) = omega (arith, a.high)
      go (inl m) (yes d) = absurd (a.apart (d ∙ m))
      go (inr m) (yes d) = absurd (m (sym (ap (lead_at row old) d) ∙ a.lead))

-- Place by place

module _ {row old : List ℕ} {b p : ℕ} {v : Bool} {held : List Bool} where
  pub put_begin : Put row old b b p v held held
  put_begin = record { each = λ x a. absurd (omega (arith, a.low, a.high)); others = λ x. inl refl }

  module _ {held' : List Bool} {q : ℕ} (w : Put row old b q p v held held') where
    pub put_skip : q ≡ p → Put row old b (q + 1) p v held held'
    put_skip d = record { each = λ x a. w.each x (among_but a (inl d)); others = λ x. go x (w.others x) }
      where
        go : (x : ℕ) → (get_or held' x false ≡ get_or held x false) ⊎ Among row old b q p x → (get_or held' x false ≡ get_or held x false) ⊎ Among row old b (q + 1) p x
        go x (inl k) = inl k
        go x (inr a) = inr (among_on a)

    pub put_on : b ≤ q → q ≢ p → (y : ℕ) → y ≡ lead_at row old q → y < length held' → Put row old b (q + 1) p v held (set held' y v)
    put_on h n y is room = record { each = λ x a. each x a (ℕ_discrete x y); others = λ x. others x (ℕ_discrete x y) (w.others x) }
      where
        each : (x : ℕ) → Among row old b (q + 1) p x → Dec (x ≡ y) → get_or (set held' y v) x false ≡ v
        each x a (yes d) = rw d (get_or-set_same held' y v false room)
        each x a (no d) = rw (get_or-set_other held' y x v false d) (w.each x (among_but a (inr (λ k. d (sym k ∙ sym is)))))

        others : (x : ℕ) → Dec (x ≡ y) → (get_or held' x false ≡ get_or held x false) ⊎ Among row old b q p x
            → (get_or (set held' y v) x false ≡ get_or held x false) ⊎ Among row old b (q + 1) p x
        others x (yes d) k = inr (subst (Among row old b (q + 1) p) (sym (d ∙ is)) (among_last n h))
        others x (no d) (inl k) = inl (rw (get_or-set_other held' y x v false d) k)
        others x (no d) (inr a) = inr (among_on a)

-- All places

module _ {row old : List ℕ} {b e p : ℕ} {held held' : List Bool} (size : length held' ≡ length held) where
  pub held_all : Blank held → Put row old b e p true held held' → Holds row old b e p held'
  held_all (z, h) w = record { each = w.each; only = λ x n. go x n (w.others x); room = omega arith }
    where
      go : (x : ℕ) → get_or held' x false ≡ true → (get_or held' x false ≡ get_or held x false) ⊎ Among row old b e p x → Among row old b e p x
      go x n (inl k) = absurd (true≢false (sym n ∙ k ∙ z x))
      go x n (inr a) = a

  pub held_none : Holds row old b e p held → Put row old b e p false held held' → Blank held'
  held_none k w = (λ x. go x (w.others x) (get_or held x false) refl, omega (arith, k.room))
    where
      go : (x : ℕ) → (get_or held' x false ≡ get_or held x false) ⊎ Among row old b e p x → (m : Bool) → get_or held x false ≡ m → get_or held' x false ≡ false
      go x (inr a) m d = w.each x a
      go x (inl i) true d = w.each x (k.only x d)
      go x (inl i) false d = i ∙ d

-- a row that is made holds none
pub unset_at : (n x : ℕ) → get_or (replicate n false) x false ≡ false
unset_at zero x = refl
unset_at (suc n) zero = refl
unset_at (suc n) (suc x) = unset_at n x
