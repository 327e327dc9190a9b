-- Groupings: they are equivalences, they grow from round to round and with the clauses, and they stay as they are once a round changes nothing.
-- Assumes nothing.
use mathlib.Core.Path.{◌≡◌, subst}
use mathlib.Core.Logic.{inl, inr}
use mathlib.Core.Bool.{Bool, true, false}
use mathlib.Core.List.{List}
use Prim.Native.Nat.{ℕ, zero, suc, ◌≤◌}
use native.Mathlib.Omega.{arith}
use native.Mathlib.Decide.{ℕ_discrete}
use Rattle.clauses.specs.Code.{negate}
use Rattle.clauses.specs.Clause.{Included}
use Rattle.clauses.proofs.Renaming.{same_names, images_included}
use Rattle.clauses.specs.Sign.{flip}
use Rattle.rules.specs.Rule.{Concludes}
use Rattle.rules.specs.Grouping.{Closure, Next, After}
use Rattle.rules.specs.Ending.{Still}
use Rattle.rules.proofs.RenamedRules.{concludes_renamed, closure_renamed, after_renamed}

pub closure_flip : {R : ℕ → ℕ → Type 0} {a b : ℕ} (s : Bool) → Closure R a b → Closure R (flip s a) (flip s b)
closure_flip false h = h
closure_flip true h = Closure.inverses h

module _ (cs : List (List ℕ)) where
  pub after_same : (n a : ℕ) → After cs n a a
  unfolding After
  after_same zero a = Closure.same
  after_same (suc n) a = Closure.same

  pub after_back : (n a b : ℕ) → After cs n a b → After cs n b a
  unfolding After
  after_back zero a b h = Closure.back h
  after_back (suc n) a b h = Closure.back h

  pub after_chain : (n a b c : ℕ) → After cs n a b → After cs n b c → After cs n a c
  unfolding After
  after_chain zero a b c h k = Closure.chain h k
  after_chain (suc n) a b c h k = Closure.chain h k

  pub after_flip : (n : ℕ) (s : Bool) (a b : ℕ) → After cs n a b → After cs n (flip s a) (flip s b)
  unfolding After
  after_flip zero s a b h = closure_flip s h
  after_flip (suc n) s a b h = closure_flip s h

  pub after_clash : (n x : ℕ) → After cs n x (negate x) → After cs n 1 0
  unfolding After
  after_clash zero x h = Closure.clash h
  after_clash (suc n) x h = Closure.clash h

  pub after_all : (n a b : ℕ) → After cs n 1 0 → After cs n a b
  unfolding After
  after_all zero a b h = Closure.collapse h
  after_all (suc n) a b h = Closure.collapse h

  -- a round joins what the one before joined and what the rules draw from it
  pub after_grows : (n a b : ℕ) → After cs n a b → After cs (suc n) a b
  unfolding After
  after_grows n a b h = Closure.base (inl h)

  pub after_drawn : (n : ℕ) {a b : ℕ} → Concludes cs (After cs n) a b → After cs (suc n) a b
  unfolding After
  after_drawn n h = Closure.base (inr h)

  pub after_later : (n m a b : ℕ) → n ≤ m → After cs n a b → After cs m a b
  after_later n zero a b h k = subst (λ (i : ℕ). After cs i a b) (zero_only h) k
    where
      zero_only : n ≤ 0 → n ≡ 0
      zero_only q = omega arith
  after_later n (suc m) a b h k = go (ℕ_discrete n (suc m)) (after_later n m a b)
    where
      go : Dec (n ≡ suc m) → (n ≤ m → After cs n a b → After cs m a b) → After cs (suc m) a b
      go (yes e) ih = subst (λ (i : ℕ). After cs i a b) e k
      go (no e) ih = after_grows m a b (ih (omega arith) k)

-- A coarser grouping lets the rules draw more

pub concludes_more : (cs : List (List ℕ)) (G H : ℕ → ℕ → Type 0) → ((a b : ℕ) → G a b → H a b) → {a b : ℕ} → Concludes cs G a b → Concludes cs H a b
concludes_more cs G H up h = concludes_renamed (λ x. x) (λ x. x) same_names G H up cs cs (images_included (λ c p. p)) h

pub closure_more : (R S : ℕ → ℕ → Type 0) → ((a b : ℕ) → R a b → S a b) → {a b : ℕ} → Closure R a b → Closure S a b
closure_more R S up h = closure_renamed (λ x. x) (λ x. x) same_names R S up h

-- So do more clauses: what is joined after n rounds of a list is joined after n rounds of every list that holds its clauses
pub after_more : {cs ds : List (List ℕ)} → Included cs ds → (n a b : ℕ) → After cs n a b → After ds n a b
after_more {cs} {ds} more = after_renamed (λ x. x) (λ x. x) same_names cs ds (images_included more)

-- A round that changes nothing

-- before it everything is joined that is joined after any number of rounds
pub still_joined : (cs : List (List ℕ)) (n m a b : ℕ) → Still cs n → After cs m a b → After cs n a b
unfolding After
still_joined cs n zero a b s k = after_later cs 0 n a b (omega arith) k
still_joined cs n (suc m) a b s k = s a b (closure_more (Next cs (After cs m)) (Next cs (After cs n)) (go (λ x y. still_joined cs n m x y s)) k)
  where
    go : ((x y : ℕ) → After cs m x y → After cs n x y) → (x y : ℕ) → Next cs (After cs m) x y → Next cs (After cs n) x y
    go ih x y (inl h) = inl (ih x y h)
    go ih x y (inr h) = inr (concludes_more cs (After cs m) (After cs n) ih h)
