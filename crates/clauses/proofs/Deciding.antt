-- Laws of tests that are checked in order.
-- Assumes nothing.
use mathlib.Core.Path.{◌≡◌, refl}
use mathlib.Core.Bool.{Bool, true, false, not, ◌||◌, false≢true}
use mathlib.Core.List.{List, [], ◌∷◌, ◌++◌, Memᴰ}
use Prim.Native.Nat.{ℕ}
use borrow.Table.Steps.{cases}
use Rattle.clauses.specs.Lists.{all}
use Rattle.clauses.specs.Listing.{mem}
use Rattle.clauses.specs.Refusal.{number_of, Test, decide}
use Rattle.clauses.specs.declared.refusal.Refusal.{Refusal}
use Rattle.clauses.proofs.Lists.{or_right, in_first, all_have}

-- no test holds
abbrev pub NoneHolds : List Test → Type 0
NoneHolds [] = Unit {0}
NoneHolds (t ∷ ts) = (t.holds ≡ false) × NoneHolds ts

pub none_holds_append : (ts us : List Test) → NoneHolds (ts ++ us) → NoneHolds ts × NoneHolds us
none_holds_append [] us n = (tt, n)
none_holds_append (t ∷ ts) us n =
    let rest : NoneHolds ts × NoneHolds us = none_holds_append ts us n.1 in
    ((n.0, rest.0), rest.1)

module _ {A : Type 0} (refused : Refusal → A) (accepted : A) where
  pub decide_accepted : (ts : List Test) → NoneHolds ts → decide refused accepted ts ≡ accepted
  unfolding decide
  decide_accepted [] n = refl
  decide_accepted (t ∷ ts) n = rw n.0 (decide_accepted ts n.1)

  pub decide_first : (t : Test) (ts : List Test) → t.holds ≡ true → decide refused accepted (t ∷ ts) ≡ refused t.refusal
  unfolding decide
  decide_first t ts e = rw e

  -- an answer with a property that no refusal has: no test holds
  pub decide_none_holds : (P : A → Type 0) → ((r : Refusal) → P (refused r) → ⊥) → (ts : List Test) → P (decide refused accepted ts) → NoneHolds ts
  unfolding decide
  decide_none_holds P never [] p = tt
  decide_none_holds P never (t ∷ ts) p =
      cases t.holds (λ e. absurd (never t.refusal (rw e at p))) (λ e. (e, decide_none_holds P never ts (rw e at p)))

  -- a property of every refusal and of the acceptance is one of the answer
  pub decide_either : (P : A → Type 0) → ((r : Refusal) → P (refused r)) → P accepted → (ts : List Test) → P (decide refused accepted ts)
  unfolding decide
  decide_either P r a [] = a
  decide_either P r a (t ∷ ts) =
      cases t.holds (λ e. rw e (r t.refusal)) (λ e. rw e (decide_either P r a ts))

  -- a property of the refusal of every test that holds and, where none holds, of the rest is one of the outcome
  pub decide_has : (P : A → Type 0) (ts : List Test) → ((t : Test) → Memᴰ t ts → t.holds ≡ true → P (refused t.refusal)) → (NoneHolds ts → P accepted)
      → P (decide refused accepted ts)
  unfolding decide
  decide_has P [] f g = g tt
  decide_has P (t ∷ ts) f g =
      cases t.holds (λ e. rw e (f t in_first e)) (λ e. rw e (decide_has P ts (λ u k h. f u (Memᴰ.tail k) h) (λ n. g (e, n))))

-- a test has one of these numbers, or does not hold
unfoldable pub is_among : List ℕ → Test → Bool
is_among ns t = mem (number_of t.refusal) ns || not t.holds

-- a test that does not hold
pub fails_among : (ns : List ℕ) (t : Test) → t.holds ≡ false → is_among ns t ≡ true
unfolding is_among
fails_among ns t e = rw e (or_right (mem (number_of t.refusal) ns) refl)

pub none_among : (ns : List ℕ) (ts : List Test) → NoneHolds ts → all (is_among ns) ts ≡ true
unfolding all
none_among ns [] n = refl
none_among ns (t ∷ ts) n = rw (fails_among ns t n.0, all) (none_among ns ts n.1)

among_number : (ns : List ℕ) (t : Test) → is_among ns t ≡ true → t.holds ≡ true → mem (number_of t.refusal) ns ≡ true
unfolding is_among
among_number ns t a h = cases (mem (number_of t.refusal) ns) (λ e. e) (λ e. absurd (false≢true (rw (e, h) at a)))

module _ {A : Type 0} (refused : Refusal → A) (accepted : A) where
  -- tests of which none but those with these numbers can hold: a property of every refusal with one of the numbers and, where no test holds, of the rest is one
  -- of the outcome
  pub decide_among : (P : A → Type 0) (ns : List ℕ) → ((r : Refusal) → mem (number_of r) ns ≡ true → P (refused r)) → (ts : List Test) → all (is_among ns) ts ≡ true
      → (NoneHolds ts → P accepted) → P (decide refused accepted ts)
  decide_among P ns p ts a g = decide_has refused accepted P ts (λ t k h. p t.refusal (among_number ns t (all_have (is_among ns) ts a t k) h)) g
